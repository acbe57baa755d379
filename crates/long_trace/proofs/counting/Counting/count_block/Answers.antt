use Rattle.{std.proofs.Common.{◌≡◌, ◌∙◌, ◌<◌, ◌≤◌, [], ◌∷◌, false, max, refl, sym, ap, rules, arith, nat_lt, if◌then◌else◌}, tally_base.specs.Events.is_photon}
use Rattle.tally_base.{specs.{Events.is_in, Settings.trace_view, Columns.{item, event_at, groups_at, code_at, time_at, rows}}, proofs.Floors.moves_row}
use Rattle.{tally_base.proofs.{Floors.{order-at, floor-more}, BlockRows.{length-rows, more_rows}}, count_trace.proofs.Blocks.{count-row, one_at, one_at_most}}
use Rattle.long_trace.{specs.States.CanCount, proofs.BinSteps.{some-photon, other-way, low-next, CountsOn-trans}}
use Rattle.long_trace.proofs.counting.Counting.count_block.Goals as goal

pub count_at-requires : goal.count_at-requires
count_at-requires c =
    let b = c.args.block.now in
    let at = c.loop-at.at in
    let inv = c.loop-at.invariant in
    let inside : at < b.len = search (rules, arith) in
    let few : at < 1024 = search (rules, arith) in
    let most = one_at_most (trace_view c.args.self.now.set) b at in
    let next = order-at false c.args.floor (event_at b) b.len at inside c.requires.block.1 in
    let order : 0 < c.photons_in-more.result → c.loop-at.own.newest.bin.low ≤ max c.time.result c.loop-at.own.set.origin = λ some. search (rules, arith, moves_row, some-photon) in
    let can : CanCount c.loop-at.own c.loop-at.closed c.time.result c.photons_in-more.result = search (rules, arith, length-rows) in
    (search rules, (can, omega (arith, inv.room, few)))

pub loop-at-preserved : goal.loop-at-preserved
loop-at-preserved c =
    let inv = c.loop-at.invariant in
    let b = c.args.block.now in
    let set = trace_view c.args.self.now.set in
    let at = c.loop-at.at in
    let inside : at < b.len = search (rules, arith) in
    let next = order-at false c.args.floor (event_at b) b.len at inside c.requires.block.1 in
    let added = c.count_at.ensures.counted in
    let photon = moves_row false b at in
    let most = one_at_most set b at in
    let same = inv.counted.same_set in
    let sets : trace_view c.loop-at.own.set ≡ set = ap trace_view same in
    record {
      stands = record { step = added.step; low = search (rules, arith, low-next, floor-more) };
      counted = record {
        same_set = added.same_set ∙ inv.counted.same_set;
        few = search (rules, arith, length-rows);
        filled = search (rules, arith, length-rows);
        before =
            let more : (if nat_lt c.time.result c.loop-at.own.set.origin then c.photons_in-more.result else 0) ≡
            (if nat_lt (time_at b at) set.origin then one_at set b at else 0) = rw (c.time.ensures, c.photons_in-more.ensures, same) refl in
            omega (arith, inv.counted.before, added.before, more, count-row set (λ time. nat_lt time set.origin) b at);
        counts =
            rw (more_rows (item b) at)
            (CountsOn-trans set _ _ _ (rows (item b) at) (item b at ∷ []) [] c.loop-at.lines.items c.count_at.new.lines.items inv.counted.counts
            (rw sets at (c.count_at.ensures.counts (event_at b at) (groups_at b at) (sym c.time.ensures) (c.photons_in-more.ensures ∙ other-way (is_in (groups_at b at) c.loop-at.own.set.group) (nat_lt (code_at b at) 256) (is_photon (event_at b at)) photon))));
      };
      room = omega (arith, inv.room, c.count_at.ensures.len);
    }
