use Rattle.std.proofs.{Common.{◌≡◌, ◌∙◌, ◌+◌, ◌++◌, true, false, length, ap, rules, arith, append_assoc, nat_lt}, lemmas.Bool.Decides.nat_tests}
use Rattle.tally_base.{specs.{Settings.startstop_view, Tally.moves_floor, Columns.{item, event_at, rows, code_at}}, proofs.Floors.{moves_row, floor-more}}
use Rattle.{tally_base.proofs.{Floors.order-at, BlockRows.more_rows}, coincidence.{specs.Starts.since_in, proofs.Blocks.{photon_step, marker_step, in_group}}}
use Rattle.coincidence.proofs.{Blocks.{later, kept_floor}, counting.count_block.Goals.{then-code-lt256, else-code-lt256}}
use Rattle.coincidence.proofs.counting.count_block.Goals as goal

pub overflow_sub-time : goal.overflow_sub-time
overflow_sub-time c =
    let b = c.args.block.now in
    let at = c.loop-at.at in
    let photon : nat_lt (code_at b at) 256 ≡ true = grind (arith, nat_tests, c.if-code-lt256.true, c.code.ensures) in
    let next = order-at false (since_in c.args.start.now) (event_at b) b.len at (search (rules, arith)) c.requires.in_order in
    rw c.time-time.ensures (omega (arith, c.loop-at.invariant.begun, next.1 (moves_row false b at ∙ photon)))

pub loop-at-preserved : goal.loop-at-preserved
loop-at-preserved c =
    let inv = c.loop-at.invariant in
    let b = c.args.block.now in
    let at = c.loop-at.at in
    let same : length c.loop-at.cells ≡ (startstop_view c.args.set.now).bins = search rules in
    let next = order-at false (since_in c.args.start.now) (event_at b) b.len at (search (rules, arith)) c.requires.in_order in
    let moved = floor-more false (since_in c.args.start.now) (event_at b) at in
    elim c.if-code-lt256.branch [
      | then-code-lt256 w ↦
          let photon : nat_lt (code_at b at) 256 ≡ true = grind (arith, nat_tests, w.if-code-lt256.true, c.code.ensures) in
          let moves = moves_row false b at ∙ photon in
          let is_bin = rw w.time-time.ensures at w.bin_of-bin.ensures in
          let put = w.put-over.ensures in
          let behind = rw w.time-time.ensures at w.start_behind-last.ensures in
          let starts = in_group _ _ _ photon w.has_photon-starts.ensures in
          let stops = in_group _ _ _ photon w.has_photon-stops.ensures in
          rw (w.cells-is, w.last-is, w.over-is) (record {
            counted = λ h is. rw (more_rows (item b) at, ← append_assoc) (photon_step _ _ w.put-over.new.cells _ _ _ _ _ w.start_behind-last.result (h ++ rows (item b) at) (item b at) w.has_photon-starts.result w.has_photon-stops.result moves starts stops is_bin w.ended.ensures.value (λ n lt. put.cells n (rw same lt)) (ap (λ n. c.loop-at.over + n) (rw same at put.rest)) behind.value (inv.counted h is));
            few = omega (arith, put.sum, inv.few, w.ended.ensures.one);
            begun = search (rules, arith, later);
          })
      | else-code-lt256 w ↦
          let marker : nat_lt (code_at b at) 256 ≡ false = grind (arith, nat_tests, w.if-code-lt256.false, c.code.ensures) in
          let stays = moves_row false b at ∙ marker in
          rw (w.cells-is, w.last-is, w.over-is) (record {
            counted = λ h is. rw (more_rows (item b) at, ← append_assoc) (marker_step _ _ _ _ (h ++ rows (item b) at) (item b at) stays (inv.counted h is));
            few = omega (arith, inv.few);
            begun = rw moved (kept_floor (moves_floor false (event_at b at)) stays _ _ _ inv.begun);
          })
    ]
