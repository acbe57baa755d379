use Rattle.std.proofs.{lemmas.List.length-take-le, Common.{ℕ, Bool, ◌*◌, ◌∙◌, ap, take, count_by, ◌≡◌, ◌<◌, ◌≤◌, ◌/◌, ◌&&◌, length, refl, rules, arith, nat_lt}}
use Rattle.{std.proofs.Common.{nat_le, ◌==◌, if◌then◌else◌}, tally_base.specs.{Events.is_in, Settings.hist_view, Codes.dtime_in, Columns.{code_at, dtime_at}}}
use Rattle.{tally_base.specs.Columns.{groups_at, item, rows}, tcspc_hist.proofs.Blocks.{count-picked, count-row, one_at_most}}
use Rattle.tcspc_hist.specs.HistogramCounts.{count_dtimes, count_over}
use Rattle.tcspc_hist.proofs.hist.count_block.Goals as goal

pub loop-at-init : goal.loop-at-init
loop-at-init c =
    let set = hist_view c.args.set.now in
    let block = c.args.block.now in
    let n = 8 * (c.min-len.result / 8) in
    let many = c.pick-many.result in
    let marks = c.pick-many.new.marks in
    let e = c.add_marks-over.ensures in
    let rest = rows (item block) n in
    let picked : (test : ℕ → Bool) → count_by (λ mark. test (dtime_in mark)) (take many marks) ≡ count_dtimes set test rest = λ test.
    ap (count_by (λ mark. test (dtime_in mark))) c.pick-many.ensures.picked ∙ count-picked set test block n in
    let past : count_dtimes set (λ dtime. nat_le (length c.args.cells.now) (dtime / set.width)) rest ≡ count_over set rest = rw c.requires.sized refl in
    let room : many ≤ length marks = omega (arith, c.pick-many.ensures.few, c.pick-many.array_long, c.min-len.ensures) in
    record {
      cells = λ b lt. omega (arith, e.cells b (omega (arith, lt, c.requires.sized)), picked (λ dtime. dtime / set.width == b));
      over = omega (arith, e.over, picked (λ dtime. nat_le (length c.args.cells.now) (dtime / set.width)), past);
      few = omega (arith, e.few, c.pick-many.ensures.few, length-take-le many marks room);
    }

pub loop-at-preserved : goal.loop-at-preserved
loop-at-preserved c =
    let inv = c.loop-at.invariant in
    let set = hist_view c.args.set.now in
    let block = c.args.block.now in
    let at = c.loop-at.at in
    let more = c.photons_in-more.result in
    let bin = c.bin_of-bin.result in
    let is_more : more ≡ (if is_in (groups_at block at) set.group && nat_lt (code_at block at) 256 then 1 else 0) = c.photons_in-more.ensures in
    let is_bin : bin ≡ dtime_at block at / set.width = search rules in
    let same : length c.loop-at.cells ≡ set.bins = search rules in
    record {
      cells = λ b lt.
          let inside : b < length c.loop-at.cells = omega (arith, same, lt) in
          let row = count-row set (λ dtime. dtime / set.width == b) block at in
          let added : (if bin == b then more else 0) ≡ (if dtime_at block at / set.width == b then
          (if is_in (groups_at block at) set.group && nat_lt (code_at block at) 256 then 1 else 0) else 0) = rw (is_bin, is_more) refl in
          let put = c.put.ensures.cells b inside in
          omega (arith, put, inv.cells b lt, row, added);
      over =
          let row = count-row set (λ dtime. nat_le set.bins (dtime / set.width)) block at in
          let added : (if nat_le (length c.loop-at.cells) bin then more else 0) ≡ (if nat_le set.bins (dtime_at block at / set.width) then (if is_in (groups_at block at) set.group && nat_lt (code_at block at) 256 then 1 else 0) else 0) = rw (same, is_bin, is_more) refl in
          omega (arith, c.put.ensures.rest, inv.over, row, added);
      few =
          let one : (if is_in (groups_at block at) set.group && nat_lt (code_at block at) 256 then 1 else 0) ≤ 1 =
          one_at_most (is_in (groups_at block at) set.group && nat_lt (code_at block at) 256) in
          omega (arith, c.put.ensures.sum, inv.few, is_more, one);
    }
