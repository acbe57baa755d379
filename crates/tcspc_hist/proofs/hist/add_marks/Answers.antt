use Rattle.{std.proofs.Common.{◌≡◌, ℕ, ◌/◌, ◌==◌, length, get_or, refl, rules, arith, nat_le, if◌then◌else◌}, tally_base.specs.Codes.dtime_in}
use Rattle.tcspc_hist.proofs.Blocks.{count-taken}
use Rattle.tcspc_hist.proofs.hist.add_marks.Goals as goal

pub loop-at-preserved : goal.loop-at-preserved
loop-at-preserved c =
    let inv = c.loop-at.invariant in
    let width = c.args.set.now.width in
    let marks = c.args.marks.now in
    let at = c.loop-at.at in
    let bin = c.bin_of-bin.result in
    let is_bin : bin ≡ dtime_in (get_or marks at 0) / width = search rules in
    let same : length c.loop-at.cells ≡ length c.args.cells.now = search rules in
    record {
      cells = λ b lt.
          let more = count-taken (λ mark. dtime_in mark / width == b) marks at c.loop-at-test.true in
          let added : ◌≡◌ {A = ℕ} (if bin == b then 1 else 0) (if dtime_in (get_or marks at 0) / width == b then 1 else 0) = rw is_bin refl in
          omega (arith, c.put.ensures.cells b (omega (arith, same, lt)), inv.cells b lt, more, added);
      over =
          let more = count-taken (λ mark. nat_le (length c.args.cells.now) (dtime_in mark / width)) marks at c.loop-at-test.true in
          let added : ◌≡◌ {A = ℕ} (if nat_le (length c.loop-at.cells) bin then 1 else 0) (if nat_le (length c.args.cells.now) (dtime_in (get_or marks at 0) / width) then 1 else 0) = rw (same, is_bin) refl in
          omega (arith, c.put.ensures.rest, inv.over, more, added);
      few = omega (arith, c.put.ensures.sum, inv.few);
    }
