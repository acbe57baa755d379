use Rattle.{std.proofs.Common.{ℕ, ◌≡◌, ◌<◌, ◌+◌, ◌/◌, ◌==◌, sum, slice_index, length, take, count_by, nat_le}, tally_base.specs.Codes.dtime_in}
use Rattle.tcspc_hist.proofs.hist.add_marks.Given as goal

abbrev pub invariant-loop-at : goal.invariant-loop-at
invariant-loop-at l = record {
  cells : (b : ℕ) → b < length l.fn.cells → slice_index l.cells b ≡ slice_index l.fn.cells b + count_by (λ mark. dtime_in mark / l.set.width == b) (take l.at l.marks);
  over : l.over ≡ l.fn.over + count_by (λ mark. nat_le (length l.fn.cells) (dtime_in mark / l.set.width)) (take l.at l.marks);
  few : sum l.cells + l.over ≡ sum l.fn.cells + l.fn.over + l.at;
}
