use Rattle.{std.proofs.Common.{◌≡◌, ◌+◌, sum, take, nat_lt}, fold_count.specs.Folded.{GainsBefore, photons_where}}
use Rattle.fold_count.proofs.waiting.count_front.Given as goal

abbrev pub invariant-loop-bin : goal.invariant-loop-bin
invariant-loop-bin l = record {
  cells : GainsBefore l.fn.cells l.cells l.before (take l.bin-index l.bins);
  sum : sum l.cells ≡ sum l.fn.cells + photons_where (λ tick. nat_lt tick l.before) (take l.bin-index l.bins);
}
