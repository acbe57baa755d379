use Rattle.std.proofs.Common.{◌≡◌, true}
use Rattle.file_tests.proofs.made.whole.Given as goal

abbrev pub invariant-loop : goal.invariant-loop
invariant-loop g l = (g.I.Inputs.state l.inputs).opened l.slot ≡ true
