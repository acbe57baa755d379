use Rattle.{std.proofs.Common.{◌≡◌, ◌<◌, ℕ, [], ◌∷◌, length, get_or}, gate_plan.specs.Parting.on_sides}
use Rattle.gate_plan.proofs.table.sides_table.Given as goal

abbrev pub invariant-loop-input : goal.invariant-loop-input
invariant-loop-input l = record {
  sized : length l.table ≡ 257;
  filled : (input : ℕ) → input < l.input → get_or l.table input [] ≡ on_sides l.plain l.group input;
  markers : get_or l.table 256 [] ≡ 0 ∷ 0 ∷ [];
}
