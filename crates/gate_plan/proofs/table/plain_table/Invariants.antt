use Rattle.{std.proofs.Common.{◌≡◌, ◌<◌, ℕ, map, length, get_or}, tally_base.specs.Settings.group_view, gate_plan.specs.Parting.plain_bits}
use Rattle.gate_plan.proofs.table.plain_table.Given as goal

abbrev pub invariant-loop-input : goal.invariant-loop-input
invariant-loop-input l = record {
  sized : length l.table ≡ 257;
  filled : (input : ℕ) → input < l.input → get_or l.table input 0 ≡ plain_bits (map group_view l.groups.items) input;
  markers : get_or l.table 256 0 ≡ 0;
}
