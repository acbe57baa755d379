use Rattle.{std.proofs.Common.{◌≡◌, ◌+◌, ◌*◌, ◌^◌, ◌≤◌, ◌++◌, ℕ, map, drop, length}, tally_base.specs.Settings.group_view, gate_plan.specs.Taking.bits_of}
use Rattle.gate_plan.specs.Parting.{takes_gated, gated_bits, gated_sum, all_gates, gates_in}
use Rattle.gate_plan.proofs.table.gated_of.Given as goal

abbrev pub invariant-groups : goal.invariant-groups
invariant-groups l = record {
  place : l.place ≡ l.group-index;
  few : length l.items ≤ 64;
  room : length l.gated.items ≤ l.place;
  gates : gates_in l.gated.items ++ all_gates (map group_view (drop l.group-index l.items)) ≡ all_gates (map group_view l.items);
  rest : (input dtime : ℕ) → gated_sum l.gated.items input dtime + 2 ^ l.place * bits_of
      (map (takes_gated input dtime) (map group_view (drop l.group-index l.items))) ≡ gated_bits (map group_view l.items) input dtime;
}
