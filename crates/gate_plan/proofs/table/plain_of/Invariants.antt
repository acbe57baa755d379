use Rattle.{std.proofs.Common.{◌≡◌, ◌+◌, ◌*◌, ◌^◌, ◌<◌, ◌≤◌, map, drop, length}, tally_base.specs.Settings.group_view, gate_plan.specs.Taking.bits_of}
use Rattle.gate_plan.specs.Parting.{takes_plainly, plain_bits}
use Rattle.gate_plan.proofs.table.plain_of.Given as goal

abbrev pub invariant-groups : goal.invariant-groups
invariant-groups l = record {
  place : l.place ≡ l.group-index;
  few : length l.items ≤ 64;
  below : l.bits < 2 ^ l.place;
  rest : l.bits + 2 ^ l.place * bits_of (map (takes_plainly l.input) (map group_view (drop l.group-index l.items))) ≡ plain_bits
      (map group_view l.items) l.input;
}
