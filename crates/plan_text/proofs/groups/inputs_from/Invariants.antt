use Rattle.{std.proofs.Common.{◌≡◌, ◌+◌, ◌<◌, ◌≤◌, ◌^◌, map, drop, option_map}, toml.specs.View.view, plan_text.specs.Groups.inputs_from}
use Rattle.plan_text.proofs.groups.inputs_from.Given as goal

abbrev pub invariant-items : goal.invariant-items
invariant-items l = record {
  low : l.low ≤ 65;
  some : 0 < l.item-index → 0 < l.inputs;
  below : l.inputs < 2 ^ l.low;
  rest : option_map (λ set. l.inputs + set) (inputs_from l.low (map view (drop l.item-index l.items))) ≡ inputs_from 0 (map view l.items);
}
