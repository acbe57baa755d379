use Rattle.{std.proofs.Common.{◌≡◌, ◌+◌, map, get_or, refl, ◌∙◌}, tally_base.specs.Settings.group_view, gate_plan.specs.Parting.{plain_bits, gated_bits}}
use Rattle.gate_plan.{specs.Parting.gated_sum, proofs.Parts.{parted_fits, few_groups}}
use Rattle.gate_plan.proofs.gates.Gates.of.Goals as goal

pub invariant_of-result-clause-shifts_are : goal.invariant_of-result-clause-shifts_are
invariant_of-result-clause-shifts_are c = rw c.as_slice-2.ensures.value at c.shift_table-shift_by_input.ensures

pub invariant_of-result-clause-only_is : goal.invariant_of-result-clause-only_is
invariant_of-result-clause-only_is c = λ gate is input dtime below.
    let groups = map group_view c.clone_groups-groups.result.items in
    let plain = c.plain_table-plain.ensures.inputs input below in
    let gated = c.gated_of-gated.ensures.bits input dtime in
    let same : get_or c.plain_table-plain.result input 0 + gated_sum c.as_slice-3.result.now input dtime ≡ plain_bits
    groups input + gated_bits groups input dtime = rw (c.as_slice-3.ensures.value, plain, gated) refl in
    let fits = parted_fits groups input dtime (few_groups c.clone_groups-groups.result.items c.clone_groups-groups.ensures.few) in
    c.only_gate-only.ensures.groups gate is input dtime below (rw same fits) ∙ same

pub invariant_of-result-clause-only_one : goal.invariant_of-result-clause-only_one
invariant_of-result-clause-only_one c = cc
