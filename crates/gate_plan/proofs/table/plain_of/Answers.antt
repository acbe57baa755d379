use Rattle.{std.proofs.Common.arith, gate_plan.{specs.Parting.takes_plainly, proofs.Parts.{bits_kept, below_next, added_most}}}
use Rattle.gate_plan.proofs.table.plain_of.Goals as goal

pub groups-preserved : goal.groups-preserved
groups-preserved c =
    let kept = c.groups.invariant in
    let adds = c.bit_if-bits.ensures in
    record {
      place = omega (arith, kept.place);
      few = kept.few;
      below = below_next c.groups.bits c.groups.place c.bit_if-bits.result kept.below (rw adds (added_most c.is_plain.result _));
      rest = bits_kept (takes_plainly c.args.input) c.groups.bits c.groups.place c.bit_if-bits.result c.groups.group-index c.as_slice-items.result.now c.group-item.result c.is_plain.result _ c.groups-test.true c.group-item.is c.is_plain.ensures adds kept.rest;
    }
