use Rattle.{std.proofs.{Common.{◌≡◌, [], arith, length, ap, length-append}, lemmas.List.Sums.sum_by_push}, gate_plan.specs.Parting.{gated_bit, gated_sum}}
use Rattle.gate_plan.proofs.{Parts.{gated_some, gated_none, none_left, gates_some, gates_none}, table.gated_of.Goals.{then-not-is_empty, else-not-is_empty}}
use Rattle.gate_plan.proofs.table.gated_of.Goals as goal

pub groups-preserved : goal.groups-preserved
groups-preserved c =
    let kept = c.groups.invariant in
    elim c.if-not-is_empty.branch [
      | then-not-is_empty w ↦ record {
        place = omega (arith, kept.place);
        few = kept.few;
        room = rw w.gated-is (omega (arith, ap length w.push.ensures.items, length-append c.groups.gated.items, kept.room));
        gates = rw (w.gated-is, w.push.ensures.items)
            (gates_some c.groups.gated.items _ c.groups.group-index c.as_slice-items.result.now c.group-item.result
            c.groups-test.true c.group-item.is w.gated_at.ensures.gates kept.gates);
        rest = λ input dtime.
            rw (w.gated-is, w.push.ensures.items, sum_by_push (gated_bit input dtime))
            (gated_some input dtime (gated_sum c.groups.gated.items input dtime) c.groups.place c.groups.group-index c.as_slice-items.result.now c.group-item.result _ _ c.groups-test.true c.group-item.is (w.gated_at.ensures.bit input dtime) (kept.rest input dtime));
      }
      | else-not-is_empty w ↦
          let none : c.group-item.result.gates.items ≡ [] =
          none_left c.group-item.result.gates.items c.is_empty.result c.is_empty.ensures w.if-not-is_empty.false in
          record {
            place = omega (arith, kept.place);
            few = kept.few;
            room = rw w.gated-is (omega (arith, kept.room));
            gates = rw w.gated-is
                (gates_none c.groups.gated.items c.groups.group-index c.as_slice-items.result.now c.group-item.result c.groups-test.true c.group-item.is none kept.gates);
            rest = λ input dtime. rw w.gated-is (gated_none input dtime (gated_sum c.groups.gated.items input dtime) c.groups.place c.groups.group-index c.as_slice-items.result.now c.group-item.result _ c.groups-test.true c.group-item.is none (kept.rest input dtime));
          }
    ]
