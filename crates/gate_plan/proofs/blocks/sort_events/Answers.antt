use Rattle.{std.proofs.Common.{◌≡◌, ◌∙◌, ap, map}, tally_base.specs.Columns.gathered, gate_plan.specs.{Groups.sorting_of, Shifting.shifted, Histories.grouped}}
use Rattle.gate_plan.proofs.{Histories.same_events, blocks.sort_events.Goals.{then-has_shifts, else-has_shifts}}
use Rattle.gate_plan.proofs.blocks.sort_events.Goals as goal

pub returns : goal.returns
returns c =
    let by = sorting_of c.args.gates.now in
    let old = gathered c.args.block.now in
    let shifts : gathered c.if-has_shifts.block ≡ map (shifted by) old =
    elim c.if-has_shifts.branch [
      | then-has_shifts w ↦ rw w.block-is w.shift_each.ensures.shifted
      | else-has_shifts w ↦ rw w.block-is (same_events by old (c.has_shifts.ensures.0 w.if-has_shifts.false))
    ] in
    record {
      shifted = c.sort.ensures.same ∙ shifts;
      sorted = c.sort.ensures.found ∙ ap (grouped by.groups) shifts;
      ready = c.sort.ensures.ready;
    }
