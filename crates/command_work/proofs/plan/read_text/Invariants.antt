use Rattle.{std.proofs.Common.{◌≡◌, ◌-◌, ◌≤◌, length, take, None}, tally_base.specs.declared.slot.Slot.TheVariants.Plan as PlanSlot}
use Rattle.{bench_io.specs.{Given.Consumes, Inputs.OnlyReads}, command_work.specs.Outcomes.{SaysNoEnd, InputsOnce}}
use Rattle.command_work.proofs.plan.read_text.Given as goal

-- the first bytes of the text are those that were taken
abbrev pub invariant-pieces : goal.invariant-pieces
invariant-pieces g l =
    let state = g.I.Inputs.state in
    record {
      reads : OnlyReads PlanSlot (state l.initial.inputs) (state l.inputs);
      once : InputsOnce (state l.initial.inputs) (state l.inputs) None;
      fits : l.len ≤ length l.text;
      size : length l.text ≡ length l.initial.text;
      taken : Consumes ((state l.initial.inputs).given PlanSlot) ((state l.inputs).given PlanSlot) (take l.len l.text);
      unended : SaysNoEnd ((state l.initial.inputs).given PlanSlot) ((state l.inputs).given PlanSlot);
    }

abbrev pub decreases-pieces : goal.decreases-pieces
decreases-pieces g l = length l.text - l.len
