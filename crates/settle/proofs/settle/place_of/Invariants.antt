use Rattle.{std.{proofs.Common.{◌<◌, ◌≤◌, length}, specs.List.AllWithin}, tally_base.specs.declared.event.Event.Event}
use Rattle.settle.proofs.settle.place_of.Given as goal

abbrev pub invariant-loop-at : goal.invariant-loop-at
invariant-loop-at l = record {
  within : l.at ≤ length l.events;
  after : AllWithin (λ (x : Event). l.time < x.time) l.events l.at (length l.events);
}

abbrev pub decreases-loop-at : goal.decreases-loop-at
decreases-loop-at l = l.at
