use Rattle.{std.proofs.Common.{◌≡◌, ◌<◌, ◌≤◌, ℕ, filter, length, slice_index}, tally_base.specs.Columns.{event_at, rows}, gate_plan.specs.Groups.sorting_of}
use Rattle.photon_pick.specs.{Chosen.is_chosen, Giving.events_at}
use Rattle.photon_pick.proofs.choosing.choose.Given as goal

abbrev pub invariant-loop-at : goal.invariant-loop-at
invariant-loop-at l = record {
  sized : length l.places ≡ 1024;
  few : l.chosen ≤ l.at;
  inside : (k : ℕ) → k < l.chosen → slice_index l.places k < l.at;
  chosen : events_at l.block l.places l.chosen ≡ filter (is_chosen (sorting_of l.gates) l.group) (rows (event_at l.block) l.at);
}
