-- The greatest time of the events that a taker is given.
use Rattle.std.specs.Prelude.{ℕ, Bool, true, false, ◌&&◌, not, if◌then◌else◌}
use Rattle.tally_base.specs.{declared.{event.Event.Event, header.Mode.{Mode, TheVariants.{T2, T3}}}, Events.is_ordered}

-- the greatest time of the ordered events that weren't marked late, with one more event after them
abbrev pub moved_floor : Mode → ℕ → Event → Bool → ℕ
moved_floor mode floor e late = if is_ordered mode e && not late then e.time else floor

-- markers come in the order of their times, as photons do
abbrev pub orders_markers : Mode → Bool
orders_markers T2 = false
orders_markers T3 = true
