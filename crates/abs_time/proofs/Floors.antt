-- The greatest time with one event more.
use Rattle.std.proofs.{Common.{◌≡◌, ◌≤◌, ℕ, [], ◌∷◌, ◌++◌, Bool, true, false, max, refl, arith, ◌∙◌, ◌&&◌, not, IsTrue, if◌then◌else◌}, Props.props}
use Rattle.tally_base.specs.declared.{header.Mode.{TheVariants.{T2, T3}, Mode}, event.{Event.Event, EventKind.{EventKind, TheVariants.{Photon, Marker}}}}
use Rattle.{tally_base.specs.{Tally.moves_floor, Events.is_ordered}, ptu_definitions.specs.{Kept.{Marked, floor_of}, Layouts.KindFits}}
use Rattle.abs_time.specs.Floors.{moved_floor, orders_markers}

floor_of-push : (mode : Mode) (l : Marked) (e : Event) (late : Bool)
    → floor_of mode (l ++ (e, late) ∷ []) ≡ max (floor_of mode l) (if is_ordered mode e && not late then e.time else 0)
floor_of-push mode [] e late = omega arith
floor_of-push mode (x ∷ l) e late = rw (floor_of-push mode l e late) (omega arith)

moved_on : (b : Bool) (first floor time so_far : ℕ) → floor ≡ max first so_far → (IsTrue b → floor ≤ time)
    → (if b then time else floor) ≡ max first (max so_far (if b then time else 0))
moved_on true first floor time so_far is in_order = let h : floor ≤ time = in_order refl in omega arith
moved_on false first floor time so_far is in_order = omega arith

-- What a taker that began at the first of these times has for its floor, with one more event that comes in order.
pub moved_floor-push : (mode : Mode) (first floor : ℕ) (l : Marked) (e : Event) (late : Bool)
    → floor ≡ max first (floor_of mode l) → (IsTrue (is_ordered mode e && not late) → floor ≤ e.time)
    → moved_floor mode floor e late ≡ max first (floor_of mode (l ++ (e, late) ∷ []))
moved_floor-push mode first floor l e late is in_order =
    moved_on (is_ordered mode e && not late) first floor e.time (floor_of mode l) is in_order ∙ rw (floor_of-push mode l e late) refl

pub moves_by : (mode : Mode) (e : Event) → moves_floor (orders_markers mode) e ≡ is_ordered mode e
moves_by T2 e = refl
moves_by T3 e = refl

-- That an event fits a mode is a proposition.

pub kind_fits-prop : (mode : Mode) (kind : EventKind) → IsProp (KindFits mode kind)
kind_fits-prop T2 (Photon input dtime) = hlevel props
kind_fits-prop T3 (Photon input dtime) = hlevel props
kind_fits-prop T2 (Marker bits) = hlevel props
kind_fits-prop T3 (Marker bits) = hlevel props
