-- What the fields of a table of coincidences stand for.
use Rattle.std.specs.Prelude.{◌≡◌, ℕ, ◌+◌, ◌≤◌, Bool, true, false, Option, List, [], ◌++◌, length}
use Rattle.tally_base.specs.{declared.{event.Event.Event, block.Block.Block}, Settings.CoincidenceView, Tally.{History, greatest_time, InOrder}, Limits.record_limit, Columns.{gathered, events_in}}
use Rattle.{lag_ring.specs.{Cells.Cells, Ring.Ring}, coincidence.specs.{declared.pairing.{Bin.Bin, Pairing.Pairing}, Pairs.photons_of_groups, Pairing.{Came, Pays, PairingDone, Gathered}}}

-- the photons came, and in a closed table all of them are in closed bins
abbrev pub HasPhotons : Bool → CoincidenceView → Pairing → History → Type 0
HasPhotons false set p came = Came set p came
HasPhotons true set p came = PairingDone set p came

-- a table with these fields stands for the events
pub record StandsFor (closed : Bool) (set : CoincidenceView) (p : Pairing) (count time : ℕ) (h : History) : Type 0 where
  pub taken : count ≡ length h
  pub floor : time ≡ greatest_time false h
  pub photons : HasPhotons closed set p (photons_of_groups set h)

-- these events may be given, after those that were
pub record CanTake (set : CoincidenceView) (Were : History → Type 0) (es : List Event) (h : History) : Type 0 where
  pub few : length h + length es ≤ record_limit
  pub was : Were (photons_of_groups set h)
  pub after : InOrder false (greatest_time false h) es

-- the events of a block may be given
abbrev pub MayTake : CoincidenceView → Pairing → {N : ℕ} → Block N → Type 0
MayTake set p b = ∥ ((h : History) × CanTake set (Came set p) (gathered b) h) ∥₁

-- Their photons came after those of any events that they may be given after, with as many steps as additions.
pub record Takes (set : CoincidenceView) (old new : Pairing) {N : ℕ} (b : Block N) (before now : ℕ) : Type 0 where
  pub follows : (h : History) → CanTake set (Came set old) (gathered b) h → Came set new (photons_of_groups set (h ++ events_in b))
  pub steps : Pays old new before now

-- The photons of these events came, and the bins that they closed are to be closed.
abbrev pub Gathers : CoincidenceView → Option Bin → Option Bin → List Bin → List Event → History → Type 0
Gathers set waiting result bins es xs =
    (ring : Ring) (cells : Cells) (h : History) → CanTake set (Gathered set waiting ring cells []) es h
    → Gathered set result ring cells bins (photons_of_groups set (h ++ xs))
