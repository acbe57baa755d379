-- What the fields of a correlation stand for.
use Rattle.std.specs.Prelude.{◌≡◌, ℕ, ◌+◌, Bool, false, is_some, List, length, if◌then◌else◌}
use Rattle.tally_base.specs.{declared.settings.CorrelationSet.CorrelationSet, Settings.{CorrelationView, correlation_view}, Tally.{History, greatest_time}}
use Rattle.tau_cascade.specs.{declared.level.Level.Level, Correlation.photons_of, Levels.Chain}

-- a correlation with these fields stands for the events: their photons went from level to level
pub record StandsFor (closed : Bool) (set : CorrelationSet) (ls : List Level) (count time : ℕ) (h : History) : Type 0 where
  pub taken : count ≡ length h
  pub floor : time ≡ greatest_time false h
  pub through : Chain closed (correlation_view set) 0 ls (photons_of (correlation_view set) h)

-- the entries that a level keeps
abbrev pub entries_of : Level → ℕ
entries_of l = length l.ring.entries + length l.cells.cells + (if is_some l.open then 1 else 0)

-- the levels were given the photons of these events, and none is closed
abbrev pub HasTaken : CorrelationView → List Level → History → Type 0
HasTaken set ls h = Chain false set 0 ls (photons_of set h)
