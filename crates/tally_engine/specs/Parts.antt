-- The tables of a plan.
use Rattle.std.specs.Prelude.{◌≡◌, ◌≤◌, ⊤, ℕ, List, [], All, map, sum_by, true, false}
use Rattle.{tally_base.specs.{Settings.{PartSettings, correlation_view}, Tally.History}, tau_cascade.specs.{Cascade.{set_of, spent_by}, Work.work}, tally_engine.specs.declared.part.Part.Part}
use Rattle.tally_engine.specs.{declared.part.Part.TheVariants.Correlation as InCorrelation, contracts.part.PartTally.TheImpl.ghosts}

-- what the tables were opened with
abbrev pub settings_in : List Part → List PartSettings
settings_in parts = map ghosts.settings parts

-- Every table stands for these events.
abbrev pub AllHold : List Part → History → Type 0
AllHold parts h = All (λ p. ghosts.holds p h) parts

-- Every table is closed: its cells are the counts.
abbrev pub AllClosed : List Part → Type 0
AllClosed parts = All (λ p. ghosts.closed p ≡ true) parts

-- Where a table is a correlation, no more additions made its cells than the work of these events.
abbrev pub IsWithinWork : History → Part → Type 0
IsWithinWork h (InCorrelation t) = spent_by t ≤ work (correlation_view (set_of t)) h
IsWithinWork h _ = ⊤

-- how many entries the tables keep
abbrev pub entries_in : List Part → ℕ
entries_in parts = sum_by ghosts.held parts

-- A table that was opened with these settings and was given nothing.
pub record IsOpened (settings : PartSettings) (p : Part) : Type 0 where
  pub settings_are : ghosts.settings p ≡ settings
  pub empty : ghosts.holds p []
  pub opened : ghosts.closed p ≡ false

-- All tables were given nothing.
abbrev pub AllOpened : List Part → Type 0
AllOpened parts = All (λ p. IsOpened (ghosts.settings p) p) parts
