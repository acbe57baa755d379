-- What a plan of version 1 says.
use Rattle.std.specs.Prelude.{◌≡◌, ◌≤◌, All, [], length, false}
use Rattle.tally_base.specs.Settings.{PartSettings, PartSettings.{HistSettings, TraceSettings, StartStopSettings, CoincidenceSettings, ImageSettings, CorrelationSettings}}
use Rattle.plan_text.specs.Plan.{PlanView}

-- A table of a kind that version 1 has, and no row of an image runs backwards.
abbrev pub IsOfFirst : PartSettings → Type 0
IsOfFirst (HistSettings hist) = Unit {0}
IsOfFirst (TraceSettings trace) = Unit {0}
IsOfFirst (StartStopSettings startstop) = Unit {0}
IsOfFirst (CoincidenceSettings coincidence) = Unit {0}
IsOfFirst (ImageSettings image) = image.serpentine ≡ false
IsOfFirst (CorrelationSettings correlation) = Unit {0}
IsOfFirst _ = ⊥

-- The plan says nothing that version 2 adds.
pub record SaysFirst (view : PlanView) : Type 0 where
  pub period : view.period ≡ 1
  pub shifts : view.shifts ≡ []
  pub settle : view.settle ≡ 0
  pub gates : All (λ group. length group.gates ≤ 1) view.groups
  pub parts : All IsOfFirst view.parts
