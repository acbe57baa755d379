-- What each table is, whatever its kind.
use Rattle.std.specs.Prelude.{◌≡◌, ℕ, ◌≤◌, false, [], ◌∷◌, ◌++◌, length}
use Rattle.tally_base.specs.{declared.{event.Event.Event, tally.Tally.Ghosts}, Events.is_photon, Settings.{entries, is_strict}, Tally.{History, greatest_time}}
use Rattle.{tcspc_hist.specs.contracts.hist.HistTally.TheImpl.ghosts as hist_ghosts, count_trace.specs.contracts.trace.TraceTally.TheImpl.ghosts as trace_ghosts}
use Rattle.coincidence.specs.contracts.{start_stop.StartStopTally.TheImpl.ghosts as startstop_ghosts, coincidence.CoincidenceTally.TheImpl.ghosts as pairs_ghosts}
use Rattle.{scan_image.specs.contracts.image.ImageTally.TheImpl.ghosts as image_ghosts, flim_cube.specs.contracts.cube.FlimCubeTally.TheImpl.ghosts as cube_ghosts}
use Rattle.{fold_count.specs.contracts.fold.FoldTally.TheImpl.ghosts as fold_ghosts, tau_cascade.specs.contracts.cascade.CascadeTally.TheImpl.ghosts as cascade_ghosts}
use Rattle.tally_engine.specs.declared.part.Part.{Part, TheVariants.{Hist as InHist, Trace as InTrace, StartStop as InStartStop, Coincidence as InCoincidence, Image as InImage}}
use Rattle.tally_engine.specs.declared.part.Part.TheVariants.{Correlation as InCorrelation, Cube as InCube, Fold as InFold}
use Rattle.tcspc_hist.specs.Hist as hist
use Rattle.count_trace.specs.Trace as trace
use Rattle.coincidence.specs.StartStop as startstop
use Rattle.coincidence.specs.Coincidence as pairs
use Rattle.scan_image.specs.Image as image
use Rattle.flim_cube.specs.Cube as cube
use Rattle.fold_count.specs.Fold as fold_laws
use Rattle.tau_cascade.specs.Laws as cascade

-- what a table of any kind has
abbrev pub by_kind {ℓ} : {X : Type ℓ} → ((T : Type 0) → Ghosts T → T → X) → Part → X
by_kind has (InHist t) = has _ hist_ghosts t
by_kind has (InTrace t) = has _ trace_ghosts t
by_kind has (InStartStop t) = has _ startstop_ghosts t
by_kind has (InCoincidence t) = has _ pairs_ghosts t
by_kind has (InImage t) = has _ image_ghosts t
by_kind has (InCorrelation t) = has _ cascade_ghosts t
by_kind has (InCube t) = has _ cube_ghosts t
by_kind has (InFold t) = has _ fold_ghosts t

-- What holds of every table, of whatever kind.
pub record Laws (p : Part) : Type 0 where
  pub taken_is : (h : History) → by_kind (λ T g t. g.holds t) p h → by_kind (λ T g t. g.taken t) p ≡ length h
  pub floor_is : (h : History) → by_kind (λ T g t. g.holds t) p h → by_kind (λ T g t. g.floor t) p ≡ greatest_time (is_strict (by_kind (λ T g t. g.settings t) p)) h
  pub within : by_kind (λ T g t. g.held t) p ≤ entries (by_kind (λ T g t. g.settings t) p)
  pub marker_groups : (h : History) (e : Event) (groups : ℕ) → is_photon e ≡ false → by_kind (λ T g t. g.holds t) p (h ++ (e, 0) ∷ []) → by_kind (λ T g t. g.holds t) p (h ++ (e, groups) ∷ [])

pub laws_of : (p : Part) → Laws p
laws_of (InHist t) = record { taken_is = λ h is. is.taken; floor_is = λ h is. is.floor; within = hist.within_bound t; marker_groups = hist.marker_groups t }
laws_of (InTrace t) = record { taken_is = λ h is. is.taken; floor_is = λ h is. is.floor; within = trace.within_bound t; marker_groups = trace.marker_groups t }
laws_of (InStartStop t) = record { taken_is = λ h is. is.taken; floor_is = λ h is. is.floor; within = startstop.within_bound t; marker_groups = startstop.marker_groups t }
laws_of (InCoincidence t) = record { taken_is = λ h is. is.taken; floor_is = λ h is. is.floor; within = pairs.within_bound t; marker_groups = pairs.marker_groups t }
laws_of (InImage t) = record { taken_is = λ h is. is.taken; floor_is = λ h is. is.floor; within = image.within_bound t; marker_groups = image.marker_groups t }
laws_of (InCorrelation t) = record { taken_is = λ h is. is.taken; floor_is = λ h is. is.floor; within = cascade.within_bound t; marker_groups = cascade.marker_groups t }
laws_of (InCube t) = record { taken_is = λ h is. is.taken; floor_is = λ h is. is.floor; within = cube.within_bound t; marker_groups = cube.marker_groups t }
laws_of (InFold t) = record { taken_is = λ h is. is.taken; floor_is = λ h is. is.floor; within = fold_laws.within_bound t; marker_groups = fold_laws.marker_groups t }
