-- What a start-stop table stands for.
use Rattle.std.specs.{Prelude.{◌≡◌, ℕ, ◌<◌, false, slice_index, length, ◌≤◌, ◌+◌, ◌/◌, ◌&&◌, ◌||◌, ◌==◌, nat_le, [], ◌∷◌, ◌++◌, None, count_by, List}, List.last_or, Option.option_and_then}
use Rattle.std.proofs.Common.{rules, ◌∙◌, ap}
use Rattle.tally_base.specs.{declared.{settings.StartStopSet.StartStopSet, event.Event.Event}, Settings.{PartSettings, startstop_view, entries, StartStopView, PartSettings.StartStopSettings}}
use Rattle.tally_base.{specs.{Tally.{History, greatest_time}, Events.{is_photon, is_in}}, proofs.Sorted.{same_length, same_greatest, same_filter}}
use Rattle.coincidence.specs.{declared.{start_stop.StartStop.StartStop, start.Start.Start}, Intervals.{in_interval, count_over, open_start, neighbours, is_of_either, photons_of_either, is_interval}}
use Rattle.coincidence.specs.{Intervals.start_of, Starts.start_in}

-- what it was opened with
abbrev pub set_of : StartStop → StartStopSet
set_of t = t.set

abbrev pub settings : StartStop → PartSettings
settings t = StartStopSettings (startstop_view t.set)

-- Each cell is the count over the events.
pub record Holds (t : StartStop) (h : History) : Type 0 where
  pub cells : (b : ℕ) → b < t.set.bins → slice_index t.cells.items b ≡ in_interval (startstop_view t.set) b h
  pub over : t.over ≡ count_over (startstop_view t.set) h
  pub start : start_in t.start ≡ open_start (startstop_view t.set) h
  pub taken : t.taken ≡ length h
  pub floor : t.floor ≡ greatest_time false h

-- What holds of every start-stop table.

pub within_bound : (t : StartStop) → length t.cells.items + 2 ≤ entries (settings t)
within_bound t = search rules

pub marker_groups : (t : StartStop) (h : History) (e : Event) (groups : ℕ) → is_photon e ≡ false → Holds t (h ++ (e, 0) ∷ []) → Holds t (h ++ (e, groups) ∷ [])
marker_groups t h e groups marker is =
    let set = startstop_view t.set in
    let same : photons_of_either set (h ++ (e, 0) ∷ []) ≡ photons_of_either set (h ++ (e, groups) ∷ []) = same_filter (is_of_either set) (λ x marker. ap (λ b. b && (is_in x.1 set.start || is_in x.1 set.stop)) marker) h e groups marker in
    record {
      cells = λ b lt. is.cells b lt ∙ ap (λ xs. count_by (is_interval set (λ time. time / set.width == b)) (neighbours xs)) same;
      over = is.over ∙ ap (λ xs. count_by (is_interval set (λ time. nat_le set.bins (time / set.width))) (neighbours xs)) same;
      start = is.start ∙ ap (λ xs. option_and_then (start_of set) (last_or None xs)) same;
      taken = is.taken ∙ same_length h e groups;
      floor = is.floor ∙ same_greatest false h e groups;
    }

-- The intervals over events.

-- Each of these cells is the count over the events, and the start is the one that they leave open.
pub record Counted (set : StartStopView) (bins : ℕ) (cells : List ℕ) (over : ℕ) (start : Start) (h : History) : Type 0 where
  pub each : (b : ℕ) → b < bins → slice_index cells b ≡ in_interval set b h
  pub rest : over ≡ count_over set h
  pub open' : start_in start ≡ open_start set h

-- Where cells are the count over any events, others are over these and more.
abbrev pub CountsMore : StartStopView → ℕ → List ℕ → List ℕ → ℕ → ℕ → Start → Start → History → Type 0
CountsMore set bins cells cells' over over' start start' more = (h : History) → Counted set bins cells over start h → Counted set bins cells' over' start' (h ++ more)
