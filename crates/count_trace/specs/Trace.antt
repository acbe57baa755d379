-- What a trace stands for, what the events of a block add to one, and what holds of every trace.
use Rattle.std.{specs.Prelude.{◌≡◌, ℕ, ◌<◌, false, slice_index, length, ◌+◌, List, ◌≤◌, ◌-◌, ◌/◌, Bool, ◌&&◌, ◌==◌, nat_le, nat_lt, [], ◌∷◌, ◌++◌}, proofs.Common.{rules, ◌∙◌, ap}}
use Rattle.tally_base.specs.{declared.{settings.TraceSet.TraceSet, event.Event.Event}, Settings.{PartSettings, trace_view, TraceView, entries, PartSettings.TraceSettings}, Tally.History}
use Rattle.{tally_base.{specs.{Tally.greatest_time, Events.{is_photon, is_in}}, proofs.Sorted.{same_length, same_greatest, same_count}}, count_trace.specs.declared.trace.Trace.Trace}
use Rattle.count_trace.specs.{declared.counting.Outside.Outside, TraceCounts.{in_trace_bin, count_before, count_beyond, count_times}}

-- what it was opened with
abbrev pub set_of : Trace → TraceSet
set_of t = t.set

abbrev pub settings : Trace → PartSettings
settings t = TraceSettings (trace_view t.set)

-- Each cell is the count over the events.
pub record Holds (t : Trace) (h : History) : Type 0 where
  pub cells : (b : ℕ) → b < t.set.bins → slice_index t.cells.items b ≡ in_trace_bin (trace_view t.set) b h
  pub before : t.outside.before ≡ count_before (trace_view t.set) h
  pub beyond : t.outside.beyond ≡ count_beyond (trace_view t.set) h
  pub taken : t.taken ≡ length h
  pub floor : t.floor ≡ greatest_time false h

-- Each cell has the photons more that are in its bin, and so has what is counted outside of them.
pub record CountsMore (set : TraceView) (cells cells' : List ℕ) (old new : Outside) (more : History) : Type 0 where
  pub each : (b : ℕ) → b < set.bins → slice_index cells' b ≡ slice_index cells b + in_trace_bin set b more
  pub before : new.before ≡ old.before + count_before set more
  pub beyond : new.beyond ≡ old.beyond + count_beyond set more

pub within_bound : (t : Trace) → length t.cells.items + 3 ≤ entries (settings t)
within_bound t = search rules

pub marker_groups : (t : Trace) (h : History) (e : Event) (groups : ℕ) → is_photon e ≡ false → Holds t (h ++ (e, 0) ∷ []) → Holds t (h ++ (e, groups) ∷ [])
marker_groups t h e groups marker is = record {
  cells = λ b lt. is.cells b lt ∙ same (λ time. nat_le t.set.origin time && ((time - t.set.origin) / t.set.width == b));
  before = is.before ∙ same (λ time. nat_lt time t.set.origin);
  beyond = is.beyond ∙ same (λ time. nat_le t.set.origin time && nat_le t.set.bins ((time - t.set.origin) / t.set.width));
  taken = is.taken ∙ same_length h e groups;
  floor = is.floor ∙ same_greatest false h e groups;
}
  where
    same : (test : ℕ → Bool) → count_times (trace_view t.set) test (h ++ (e, 0) ∷ []) ≡ count_times (trace_view t.set) test (h ++ (e, groups) ∷ [])
    same test = same_count (λ x. is_photon x.0 && (is_in x.1 t.set.group && test x.0.time)) (λ x marker. ap (λ b. b && (is_in x.1 t.set.group && test x.0.time)) marker) h e groups marker
