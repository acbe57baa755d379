-- What a histogram stands for, and what holds of every histogram.
use Rattle.std.{specs.Prelude.{◌≡◌, ℕ, ◌<◌, false, slice_index, length, ◌≤◌, ◌+◌, ◌/◌, Bool, true, ◌&&◌, ◌==◌, nat_le, [], ◌∷◌, ◌++◌}, proofs.Common.{rules, ◌∙◌, refl}}
use Rattle.tally_base.specs.{declared.{settings.HistSet.HistSet, event.{Event.Event, EventKind.{EventKind, TheVariants.{Photon, Marker}}}}, Settings.{PartSettings, hist_view, entries}}
use Rattle.tally_base.{specs.{Settings.PartSettings.HistSettings, Tally.{History, greatest_time}, Events.{is_photon, is_photon_kind, is_in}}, proofs.Sorted.{same_length, same_greatest, same_count}}
use Rattle.tcspc_hist.specs.{declared.hist.Hist.Hist, HistogramCounts.{in_bin, count_over, count_dtimes, dtime_passes}}

-- what it was opened with
abbrev pub set_of : Hist → HistSet
set_of t = t.set

abbrev pub settings : Hist → PartSettings
settings t = HistSettings (hist_view t.set)

-- Each cell is the count over the events.
pub record Holds (t : Hist) (h : History) : Type 0 where
  pub cells : (b : ℕ) → b < t.set.bins → slice_index t.cells.items b ≡ in_bin (hist_view t.set) b h
  pub over : t.over ≡ count_over (hist_view t.set) h
  pub taken : t.taken ≡ length h
  pub floor : t.floor ≡ greatest_time false h

pub within_bound : (t : Hist) → length t.cells.items + 1 ≤ entries (settings t)
within_bound t = search rules

-- a marker has no dtime
pub no_dtime : (of_group : Bool) (test : ℕ → Bool) (kind : EventKind) → is_photon_kind kind ≡ false → (of_group && dtime_passes test kind) ≡ false
no_dtime true test (Marker bits) marker = refl
no_dtime false test (Marker bits) marker = refl
no_dtime of_group test (Photon input dtime) marker = cc

pub marker_groups : (t : Hist) (h : History) (e : Event) (groups : ℕ) → is_photon e ≡ false → Holds t (h ++ (e, 0) ∷ []) → Holds t (h ++ (e, groups) ∷ [])
marker_groups t h e groups marker is = record {
  cells = λ b lt. is.cells b lt ∙ same (λ dtime. dtime / t.set.width == b);
  over = is.over ∙ same (λ dtime. nat_le t.set.bins (dtime / t.set.width));
  taken = is.taken ∙ same_length h e groups;
  floor = is.floor ∙ same_greatest false h e groups;
}
  where
    same : (test : ℕ → Bool) → count_dtimes (hist_view t.set) test (h ++ (e, 0) ∷ []) ≡ count_dtimes (hist_view t.set) test (h ++ (e, groups) ∷ [])
    same test = same_count (λ x. is_in x.1 t.set.group && dtime_passes test x.0.kind) (λ x marker. no_dtime (is_in x.1 t.set.group) test x.0.kind marker) h e groups marker
