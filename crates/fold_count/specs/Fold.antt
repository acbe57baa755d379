-- What a fold stands for, and what holds of every fold.
use Rattle.std.{specs.Prelude.{◌≡◌, ℕ, ◌+◌, false, List, length, ◌≤◌, [], ◌∷◌, ◌++◌}, proofs.Common.{arith, ◌∙◌, refl, subst}}
use Rattle.tally_base.specs.{declared.{settings.FoldSet.FoldSet, event.Event.Event}, Settings.{PartSettings, fold_view, entries, PartSettings.FoldSettings}, Tally.{History, greatest_time}}
use Rattle.{tally_base.{specs.Events.is_photon, proofs.Sorted.{same_length, same_greatest, same_filter}}, fold_count.specs.{declared.fold.Fold.Fold, Folded.{Counts, photons}, FoldCounts.is_of_any}}

-- what it was opened with
abbrev pub set_of : Fold → FoldSet
set_of t = t.set

abbrev pub settings : Fold → PartSettings
settings t = FoldSettings (fold_view t.set)

-- its counts, by the set of the groups
abbrev pub cells_in : Fold → List ℕ
cells_in t = t.cells.items

-- It was given these events. Once it is closed, each cell is the count over them.
pub record Holds (t : Fold) (h : History) : Type 0 where
  pub counts : Counts t.closed (fold_view t.set) t.cells.items t.ring t.bin (photons (fold_view t.set) h)
  pub taken : t.taken ≡ length h
  pub floor : t.floor ≡ greatest_time false h

-- how many entries it keeps: its lists, which are the cells and the closed bins in the window, and the open bin
abbrev pub held : Fold → ℕ
held t = length t.cells.items + length t.ring.entries + 1

pub within_bound : (t : Fold) → held t ≤ entries (settings t)
within_bound t = omega (arith, t.sound.sized, t.sound.reach, t.sound.within)

pub marker_groups : (t : Fold) (h : History) (e : Event) (groups : ℕ) → is_photon e ≡ false → Holds t (h ++ (e, 0) ∷ []) → Holds t (h ++ (e, groups) ∷ [])
marker_groups t h e groups marker is = record {
  counts = subst (Counts t.closed (fold_view t.set) t.cells.items t.ring t.bin) (same_filter (is_of_any t.set.groups.items) (λ x none. rw none refl) h e groups marker) is.counts;
  taken = is.taken ∙ same_length h e groups;
  floor = is.floor ∙ same_greatest false h e groups;
}
