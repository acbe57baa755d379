-- What a table of coincidences stands for.
use Rattle.std.{specs.Prelude.{ℕ, ◌+◌, is_some, length, if◌then◌else◌, ◌≡◌, ◌≤◌, Bool, true, false, ◌&&◌, ◌||◌, [], ◌∷◌, ◌++◌}, proofs.Common.{cond, arith, rules, ◌∙◌, ap, subst}}
use Rattle.std.proofs.{Math.Logic.∥∥₁_elim, Props.props}
use Rattle.tally_base.specs.{declared.{settings.CoincidenceSet.CoincidenceSet, event.Event.Event}, Settings.{PartSettings, coincidence_view, CoincidenceView, coincidence_cells, entries}}
use Rattle.tally_base.{specs.{Settings.PartSettings.CoincidenceSettings, Tally.History, Events.{is_photon, is_in}}, proofs.Sorted.{same_length, same_greatest, same_filter}}
use Rattle.{lag_ring.specs.Cells.Cells, coincidence.specs.{declared.{coincidence.Coincidence.Coincidence, pairing.Pairing.Pairing}, StandsFor.{StandsFor, HasPhotons}, Pairs.{in_first, in_second}}}
use Rattle.coincidence.specs.Pairing.{RingIs, CellsAre}

-- what it was opened with
abbrev pub set_of : Coincidence → CoincidenceSet
set_of t = t.set

abbrev pub settings : Coincidence → PartSettings
settings t = CoincidenceSettings (coincidence_view t.set)

-- It was given these events. Once it is closed, each cell is the count over them.
abbrev pub Holds : Coincidence → History → Type 0
Holds t h = StandsFor t.closed (coincidence_view t.set) t.pairing t.taken t.floor h

-- how many entries it keeps: its lists, which are the cells and the closed bins in reach, and an open bin, which has one more number than an entry
abbrev pub held : Coincidence → ℕ
held t = length t.pairing.cells.cells + length t.pairing.ring.entries + (if is_some t.pairing.open then 2 else 0)

-- how many closed bins it keeps
abbrev pub bins_kept : Coincidence → ℕ
bins_kept t = length t.pairing.ring.entries

-- its cells, and the additions that made them
abbrev pub cells_in : Coincidence → Cells
cells_in t = t.pairing.cells

-- how many additions made its cells
abbrev pub spent_by : Coincidence → ℕ
spent_by t = (cells_in t).added

-- What holds of every table of coincidences.

-- the photons that are in closed bins
paired : (closed : Bool) (set : CoincidenceView) (p : Pairing) (came : History) → HasPhotons closed set p came → (xs : History) × RingIs set p.ring xs × CellsAre set p.cells xs
paired true set p came is = (is.pending.closed, is.pending.ring, is.pending.cells)
paired false set p came is = (is.pending.closed, is.pending.ring, is.pending.cells)

lists_within : (set : CoincidenceView) (p : Pairing) (came : History) → RingIs set p.ring came → CellsAre set p.cells came → length p.cells.cells + length p.ring.entries ≤ coincidence_cells set + set.reach
lists_within set p came ring cells = omega (arith, ring.keeps.within, ring.reach, cells.count)

pub few_bins : (t : Coincidence) → bins_kept t ≤ (set_of t).reach
few_bins t = ∥∥₁_elim t.stands (hlevel props) (λ w. let is = paired t.closed _ t.pairing _ w.1.photons in omega (arith, is.1.keeps.within, is.1.reach))

with_open : (b : Bool) (n most : ℕ) → n ≤ most → n + cond b 2 0 ≤ most + 2
with_open b n most few = search (rules, arith)

pub within_bound : (t : Coincidence) → held t ≤ entries (settings t)
within_bound t = with_open (is_some t.pairing.open) _ _ (∥∥₁_elim t.stands (hlevel props) (λ w. let is = paired t.closed _ t.pairing _ w.1.photons in lists_within (coincidence_view t.set) t.pairing is.0 is.1 is.2))

pub marker_groups : (t : Coincidence) (h : History) (e : Event) (groups : ℕ) → is_photon e ≡ false → Holds t (h ++ (e, 0) ∷ []) → Holds t (h ++ (e, groups) ∷ [])
marker_groups t h e groups marker is =
    let set = coincidence_view t.set in
    let same = same_filter (λ x. in_first set x || in_second set x) (λ x marker. ap (λ b. (b && is_in x.1 set.first) || (b && is_in x.1 set.second)) marker) h e groups marker in
    record {
      taken = is.taken ∙ same_length h e groups;
      floor = is.floor ∙ same_greatest false h e groups;
      photons = subst (λ xs. HasPhotons t.closed set t.pairing xs) same is.photons;
    }
