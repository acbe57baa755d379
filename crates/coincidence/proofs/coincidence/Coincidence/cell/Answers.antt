use Rattle.std.proofs.{Common.{◌∙◌, ap, sym, ◌≡◌, ℕ, ◌<◌, Bool, true, false, List, [], ◌∷◌, get_or, refl, arith, rules}, lemmas.Bool.false≢true}
use Rattle.{std.specs.List.{count_by, filter}, tally_base.{proofs.Sums.count_none, specs.{Settings.{CoincidenceView, coincidence_cells}, Tally.History}}}
use Rattle.{lag_ring.proofs.Sums.{sum_by-same, sum_by-filter}, coincidence.proofs.{Visits.{work_within, none_left}, Before.closed_come, Blockwise.mine}}
use Rattle.coincidence.{proofs.{Hits.pairs_in, Mirror.pairs_apart-in}, specs.{declared.pairing.Pairing.Pairing, Pairs.{is_coincidence, coincidences}}}
use Rattle.coincidence.specs.{Pairs.{before_last, photons_of_groups}, StandsFor.StandsFor}
use Rattle.coincidence.proofs.coincidence.Coincidence.cell.Goals as goal

-- the photons of the two groups make all the pairs
module _ {X : Type 0} (p : X → Bool) (r : X → X → Bool) (left : (x y : X) → p x ≡ false → r x y ≡ false) (right : (x y : X) → p y ≡ false → r x y ≡ false) where
  kept : (s : X → Bool) → ((y : X) → p y ≡ false → s y ≡ false) → (xs : List X) → count_by s (filter p xs) ≡ count_by s xs
  kept s none xs = search (rules, arith, sum_by-filter, sum_by-same)

  -- what doesn't pass is in no pair
  pairs_in-filter : (xs : List X) → pairs_in r (filter p xs) ≡ pairs_in r xs
  pairs_in-filter [] = refl
  pairs_in-filter (x ∷ xs) = search (rules, arith, pairs_in, kept, count_none, pairs_in-filter xs)

coincidences-photons : (set : CoincidenceView) (c : ℕ) (h : History) → coincidences set c (photons_of_groups set h) ≡ coincidences set c h
coincidences-photons set c h =
    pairs_apart-in (is_coincidence set c) (photons_of_groups set h)
    ∙ pairs_in-filter (mine set) (is_coincidence set c) (λ x y is. grind (arith, is)) (λ x y is. grind (arith, is)) h
    ∙ sym (pairs_apart-in (is_coincidence set c) h)

cell_is : (closed : Bool) → closed ≡ true → (set : CoincidenceView) (p : Pairing) (count time : ℕ) (h : History) → StandsFor closed set p count time h
    → (c : ℕ) → c < coincidence_cells set → get_or p.cells.cells c 0 ≡ coincidences set c h
cell_is false shut set p count time h is c inside = absurd (false≢true shut)
cell_is true shut set p count time h is c inside = is.photons.pending.cells.pairs c inside ∙ ap (coincidences set c) (none_left set _ _ _ is.photons.pending) ∙ coincidences-photons set c h

open_is : (closed : Bool) → closed ≡ false → (set : CoincidenceView) (p : Pairing) (count time : ℕ) (h : History) → StandsFor closed set p count time h
    → (c : ℕ) → c < coincidence_cells set → get_or p.cells.cells c 0 ≡ coincidences set c (before_last (photons_of_groups set h))
open_is closed shut set p count time h is c inside = search (rules, arith, false≢true, none_left, closed_come)

pub returns : goal.returns
returns c = record {
  pairs = λ shut h is. c.get.ensures.count ∙ cell_is _ shut _ _ _ _ h is c.args.at c.requires.inside;
  before = λ shut h is. c.get.ensures.count ∙ open_is _ shut _ _ _ _ h is c.args.at c.requires.inside;
  place = sym c.get.ensures.count;
  work = λ h is. work_within c.args.self.now.closed _ c.args.self.now.pairing _ is.photons;
}
