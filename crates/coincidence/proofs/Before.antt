-- The photons before the tick of the last are those of closed bins.
use Rattle.std.proofs.Common.{◌≡◌, ◌∙◌, ℕ, ◌<◌, ◌≤◌, true, false, ltb, cond, [], ◌∷◌, ◌++◌, length, refl, arith, append-nil, rules}
use Rattle.std.{proofs.lemmas.{Bool.Decides.nat_tests, List.{Elements.filter-append, Sums.{sum_by-cons, sum_by-append}}}, specs.declared.option.Option.Option}
use Rattle.{std.specs.{Prelude.{None, Some}, List.{count_by, filter, AllByRecursion}}, tally_base.specs.{declared.event.Event.Event, Settings.CoincidenceView}}
use Rattle.{tally_base.specs.Tally.History, lag_ring.proofs.{Rising.{all_weaker, filter_passed}, Lists.all_join, Sums.sum_by-zero}}
use Rattle.coincidence.{specs.{declared.pairing.Bin.Bin, Pairs.before_last, Pairing.OpenIs}, proofs.Shut.filter_none}

abbrev after : ℕ → History → ℕ
after t xs = count_by (λ y. ltb t y.0.time) xs

none_after : (t : ℕ) (xs : History) → AllByRecursion (λ y. y.0.time ≤ t) xs → after t xs ≡ 0
none_after t xs all = sum_by-zero (λ y. y.0.time ≤ t) (λ y. cond (ltb t y.0.time) 1 0) xs all (λ y upto. grind (arith, nat_tests, upto))

some_after : (t : ℕ) (xs ys : History) → 0 < length ys → AllByRecursion (λ y. t < y.0.time) ys → 0 < after t (xs ++ ys)
some_after t xs [] some all = absurd (omega (arith, some))
some_after t xs (y ∷ ys) some all =
    let f : Event × ℕ → ℕ = λ x. cond (ltb t x.0.time) 1 0 in
    let here : ltb t y.0.time ≡ true = grind (arith, nat_tests, all.0) in
    rw (sum_by-append f xs (y ∷ ys), sum_by-cons f y ys, here) (omega arith)

pub closed_come : (set : CoincidenceView) (bin : Option Bin) (closed open' : History) → OpenIs set bin closed open' → before_last (closed ++ open') ≡ closed
closed_come set None closed open' is = rw (is.0, is.1) refl
closed_come set (Some bin) closed open' is =
    let p = λ (x : Event × ℕ). ltb 0 (after x.0.time (closed ++ open')) in
    let i = bin.weights.index in
    let upto : AllByRecursion (λ x. x.0.time ≤ i) (closed ++ open') = search (rules, arith, all_join, all_weaker) in
    let kept : filter p closed ≡ closed = filter_passed p closed (all_weaker (λ x. x.0.time < i) (λ x. p x ≡ true) (λ x before.
    let later : 0 < after x.0.time (closed ++ open') = some_after x.0.time closed open' is.0.weighs.some (all_weaker (λ y. y.0.time ≡ i) (λ y. x.0.time < y.0.time) (λ y here. omega arith) open' is.0.weighs.here) in grind (arith, nat_tests, later)) closed is.1) in
    let gone : filter p open' ≡ [] = filter_none p open' (all_weaker (λ x. x.0.time ≡ i) (λ x. p x ≡ false) (λ x here.
    let none : after x.0.time (closed ++ open') ≡ 0 = rw here (none_after i (closed ++ open') upto) in rw none refl) open' is.0.weighs.here) in
    filter-append p closed open' ∙ rw (kept, gone) (append-nil closed)
