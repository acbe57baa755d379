-- One more photon, and the intervals.
use Rattle.std.proofs.Common.{◌≡◌, ◌∙◌, ℕ, ◌+◌, ◌-◌, Bool, true, false, ◌&&◌, ◌||◌, cond, List, [], ◌∷◌, ◌++◌, ap, arith, None, Some, count_by, rules, refl}
use Rattle.std.proofs.{Common.{zero, suc, not, length, take, tests, sum_by}, lemmas.List.{append-nil, Elements.filter-append, Sums.{sum_by_push, sum_by-cons}}}
use Rattle.std.{proofs.{lemmas.{Grind.common_steps, Bool.Decides.nat_tests}, Math.Numerals.add-one}, specs.{declared.option.Option.Option, List.filter}}
use Rattle.{std.specs.{List.{last_or, list_any, range_with_len, slice_get}, Option.{option_map_or, option_and_then}}, tally_base.proofs.Sums.sum_same}
use Rattle.tally_base.{proofs.Sums.sum_none, specs.{declared.event.Event.Event, Events.{is_photon, is_in}, Settings.StartStopView, Tally.History}}
use Rattle.coincidence.specs.Intervals.{neighbours, is_of_either, photons_of_either, is_interval, count_intervals, start_of, open_start, places, are_ends}
use Rattle.coincidence.specs.Intervals.{is_pair, count_pairs}

-- one more item, and the neighbours

-- the pair of a last item, if there is one, and the item after it
abbrev pub last_pair : {X : Type 0} → Option X → X → List (X × X)
last_pair None y = []
last_pair (Some x) y = (x, y) ∷ []

pub last_or-push : {X : Type 0} (o : Option X) (xs : List X) (y : X) → last_or o (xs ++ y ∷ []) ≡ Some y
last_or-push o [] y = refl
last_or-push o (x ∷ xs) y = last_or-push (Some x) xs y

neighbours-from : {X : Type 0} (x : X) (xs : List X) (y : X) → neighbours (x ∷ (xs ++ y ∷ [])) ≡ neighbours (x ∷ xs) ++ last_pair (last_or (Some x) xs) y
neighbours-from x [] y = refl
neighbours-from x (z ∷ xs) y = ap (λ pairs. (x, z) ∷ pairs) (neighbours-from z xs y)

count-last_pair : {X : Type 0} (p : X × X → Bool) (pairs : List (X × X)) (o : Option X) (y : X) → count_by p (pairs ++ last_pair o y) ≡ count_by p pairs + option_map_or (λ x. cond (p (x, y)) 1 0) o 0
count-last_pair p pairs o y = search (rules, arith, append-nil, sum_by_push)

-- A new item is counted with the last of the list.
pub count-neighbours-push : {X : Type 0} (p : X × X → Bool) (xs : List X) (y : X)
    → count_by p (neighbours (xs ++ y ∷ [])) ≡ count_by p (neighbours xs) + option_map_or (λ x. cond (p (x, y)) 1 0) (last_or None xs) 0
count-neighbours-push p xs y = search (rules, arith, count-last_pair, neighbours-from)

abbrev pub one_if : Bool → ℕ
one_if test = cond test 1 0

filter-push : {X : Type 0} (p : X → Bool) (xs : List X) (y : X) (b : Bool) → p y ≡ b → filter p (xs ++ y ∷ []) ≡ filter p xs ++ cond b (y ∷ []) []
filter-push p xs y b is = filter-append p xs (y ∷ []) ∙ ap (λ b. filter p xs ++ cond b (y ∷ []) []) is

-- How many intervals a photon at `time` ends, if it stops: one where a start is open, and the time since then passes the test.
abbrev pub ends : (ℕ → Bool) → ℕ → Bool → Option ℕ → ℕ
ends test time stops start = option_map_or (λ since. one_if (stops && test (time - since))) start 0

-- the last photon and the one that comes
last-and-next : (set : StartStopView) (test : ℕ → Bool) (last : Option (Event × ℕ)) (x : Event × ℕ)
    → option_map_or (λ y. one_if (is_interval set test (y, x))) last 0 ≡ ends test x.0.time (is_in x.1 set.stop) (option_and_then (start_of set) last)
last-and-next set test last x = search (rules, arith)

count-by_groups : (set : StartStopView) (test : ℕ → Bool) (h : History) (x : Event × ℕ) (either : Bool) → is_of_either set x ≡ either
    → count_intervals set test (h ++ x ∷ []) ≡ count_intervals set test h + cond either (ends test x.0.time (is_in x.1 set.stop) (open_start set h)) 0
count-by_groups set test h x true is =
    let kept = photons_of_either set h in
    cc (filter-push (is_of_either set) h x true is, count-neighbours-push (is_interval set test) kept x, last-and-next set test (last_or None kept) x)
count-by_groups set test h x false is = grind (arith, common_steps, filter-push, append-nil)

-- A photon ends the open interval, if it stops.
pub count-photon : (set : StartStopView) (test : ℕ → Bool) (h : History) (x : Event × ℕ) (stops : Bool) (start : Option ℕ) → is_photon x.0 ≡ true → is_in x.1 set.stop ≡ stops → open_start set h ≡ start → count_intervals set test (h ++ x ∷ []) ≡ count_intervals set test h + ends test x.0.time stops start
count-photon set test h x stops start photon stops-is start-is =
    let counted = count-by_groups set test h x (is_in x.1 set.start || is_in x.1 set.stop) (rw photon refl) in
    grind (arith, common_steps)

start-by_groups : (set : StartStopView) (h : History) (x : Event × ℕ) (either : Bool)
    → is_of_either set x ≡ either → open_start set (h ++ x ∷ []) ≡ cond either (start_of set x) (open_start set h)
start-by_groups set h x true is = cc (filter-push (is_of_either set) h x true is, last_or-push None (photons_of_either set h) x)
start-by_groups set h x false is = cc (filter-push (is_of_either set) h x false is, append-nil (photons_of_either set h))

-- Its own start is open from then on. Where it only stops, none is.
pub start-photon : (set : StartStopView) (h : History) (x : Event × ℕ) (starts stops : Bool) (start : Option ℕ) → is_photon x.0 ≡ true → is_in x.1 set.start ≡ starts → is_in x.1 set.stop ≡ stops → open_start set h ≡ start → open_start set (h ++ x ∷ []) ≡ cond starts (Some x.0.time) (cond stops None start)
start-photon set h x starts stops start photon starts-is stops-is start-is =
    let opened = start-by_groups set h x (is_in x.1 set.start || is_in x.1 set.stop) (rw photon refl) in
    grind (arith, common_steps)

-- A marker ends nothing and begins nothing.
pub count-marker : (set : StartStopView) (test : ℕ → Bool) (h : History) (x : Event × ℕ)
    → is_photon x.0 ≡ false → count_intervals set test (h ++ x ∷ []) ≡ count_intervals set test h
count-marker set test h x marker = grind (arith, common_steps, count-by_groups set test h x false (rw marker refl))

pub start-marker : (set : StartStopView) (h : History) (x : Event × ℕ) → is_photon x.0 ≡ false → open_start set (h ++ x ∷ []) ≡ open_start set h
start-marker set h x marker = start-by_groups set h x false (rw marker refl)

-- The neighbours are the pairs of places.

sum-shift : (f : ℕ → ℕ) (a n : ℕ) → sum_by f (range_with_len (a + 1) n) ≡ sum_by (λ i. f (suc i)) (range_with_len a n)
sum-shift f a zero = refl
sum-shift f a (suc n) = grind (arith, common_steps, add-one, sum_by-cons, sum-shift f (a + 1) n)

-- a sum over places: the first, and the others, each one further
pub sum-places : (f : ℕ → ℕ) (n : ℕ) → sum_by f (range_with_len 0 (suc n)) ≡ f 0 + sum_by (λ i. f (suc i)) (range_with_len 0 n)
sum-places f n = sum_by-cons f 0 (range_with_len (0 + 1) n) ∙ ap (λ m. f 0 + m) (sum-shift f 0 n)

-- how many photons after x are the next of either group, and end an interval from x
abbrev pub next_ends : StartStopView → (ℕ → Bool) → Event × ℕ → History → ℕ → Bool
next_ends set test x h j = not (list_any (is_of_either set) (take j h)) && are_ends set test (Some x) (slice_get h j)

-- how many intervals from x end at the first of these photons
abbrev pub first_end : StartStopView → (ℕ → Bool) → Event × ℕ → History → ℕ
first_end set test x xs = option_map_or (λ y. one_if (is_photon x.0 && is_interval set test (x, y))) (slice_get xs 0) 0

behind-first : (set : StartStopView) (test : ℕ → Bool) (x y : Event × ℕ) (h : History) (either : Bool) → is_of_either set y ≡ either → count_by (next_ends set test x h) (places h) ≡ first_end set test x (photons_of_either set h) → count_by (next_ends set test x (y ∷ h)) (places (y ∷ h)) ≡ first_end set test x (cond either (y ∷ photons_of_either set h) (photons_of_either set h))
behind-first set test x y h true is more =
    let split = sum-places (λ j. one_if (next_ends set test x (y ∷ h) j)) (length h) in
    let blocked : (j : ℕ) → one_if (next_ends set test x (y ∷ h) (suc j)) ≡ 0 = λ j. search (rules, arith) in
    let others : sum_by (λ j. one_if (next_ends set test x (y ∷ h) (suc j))) (places h) ≡ 0 = sum_same _ (λ j. 0) blocked (places h) ∙ sum_none (places h) in
    grind (arith, common_steps, one_if)
behind-first set test x y h false is more =
    let split = sum-places (λ j. one_if (next_ends set test x (y ∷ h) j)) (length h) in
    grind (arith, common_steps, one_if, next_ends, sum_same)

-- The next photon of either group is the only one that can end an interval from x.
pub next-ends : (set : StartStopView) (test : ℕ → Bool) (x : Event × ℕ) (h : History)
    → count_by (next_ends set test x h) (places h) ≡ first_end set test x (photons_of_either set h)
next-ends set test x [] = refl
next-ends set test x (y ∷ h) = behind-first set test x y h (is_of_either set y) refl (next-ends set test x h)

first_row : (set : StartStopView) (test : ℕ → Bool) (x : Event × ℕ) (h : History)
    → count_by (is_pair set test (x ∷ h) 0) (places (x ∷ h)) ≡ count_by (next_ends set test x h) (places h)
first_row set test x h = search (rules, arith, sum-places, one_if, sum_same, next_ends, tests)

other_row : (set : StartStopView) (test : ℕ → Bool) (x : Event × ℕ) (h : History) (i : ℕ)
    → count_by (is_pair set test (x ∷ h) (suc i)) (places (x ∷ h)) ≡ count_by (is_pair set test h i) (places h)
other_row set test x h i =
    let split = sum-places (λ j. one_if (is_pair set test (x ∷ h) (suc i) j)) (length h) in
    grind (arith, common_steps, one_if, sum_same, nat_tests)

-- One more event in front, and the pairs of places.
pairs-cons : (set : StartStopView) (test : ℕ → Bool) (x : Event × ℕ) (h : History)
    → count_pairs set test (x ∷ h) ≡ first_end set test x (photons_of_either set h) + count_pairs set test h
pairs-cons set test x h =
    let split = sum-places (λ i. count_by (is_pair set test (x ∷ h) i) (places (x ∷ h))) (length h) in
    let others = sum_same (λ i. count_by (is_pair set test (x ∷ h) (suc i)) (places (x ∷ h)))
    (λ i. count_by (is_pair set test h i) (places h)) (other_row set test x h) (places h) in
    omega (arith, split, others, first_row set test x h, next-ends set test x h)

-- The intervals between neighbours are the pairs of places.
pub intervals_are_pairs : (set : StartStopView) (test : ℕ → Bool) (h : History) → count_intervals set test h ≡ count_pairs set test h
intervals_are_pairs set test [] = refl
intervals_are_pairs set test (x ∷ h) = grind (arith, common_steps, pairs-cons, sum_by-cons, intervals_are_pairs set test h)
