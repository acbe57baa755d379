-- One event more.
use Rattle.std.proofs.Common.{◌≡◌, ◌+◌, ◌-◌, ◌<◌, ◌≤◌, ℕ, suc, Some, get_or, List, [], ◌∷◌, ◌++◌, Bool, true, false, cond, length, refl, sym, ap, subst, ◌∙◌}
use Rattle.std.proofs.{Common.{append-nil, arith, nat_lt, slice_get, rules}, lemmas.List.{Elements.{All-from_recursion, recursion_from_All}, get_or_default}}
use Rattle.std.{proofs.lemmas.Bool.{ltb-true, ltb-false}, specs.List.{All, AllByRecursion, AllWithin, remove, Sorted.IsNonDecreasingBy}}
use Rattle.{tally_base.specs.declared.event.Event.Event, ptu_definitions.specs.Settled.{is_overtaken, not_overtaken, put_in, in_time, settles, IsOpen}}
use Rattle.ptu_definitions.proofs.{SettledLemmas.{length-put_in, put_in-rising}, SettlingLemmas.{each-put_in, each-weaker, is_late, is_not_late, joined-late}}
use Rattle.ptu_definitions.proofs.SettlingLemmas.{joined-put, joined-give, open-none, open-late, open-wait, open-emit, settled-is, settles-late, settles-more}
use Rattle.settle.specs.{Settling.{Precedes, IsInOrder}, Standing.IsSettled}

-- order by time and place stays
in_order-pick : (b : Bool) (e x : Event) (xs : List Event) (next : ℕ) → nat_lt e.time x.time ≡ b → next ≤ e.place → x.place < next
    → AllByRecursion (λ y. Precedes x y) xs → IsInOrder xs → IsInOrder (put_in e xs) → IsInOrder (cond b (e ∷ x ∷ xs) (x ∷ put_in e xs))
in_order-pick true e x xs next is above at before up rest = search (rules, arith, ltb-true, each-weaker)
in_order-pick false e x xs next is above at before up rest = search (rules, arith, ltb-false, each-put_in)

pub in_order-put_in : (e : Event) (xs : List Event) (next : ℕ) → next ≤ e.place
    → AllByRecursion (λ x. x.place < next) xs → IsInOrder xs → IsInOrder (put_in e xs)
in_order-put_in e [] next above all up = (tt, tt)
in_order-put_in e (x ∷ xs) next above all up = search (rules, arith, in_order-pick, in_order-put_in e xs next above all.1 up.1)

places-later : (next now : ℕ) (xs : List Event) → next ≤ now → AllByRecursion (λ x. x.place < next) xs → AllByRecursion (λ x. x.place < now + 1) xs
places-later next now xs h all = each-weaker (λ x. x.place < next) (λ x. x.place < now + 1) xs (λ x lt. omega arith) all

places-put_in : (e : Event) (next : ℕ) (xs : List Event) → next ≤ e.place
    → AllByRecursion (λ x. x.place < next) xs → AllByRecursion (λ x. x.place < e.place + 1) (put_in e xs)
places-put_in e next xs h all = each-put_in (λ x. x.place < e.place + 1) e xs (omega arith) (places-later next e.place xs h all)

-- Nothing pushed.
in_time-none : (k : ℕ) → in_time k [] ≡ []
unfolding in_time not_overtaken
in_time-none k = refl

pub settled-none : (k : ℕ) (w : List Event) → w ≡ [] → IsSettled k false w 0 0 [] []
settled-none k w is = search (rules, arith, in_time-none, open-none)

-- What a push leaves.
pub settled-late : (k : ℕ) (popped : Bool) (w : List Event) (last next : ℕ) (es g : List Event) (e : Event) → IsSettled k popped w last next es g
    → popped ≡ false → e.time < last → next ≤ e.place → IsSettled k popped w last (e.place + 1) (es ++ e ∷ []) (g ++ [])
settled-late k popped w last next es g e settled still early above =
    let now : IsOpen k es g w last = settled.unpopped still in
    let late : is_overtaken k es e ≡ true = is_late k es g w last e now early in
    rw append-nil (record {
      joined = joined-late k es g w e late settled.joined;
      in_order = settled.in_order;
      places = places-later next e.place w above settled.places;
      unpopped = λ _. open-late k es g w last e now early;
    })

pub settled-wait : (k : ℕ) (popped : Bool) (w new : List Event) (last next : ℕ) (es g : List Event) (e : Event) → IsSettled k popped w last next es g
    → popped ≡ false → last ≤ e.time → next ≤ e.place → length w < k → new ≡ put_in e w → IsSettled k popped new last (e.place + 1) (es ++ e ∷ []) (g ++ [])
settled-wait k popped w new last next es g e settled still in_time above few is =
    let now : IsOpen k es g w last = settled.unpopped still in
    let late : is_overtaken k es e ≡ false = is_not_late k es g w last e now (omega arith) in_time in
    rw (append-nil, is) (record {
      joined = joined-put k es g w last e late now in_time settled.joined;
      in_order = in_order-put_in e w next above settled.places settled.in_order;
      places = places-put_in e next w above settled.places;
      unpopped = λ _. open-wait k es g w last e now in_time few;
    })

pub settled-emit : (k : ℕ) (popped : Bool) (w rest : List Event) (last next : ℕ) (es g : List Event) (e x : Event) → IsSettled k popped w last next es g → popped ≡ false → last ≤ e.time → next ≤ e.place → length w ≡ k → x ∷ rest ≡ put_in e w → IsSettled k popped rest x.time (e.place + 1) (es ++ e ∷ []) (g ++ x ∷ [])
settled-emit k popped w rest last next es g e x settled still in_time above full is =
    let now : IsOpen k es g w last = settled.unpopped still in
    let late : is_overtaken k es e ≡ false = is_not_late k es g w last e now (omega arith) in_time in
    let order : IsInOrder (x ∷ rest) = subst IsInOrder (sym is) (in_order-put_in e w next above settled.places settled.in_order) in
    let places : AllByRecursion (λ y. y.place < e.place + 1) (x ∷ rest) = search (rules, arith, places-put_in) in
    record {
      joined = joined-give k (es ++ e ∷ []) g (put_in e w) rest x (sym is) (joined-put k es g w last e late now in_time settled.joined);
      in_order = order.1;
      places = places.1;
      unpopped = λ _. open-emit k es g w rest last e x now in_time full (sym is);
    }

pub answers-late : (k : ℕ) (popped : Bool) (w : List Event) (last place : ℕ) (es g : List Event) (e : Event)
    → IsSettled k popped w last place es g → popped ≡ false → e.time < last → true ≡ is_overtaken k es e
answers-late k popped w last place es g e settled still early = sym (is_late k es g w last e (settled.unpopped still) early)

pub answers-in_time : (k : ℕ) (popped : Bool) (w : List Event) (last place : ℕ) (es g : List Event) (e : Event)
    → IsSettled k popped w last place es g → popped ≡ false → length w ≤ k → last ≤ e.time → false ≡ is_overtaken k es e
answers-in_time k popped w last place es g e settled still few in_time = sym (is_not_late k es g w last e (settled.unpopped still) few in_time)

-- What a push tells.
pub tells-late : (k : ℕ) (popped : Bool) (w : List Event) (last place : ℕ) (es g : List Event) (e : Event)
    → IsSettled k popped w last place es g → popped ≡ false → e.time < last → settles k es e ≡ (e, true) ∷ []
tells-late k popped w last place es g e settled still early = settles-late k es e (is_late k es g w last e (settled.unpopped still) early)

pub tells-none : (k : ℕ) (popped : Bool) (w : List Event) (last place : ℕ) (es g : List Event) (e : Event)
    → IsSettled k popped w last place es g → popped ≡ false → last ≤ e.time → length w < k → settles k es e ≡ []
tells-none k popped w last place es g e settled still in_time few =
    let now : IsOpen k es g w last = settled.unpopped still in
    let late : is_overtaken k es e ≡ false = is_not_late k es g w last e now (omega arith) in_time in
    settles-more k es e g [] late (settled-is k es g w last now (omega arith) settled.joined)
    (settled-is k (es ++ e ∷ []) g (put_in e w) last (open-wait k es g w last e now in_time few) (omega (arith, length-put_in e w)) (joined-put k es g w last e late now in_time settled.joined)
    ∙ sym (append-nil g))

pub tells-one : (k : ℕ) (popped : Bool) (w rest : List Event) (last place : ℕ) (es g : List Event) (e x : Event) → IsSettled k popped w last place es g
    → popped ≡ false → last ≤ e.time → length w ≡ k → length rest ≡ length w → x ∷ rest ≡ put_in e w → settles k es e ≡ (x, false) ∷ []
tells-one k popped w rest last place es g e x settled still in_time full as_many is =
    let now : IsOpen k es g w last = settled.unpopped still in
    let late : is_overtaken k es e ≡ false = is_not_late k es g w last e now (omega arith) in_time in
    settles-more k es e g (x ∷ []) late (settled-is k es g w last now (omega arith) settled.joined)
    (settled-is k (es ++ e ∷ []) (g ++ x ∷ []) rest x.time (open-emit k es g w rest last e x now in_time full (sym is)) (omega arith)
    (joined-give k (es ++ e ∷ []) g (put_in e w) rest x (sym is) (joined-put k es g w last e late now in_time settled.joined)))

-- the event emitted is the least
pub least_one : (k : ℕ) (popped : Bool) (w rest : List Event) (last next : ℕ) (es g : List Event) (e x : Event)
    → IsSettled k popped w last next es g → next ≤ e.place → x ∷ rest ≡ put_in e w → AllByRecursion (λ y. Precedes x y) rest
least_one k popped w rest last next es g e x settled above is = search (rules, arith, in_order-put_in)

-- in rising times all before one that is no later are no later
pub all_before : (xs : List Event) (at t : ℕ) (z : Event) → IsNonDecreasingBy (λ (x : Event). x.time) xs
    → 0 < at → at ≤ length xs → (get_or xs (at - 1) z).time ≤ t → AllWithin (λ (x : Event). x.time ≤ t) xs 0 at
all_before xs at t z up pos within last = λ k d low high.
    let same : (get_or xs (at - 1) d).time ≡ (get_or xs (at - 1) z).time = ap (λ (x : Event). x.time) (get_or_default xs (at - 1) d z (omega arith)) in
    let le : (get_or xs k d).time ≤ (get_or xs (at - 1) d).time = up k (at - 1) d (omega arith) (omega arith) in
    omega arith

-- Nothing that waits is before the last event emitted or popped.
pub low-put_in : (t : ℕ) (e : Event) (xs new : List Event) → t ≤ e.time → new ≡ put_in e xs
    → All (λ (x : Event). t ≤ x.time) xs → All (λ (x : Event). t ≤ x.time) new
low-put_in t e xs new h is all = rw is (All-from_recursion (λ (x : Event). t ≤ x.time) (put_in e xs)
    (each-put_in (λ (x : Event). t ≤ x.time) e xs h (recursion_from_All (λ (x : Event). t ≤ x.time) xs all)))

pub low-rest : (e : Event) (xs : List Event) (x : Event) (rest : List Event)
    → IsNonDecreasingBy (λ (x : Event). x.time) xs → x ∷ rest ≡ put_in e xs → All (λ (y : Event). x.time ≤ y.time) rest
low-rest e xs x rest up is =
    let P : List Event → Type 0 = λ l. IsNonDecreasingBy (λ (x : Event). x.time) l in
    let all : P (x ∷ rest) = subst P (sym is) (put_in-rising e xs up) in
    λ k d h. all 0 (suc k) d (omega arith) (omega arith)

pub low-pop : (xs new : List Event) (x : Event) → IsNonDecreasingBy (λ (x : Event). x.time) xs
    → Some x ≡ slice_get xs 0 → new ≡ remove xs 0 → All (λ (y : Event). x.time ≤ y.time) new
low-pop [] new x up first rest = cc
low-pop (z ∷ xs) new x up first rest =
    let same : x ≡ z = cc in
    rw (rest, same) (λ k d h. up 0 (suc k) d (omega arith) (omega arith))

pub rising-pop : (xs new : List Event) → IsNonDecreasingBy (λ (x : Event). x.time) xs → new ≡ remove xs 0 → IsNonDecreasingBy (λ (x : Event). x.time) new
rising-pop [] new up rest = rw rest (λ i j d le h. absurd (omega arith))
rising-pop (z ∷ xs) new up rest = rw rest (λ i j d le h. up (suc i) (suc j) d (omega arith) (omega arith))
