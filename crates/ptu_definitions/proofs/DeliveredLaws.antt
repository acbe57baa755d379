-- What is delivered makes up the settled list, and with the rest the kept list.
use Rattle.std.proofs.Common.{◌≡◌, ◌+◌, ◌-◌, ◌≤◌, ℕ, List, [], ◌∷◌, ◌++◌, Bool, true, false, cond, map, length, refl, sym, ap, ◌∙◌, append_assoc, append-nil}
use Rattle.std.proofs.Common.{zero-add, arith, nat_lt, not, ◌&&◌, ◌==◌, ◌||◌, rules, take, take-append-drop, zero, suc, inl, inr, drop}
use Rattle.std.proofs.lemmas.{List.{map-append, take_all, take-take, length-take, Elements.filter-append}, Bool.{cases_lt, lt-ltb, ltb-false, ltb-true}}
use Rattle.std.{proofs.lemmas.{Bool.{cases_Bool, cases_eq, ne_eqb}, Grind.common_steps}, specs.List.{AllByRecursion, filter, list_any}}
use Rattle.{tally_base.specs.{declared.{event.Event.Event, header.Mode.Mode}, Events.is_ordered}, ptu_definitions.specs.{Prefixes.each_after, Kept.Marked}}
use Rattle.ptu_definitions.specs.{Kept.{mark, marked, is_late, kept}, Settled.{later_than, is_overtaken, unless_overtaken, not_overtaken, put_in, put_all}}
use Rattle.ptu_definitions.specs.Settled.{in_time, without_last, last_of, marked_as, settles, delivered, delivered_last, those_marked, not_marked, late_by}
use Rattle.ptu_definitions.{specs.Settled.{is_late_by, ordered, kept_by, settled_by, Rises}, proofs.PrefixLemmas.each_after-append}
use Rattle.ptu_definitions.proofs.SettledLemmas.{later_than-cons, later_than-push, put_in-append, length-put_in, later_than-put_in, later_than-length}
use Rattle.ptu_definitions.proofs.{SettledLemmas.{all_later, is_no_later, in_time-push, in_time-late}, SettlingLemmas.all-push, SettledLaws.in_time-rises}

-- Where k is 0 the words that stood before mean the same.
one_pick : (c : Bool) (n : ℕ) → nat_lt 0 (cond c 1 0 + n) ≡ c || nat_lt 0 n
one_pick c n = search (rules, arith, lt-ltb, zero-add)

any_pick : (b : Bool) (t : ℕ) (e : Event) (xs : List Event) (r : Bool) → nat_lt 0 (later_than t xs) ≡ r
    → nat_lt 0 (later_than t (cond b (e ∷ xs) xs)) ≡ (b && nat_lt t e.time) || r
any_pick b t e xs r h = grind (arith, common_steps, later_than-cons, one_pick)

pub overtaken-0 : (mode : Mode) (es : List Event) (t : ℕ)
    → nat_lt 0 (later_than t (ordered mode es)) ≡ list_any (λ (x : Event). is_ordered mode x && nat_lt t x.time) es
overtaken-0 mode [] t = refl
overtaken-0 mode (e ∷ es) t = any_pick (is_ordered mode e) t e (ordered mode es) _ (overtaken-0 mode es t)

pub is_late_by-0 : (mode : Mode) (before : List Event) (e : Event) → is_late_by 0 mode before e ≡ is_late mode before e
is_late_by-0 mode before e = ap (λ x. is_ordered mode e && x) (overtaken-0 mode before e.time)

-- one event more, where it is ordered and where it isn't
ordered-push : (mode : Mode) (before : List Event) (x : Event) → ordered mode (before ++ x ∷ []) ≡ ordered mode before ++ cond (is_ordered mode x) (x ∷ []) []
ordered-push mode before x = filter-append (λ (e : Event). is_ordered mode e) before (x ∷ [])

abbrev names : Marked → List Event
names l = map (λ (y : Event × Bool). y.0) l

kept_pick : (mode : Mode) (o c : Bool) (x : Event) (now os : List Event) (more : Marked)
    → is_ordered mode x ≡ o → is_overtaken 0 now x ≡ c
    → (o ≡ true → each_after (unless_overtaken 0) (now ++ x ∷ []) os ≡ ordered mode (names more))
    → (o ≡ false → each_after (unless_overtaken 0) now os ≡ ordered mode (names more))
    → each_after (unless_overtaken 0) now (cond o (x ∷ os) os) ≡ ordered mode (names (cond (not (o && c)) ((x, o && c) ∷ more) more))
kept_pick mode o c x now os more is late h1 h2 = search (rules, arith)

kept-ordered_after : (mode : Mode) (before xs : List Event) → each_after (unless_overtaken 0) (ordered mode before)
    (ordered mode xs) ≡ ordered mode (names (filter (λ (y : Event × Bool). not y.1) (each_after (mark mode) before xs)))
kept-ordered_after mode before [] = refl
kept-ordered_after mode before (x ∷ xs) =
    let more : Marked = filter (λ (y : Event × Bool). not y.1) (each_after (mark mode) (before ++ x ∷ []) xs) in
    search (rules, arith, names, kept_pick, ordered-push, append-nil, is_late_by-0, kept-ordered_after mode (before ++ x ∷ []) xs)

-- where k is 0 the events that aren't late are in order of time
zero_pick : (a b n : ℕ) → n ≡ a + b → n ≡ 0 → (a ≡ 0) × (b ≡ 0)
zero_pick a b n e h = (omega arith, omega arith)

no_later : (t : ℕ) (c : Bool) (x : Event) → nat_lt t x.time ≡ c → ◌≡◌ {A = ℕ} (cond c 1 0) 0 → x.time ≤ t
no_later t c x is h = search (rules, arith, ltb-false)

none-later : (n : ℕ) → nat_lt 0 n ≡ false → n ≡ 0
none-later n h = let le : n ≤ 0 = ltb-false 0 n h in omega arith

abbrev IsUpTo : List Event → List Event → Type 0
IsUpTo sorted before = (t : ℕ) → later_than t before ≡ 0 → AllByRecursion (λ x. x.time ≤ t) sorted

up_to-same : (sorted before : List Event) (x : Event) → IsUpTo sorted before → IsUpTo sorted (before ++ x ∷ [])
up_to-same sorted before x up t none = up t ((zero_pick _ _ _ (later_than-push t before x) none).0)

up_to-push : (sorted before : List Event) (x : Event) → IsUpTo sorted before → IsUpTo (sorted ++ x ∷ []) (before ++ x ∷ [])
up_to-push sorted before x up t none =
    let parts : (later_than t before ≡ 0) × (◌≡◌ {A = ℕ} (cond (nat_lt t x.time) 1 0) 0) = zero_pick _ _ _ (later_than-push t before x) none in
    all-push (λ (y : Event). y.time ≤ t) sorted x (up t parts.0) (no_later t (nat_lt t x.time) x refl parts.1)

sorted-0_pick : (c : Bool) (sorted before xs : List Event) (x : Event) → is_overtaken 0 before x ≡ c → IsUpTo sorted before
    → ((now : List Event) → IsUpTo now (before ++ x ∷ [])
    → put_all now (each_after (unless_overtaken 0) (before ++ x ∷ []) xs) ≡ now ++ each_after (unless_overtaken 0) (before ++ x ∷ []) xs)
    → put_all sorted (cond c [] (x ∷ []) ++ each_after (unless_overtaken 0) (before ++ x ∷ []) xs) ≡ sorted
    ++ (cond c [] (x ∷ []) ++ each_after (unless_overtaken 0) (before ++ x ∷ []) xs)
sorted-0_pick true sorted before xs x is up rest = rest sorted (up_to-same sorted before x up)
sorted-0_pick false sorted before xs x is up rest =
    let put : put_in x sorted ≡ sorted ++ x ∷ [] =
    ap (put_in x) (sym (append-nil sorted)) ∙ put_in-append x sorted [] (up x.time (none-later (later_than x.time before) is)) in
    ap (λ l. put_all l (each_after (unless_overtaken 0) (before ++ x ∷ []) xs)) put
    ∙ rest (sorted ++ x ∷ []) (up_to-push sorted before x up)
    ∙ append_assoc sorted (x ∷ []) (each_after (unless_overtaken 0) (before ++ x ∷ []) xs)

sorted-0 : (sorted before xs : List Event) → IsUpTo sorted before
    → put_all sorted (each_after (unless_overtaken 0) before xs) ≡ sorted ++ each_after (unless_overtaken 0) before xs
sorted-0 sorted before [] up = sym (append-nil sorted)
sorted-0 sorted before (x ∷ xs) up = sorted-0_pick (is_overtaken 0 before x) sorted before xs x refl up (λ now h. sorted-0 now (before ++ x ∷ []) xs h)

pub in_time-0 : (es : List Event) → in_time 0 es ≡ not_overtaken 0 es
unfolding in_time not_overtaken
in_time-0 es = sorted-0 [] [] es (λ t none. tt)

-- Where k is 0, the ordered events that are kept are those of the list in order of time.
pub in_time-kept : (mode : Mode) (es : List Event) → in_time 0 (ordered mode es) ≡ ordered mode (kept mode es)
unfolding not_overtaken kept marked
in_time-kept mode es = in_time-0 (ordered mode es) ∙ kept-ordered_after mode [] es

-- Which events are delivered.
pub not_marked-append : (a b : Marked) → not_marked (a ++ b) ≡ not_marked a ++ not_marked b
not_marked-append a b = search (rules, arith, names, filter-append, map-append)

those_marked-append : (a b : Marked) → those_marked (a ++ b) ≡ those_marked a ++ those_marked b
those_marked-append a b = search (rules, arith, names, filter-append, map-append)

pub not_marked-false : (l : List Event) → not_marked (marked_as false l) ≡ l
not_marked-false [] = refl
not_marked-false (x ∷ l) = ap (λ r. x ∷ r) (not_marked-false l)

pub those_marked-false : (l : List Event) → those_marked (marked_as false l) ≡ []
those_marked-false [] = refl
those_marked-false (x ∷ l) = those_marked-false l

-- events that aren't late are no more than all
later-put_all : (t : ℕ) (sorted es : List Event) → later_than t (put_all sorted es) ≡ later_than t sorted + later_than t es
later-put_all t sorted [] = omega arith
later-put_all t sorted (e ∷ es) = search (rules, arith, later_than-put_in, later_than-cons, later-put_all t (put_in e sorted) es)

later-kept : (k t : ℕ) (before es : List Event) → later_than t (each_after (unless_overtaken k) before es) ≤ later_than t es
later-kept k t before [] = omega arith
later-kept k t before (e ∷ es) = grind (arith, common_steps, cases_Bool, later_than-cons, later-kept k t (before ++ e ∷ []) es)

later-in_time : (k t : ℕ) (es : List Event) → later_than t (in_time k es) ≤ later_than t es
unfolding in_time not_overtaken
later-in_time k t es = omega (arith, later-put_all t [] (each_after (unless_overtaken k) [] es), later-kept k t [] es)

-- An event that comes leaves those before it in their places, except for the later ones.
put_in-front : (n u : ℕ) (e : Event) (xs : List Event) → Rises u xs → n + later_than e.time xs ≤ length xs → take n (put_in e xs) ≡ take n xs
put_in-front zero u e xs up few = refl
put_in-front (suc n) u e [] up few = absurd (omega arith)
put_in-front (suc n) u e (x ∷ xs) up few = elim (cases_lt e.time x.time) [
  | inl less ↦ absurd (omega (arith, few, all_later x.time e.time (x ∷ xs) less (omega arith, up.1)))
  | inr passes ↦
      let behind : n + later_than e.time xs ≤ length xs = omega (arith, few, later_than-cons e.time x xs, is_no_later e.time x passes) in
      ap (take (suc n)) (put_in-append e (x ∷ []) xs (passes, tt)) ∙ ap (λ l. x ∷ l) (put_in-front n x.time e xs up.1 behind)
]

-- What was settled stays so when one event more comes, and what is delivered with it is settled after.
settled-front : (k : ℕ) (es : List Event) (e : Event) → is_overtaken k es e ≡ false
    → without_last k (in_time k es) ++ drop (length (without_last k (in_time k es))) (without_last k (in_time k (es ++ e ∷ [])))
    ≡ without_last k (in_time k (es ++ e ∷ []))
settled-front k es e kept =
    let sorted = in_time k es in
    let n = length sorted - k in
    let m = length (put_in e sorted) - k in
    let few : later_than e.time sorted ≤ k = omega (arith, later-in_time k e.time es, ltb-false k (later_than e.time es) kept) in
    let within : n + later_than e.time sorted ≤ length sorted = omega (arith, few, later_than-length e.time sorted) in
    let front : take n (take m (put_in e sorted)) ≡ take n sorted =
    take-take n m (put_in e sorted) (omega (arith, length-put_in e sorted)) ∙ put_in-front n 0 e sorted (in_time-rises k es) within in
    let size : length (take n sorted) ≡ n = length-take n sorted ∙ omega arith in
    rw (in_time-push k es e kept, size) (ap (λ l. l ++ drop n (take m (put_in e sorted))) (sym front) ∙ take-append-drop n (take m (put_in e sorted)))

settled-one : (k : ℕ) (es : List Event) (e : Event) → without_last k (in_time k es) ++ not_marked (settles k es e) ≡ without_last k (in_time k (es ++ e ∷ []))
settled-one k es e = search (rules, arith, cases_Bool, append-nil, in_time-late, not_marked-false, settled-front)

settled-more : (k : ℕ) (before xs : List Event)
    → without_last k (in_time k before) ++ not_marked (each_after (settles k) before xs) ≡ without_last k (in_time k (before ++ xs))
settled-more k before [] = rw (append-nil before) (append-nil (without_last k (in_time k before)))
settled-more k before (x ∷ xs) = search (rules, arith, not_marked-append, append_assoc, settled-one, settled-more k (before ++ x ∷ []) xs)

settled-delivered : (k : ℕ) (es : List Event) → not_marked (each_after (settles k) [] es) ≡ without_last k (in_time k es)
unfolding in_time not_overtaken
settled-delivered k es =
    let none : without_last {A = Event} k [] ≡ [] = take_all (0 - k) [] (omega arith) in
    ap (λ l. l ++ not_marked (each_after (settles k) [] es)) (sym none) ∙ settled-more k [] es

rest-delivered : (k : ℕ) (es : List Event) → not_marked (each_after (settles k) [] es) ++ last_of k (in_time k es) ≡ in_time k es
rest-delivered k es = ap (λ l. l ++ last_of k (in_time k es)) (settled-delivered k es) ∙ take-append-drop (length (in_time k es) - k) (in_time k es)

-- The late events are delivered in file order.
abbrev if_late : ℕ → Mode → List Event → Event → List Event
if_late k mode before e = cond (is_late_by k mode before e) (e ∷ []) []

mark_pick : (b c : Bool) (e : Event) (more : Marked) (rest : List Event) → b ≡ c
    → those_marked more ≡ rest → those_marked ((e, b) ∷ more) ≡ cond c (e ∷ []) [] ++ rest
mark_pick b c e more rest same h = search (rules, arith)

late-0 : (mode : Mode) (before xs : List Event) → those_marked (each_after (mark mode) before xs) ≡ each_after (if_late 0 mode) before xs
late-0 mode before [] = refl
late-0 mode before (x ∷ xs) = search (rules, arith, mark_pick, is_late_by-0, late-0 mode (before ++ x ∷ []) xs)

those_settled : (k : ℕ) (before : List Event) (e : Event) (c : Bool) → is_overtaken k before e ≡ c → those_marked (settles k before e) ≡ cond c (e ∷ []) []
those_settled k before e c is = search (rules, arith, those_marked-false)

late_pick : (k : ℕ) (o : Bool) (now os : List Event) (x : Event) (rest : List Event)
    → (o ≡ true → those_marked (each_after (settles k) (now ++ x ∷ []) os) ≡ rest)
    → (o ≡ false → those_marked (each_after (settles k) now os) ≡ rest)
    → those_marked (each_after (settles k) now (cond o (x ∷ os) os)) ≡ cond (o && is_overtaken k now x) (x ∷ []) [] ++ rest
late_pick k o now os x rest h1 h2 = search (rules, arith, those_marked-append, those_settled)

late-more : (k : ℕ) (mode : Mode) (before xs : List Event)
    → those_marked (each_after (settles k) (ordered mode before) (ordered mode xs)) ≡ each_after (if_late k mode) before xs
late-more k mode before [] = refl
late-more k mode before (x ∷ xs) =
    let rest : those_marked (each_after (settles k) (ordered mode (before ++ x ∷ [])) (ordered mode xs)) ≡ each_after (if_late k mode) (before ++ x ∷ []) xs =
    late-more k mode (before ++ x ∷ []) xs in
    late_pick k (is_ordered mode x) (ordered mode before) (ordered mode xs) x (each_after (if_late k mode) (before ++ x ∷ []) xs)
    (λ on. ap (λ l. those_marked (each_after (settles k) l (ordered mode xs))) (sym (ordered-push mode before x ∙ rw on refl)) ∙ rest)
    (λ off. ap (λ l. those_marked (each_after (settles k) l (ordered mode xs))) (sym (ordered-push mode before x ∙ rw (off, append-nil) refl)) ∙ rest)

pub delivered-settled : (k : ℕ) (mode : Mode) (es : List Event) → not_marked (delivered k mode es) ≡ settled_by k mode es
unfolding delivered kept
delivered-settled k mode es = search (rules, arith, cases_eq, take_all, ne_eqb, settled-delivered)

pick_kept : (k : ℕ) (mode : Mode) (es : List Event) (b : Bool) → not_marked (cond b (marked mode es) (each_after (settles k) [] (ordered mode es)) ++ cond b [] (marked_as false (last_of k (in_time k (ordered mode es))))) ≡ cond b (kept mode es) (in_time k (ordered mode es))
unfolding kept
pick_kept k mode es b = search (rules, arith, append-nil, not_marked-append, not_marked-false, rest-delivered)

pub delivered-kept : (k : ℕ) (mode : Mode) (es : List Event) → not_marked (delivered k mode es ++ delivered_last k mode es) ≡ kept_by k mode es
unfolding delivered delivered_last
delivered-kept k mode es = pick_kept k mode es (k == 0)

pub delivered-late : (k : ℕ) (mode : Mode) (es : List Event) → those_marked (delivered k mode es) ≡ late_by k mode es
unfolding delivered late_by marked
delivered-late k mode es = elim (cases_eq k 0) [
  | inl none ↦ rw none (late-0 mode [] es)
  | inr some ↦ rw (ne_eqb k 0 some) (late-more k mode [] es)
]

-- What stands where k is 0.
pub delivered-0 : (mode : Mode) (es : List Event) → delivered 0 mode es ≡ marked mode es
unfolding delivered
delivered-0 mode es = refl

pub delivered_last-0 : (mode : Mode) (es : List Event) → delivered_last 0 mode es ≡ []
unfolding delivered_last
delivered_last-0 mode es = refl

pub settled_by-0 : (mode : Mode) (es : List Event) → settled_by 0 mode es ≡ kept mode es
settled_by-0 mode es = take_all (length (kept mode es) - 0) (kept mode es) (omega arith)

-- A list that grows.

-- what events after others add to what is delivered
abbrev pub delivered_after : ℕ → Mode → List Event → List Event → Marked
delivered_after k mode before es = cond (k == 0) (each_after (mark mode) before es) (each_after (settles k) (ordered mode before) (ordered mode es))

pub delivered-append : (k : ℕ) (mode : Mode) (es more : List Event) → delivered k mode (es ++ more) ≡ delivered k mode es ++ delivered_after k mode es more
unfolding delivered marked
delivered-append k mode es more = search (rules, arith, cases_Bool, each_after-append, filter-append)

-- one event, where the list isn't that in file order
pub delivered_after-ordered : (k : ℕ) (mode : Mode) (before : List Event) (e : Event) → (k == 0) ≡ false
    → is_ordered mode e ≡ true → delivered_after k mode before (e ∷ []) ≡ settles k (ordered mode before) e
delivered_after-ordered k mode before e some on = rw (some, on) (append-nil (settles k (ordered mode before) e))

pub delivered_after-unordered : (k : ℕ) (mode : Mode) (before : List Event) (e : Event)
    → (k == 0) ≡ false → is_ordered mode e ≡ false → delivered_after k mode before (e ∷ []) ≡ []
delivered_after-unordered k mode before e some off = rw (some, off) refl

-- An event that is late by k is late where k is 0: the clock says so too.
late_pick-0 : (b : Bool) (k n : ℕ) → b && nat_lt k n ≡ true → b && nat_lt 0 n ≡ true
late_pick-0 b k n h = search (rules, arith, ltb-true, lt-ltb)

pub is_late-by : (k : ℕ) (mode : Mode) (before : List Event) (e : Event) → is_late_by k mode before e ≡ true → is_late mode before e ≡ true
is_late-by k mode before e h = sym (is_late_by-0 mode before e) ∙ late_pick-0 (is_ordered mode e) k (later_than e.time (ordered mode before)) h

-- no late event is delivered at the end
rest_pick : (k : ℕ) (es : List Event) (b : Bool) → those_marked (cond b [] (marked_as false (last_of k (in_time k es)))) ≡ []
rest_pick k es b = search (rules, arith, those_marked-false)

pub delivered_last-late : (k : ℕ) (mode : Mode) (es : List Event)
    → those_marked (delivered k mode es ++ delivered_last k mode es) ≡ those_marked (delivered k mode es)
unfolding delivered_last
delivered_last-late k mode es = search (rules, arith, those_marked-append, rest_pick, append-nil)

-- nothing is delivered of no events
pub delivered-none : (k : ℕ) (mode : Mode) → delivered k mode [] ≡ []
unfolding delivered marked
delivered-none k mode = elim (cases_Bool (k == 0)) [ inl none ↦ rw none refl | inr some ↦ rw some refl ]
