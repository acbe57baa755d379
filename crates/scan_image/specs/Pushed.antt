-- A count that sees the events before each event, and one more event.
use Rattle.std.proofs.{Common.{◌≡◌, ◌∙◌, ℕ, zero, suc, ◌+◌, ◌<◌, ◌≤◌, Bool, false, cond, List, [], ◌∷◌, ◌++◌, length, take, refl, ap, arith, length-append, Some, sum_by}, Math.Seq.take-append_seam}
use Rattle.std.{proofs.lemmas.List.{take-append-le, Sums.sum_by-cons}, specs.{List.{range_with_len, slice_get}, Option.option_map_or}}
use Rattle.{tally_base.specs.{declared.event.Event.Event, Tally.History}, scan_image.specs.ImageCounts.count_behind}

-- one number more
pub sum-range-push : (f : ℕ → ℕ) (a n : ℕ) → sum_by f (range_with_len a (suc n)) ≡ sum_by f (range_with_len a n) + f (a + n)
sum-range-push f a zero = let here : a + 0 ≡ a = omega arith in omega (arith, sum_by-cons f a [], ap f here)
sum-range-push f a (suc n) =
    let here : a + 1 + n ≡ a + suc n = omega arith in
    omega (arith, sum-range-push f (a + 1) n, ap f here, sum_by-cons f a (range_with_len (a + 1) (suc n)), sum_by-cons f a (range_with_len (a + 1) n))

pub sum-range-agree : (f g : ℕ → ℕ) (a n : ℕ) → ((i : ℕ) → a ≤ i → i < a + n → f i ≡ g i) → sum_by f (range_with_len a n) ≡ sum_by g (range_with_len a n)
sum-range-agree f g a zero same = refl
sum-range-agree f g a (suc n) same =
    let more = sum-range-agree f g (a + 1) n (λ i low high. same i (omega arith) (omega arith)) in
    let rest = range_with_len (a + 1) n in
    omega (arith, more, same a (omega arith) (omega arith), sum_by-cons f a rest, sum_by-cons g a rest)

get-before : {X : Type 0} (xs ys : List X) (i : ℕ) → i < length xs → slice_get (xs ++ ys) i ≡ slice_get xs i
get-before [] ys i within = absurd (omega arith)
get-before (x ∷ xs) ys zero within = refl
get-before (x ∷ xs) ys (suc i) within = get-before xs ys i (omega arith)

get-pushed : {X : Type 0} (xs : List X) (y : X) → slice_get (xs ++ y ∷ []) (length xs) ≡ Some y
get-pushed [] y = refl
get-pushed (x ∷ xs) y = get-pushed xs y

abbrev pub one_if : Bool → ℕ
one_if b = cond b 1 0

-- whether the event at a place passes the test
abbrev passes_at : (History → Event × ℕ → Bool) → History → ℕ → Bool
passes_at test h i = option_map_or (test (take i h)) (slice_get h i) false

pub count_behind-push : (test : History → Event × ℕ → Bool) (h : History) (x : Event × ℕ) → count_behind test (h ++ x ∷ []) ≡ count_behind test h + cond (test h x) 1 0
count_behind-push test h x =
    let later = h ++ x ∷ [] in
    let n = length h in
    let longer : length later ≡ suc n = rw (length-append h (x ∷ [])) (omega arith) in
    let none_before : 0 + n ≡ n = omega arith in
    let split = ap (λ m. sum_by (λ i. one_if (passes_at test later i)) (range_with_len 0 m)) longer ∙ (sum-range-push (λ i. one_if (passes_at test later i)) 0 n ∙ ap (λ i. sum_by (λ i. one_if (passes_at test later i)) (range_with_len 0 n) + one_if (passes_at test later i)) none_before) in
    let same = sum-range-agree (λ i. one_if (passes_at test later i)) (λ i. one_if (passes_at test h i)) 0 n (λ i low high. same_at i (omega arith)) in
    let last = ap (λ o. one_if (option_map_or (test (take n later)) o false)) (get-pushed h x) ∙ ap (λ before. one_if (test before x)) (take-append_seam h (x ∷ [])) in
    omega (arith, split, same, last)
  where
    same_at : (i : ℕ) → i < length h → one_if (passes_at test (h ++ x ∷ []) i) ≡ one_if (passes_at test h i)
    same_at i within = ap (λ before. one_if (option_map_or (test before) (slice_get (h ++ x ∷ []) i) false)) (take-append-le i h (x ∷ []) (omega arith)) ∙ ap (λ o. one_if (option_map_or (test (take i h)) o false)) (get-before h (x ∷ []) i within)
