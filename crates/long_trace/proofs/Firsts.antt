-- What is made of the first numbers, one by one.
use Rattle.std.proofs.Common.{◌≡◌, ◌∙◌, ℕ, zero, suc, ◌+◌, ◌<◌, Bool, true, false, cond, List, [], ◌∷◌, ◌++◌, map, refl, sym, ap, arith, append-nil}
use Rattle.std.proofs.{Common.{append_assoc, count_by, rules}, lemmas.List.{flat_map_more, FromFn.map-range_with_len_more, Sums.sum_by_push}}
use Rattle.std.specs.List.{range_with_len, flat_map}

pub first-more : {A : Type 0} (f : ℕ → A) (n m : ℕ) → m ≡ n + 1 → map f (range_with_len 0 m) ≡ map f (range_with_len 0 n) ++ f n ∷ []
first-more f n m e = rw e (map-range_with_len_more f 0 n n (omega arith))

-- functions that are the same on the first numbers
pub first-same : {A : Type 0} (f g : ℕ → A) (n : ℕ) → ((b : ℕ) → b < n → f b ≡ g b) → map f (range_with_len 0 n) ≡ map g (range_with_len 0 n)
first-same f g zero same = refl
first-same f g (suc n) same =
    let here : f n ≡ g n = same n (omega arith) in
    let before = first-same f g n (λ b lt. same b (omega (arith, lt))) in
    first-more f n (suc n) (omega arith) ∙ rw (before, here) refl ∙ sym (first-more g n (suc n) (omega arith))

flat-of-map : {A B : Type 0} (f : A → List B) (xs : List A) → flat_map f xs ≡ flat_map (λ l. l) (map f xs)
flat-of-map f [] = refl
flat-of-map f (x ∷ xs) = ap (λ l. f x ++ l) (flat-of-map f xs)

pub lines-more : {A : Type 0} (f : ℕ → List A) (n m : ℕ) → m ≡ n + 1 → flat_map f (range_with_len 0 m) ≡ flat_map f (range_with_len 0 n) ++ f n
lines-more f n m e =
    flat-of-map f (range_with_len 0 m) ∙ ap (λ l. flat_map (λ k. k) l) (first-more f n m e) ∙ sym (flat_map_more (λ k. k) [] (map f (range_with_len 0 n)) (f n))
    ∙ ap (λ l. l ++ f n) (sym (flat-of-map f (range_with_len 0 n)))

pub lines-same : {A : Type 0} (f g : ℕ → List A) (n : ℕ) → ((b : ℕ) → b < n → f b ≡ g b) → flat_map f (range_with_len 0 n) ≡ flat_map g (range_with_len 0 n)
lines-same f g n same = search (rules, arith, flat-of-map, first-same)

-- the lines of more begin with those of fewer
pub lines-front : {A : Type 0} (f : ℕ → List A) (n k m : ℕ) → m ≡ k + n
    → (rest : List A) × (flat_map f (range_with_len 0 m) ≡ flat_map f (range_with_len 0 n) ++ rest)
lines-front f n zero m e = let same : m ≡ n = omega (arith, e) in ([], rw same (sym (append-nil (flat_map f (range_with_len 0 n)))))
lines-front f n (suc k) m e =
    let fewer = lines-front f n k (k + n) refl in
    (fewer.0 ++ f (k + n), lines-more f (k + n) m (omega (arith, e)) ∙ ap (λ l. l ++ f (k + n)) fewer.1 ∙ append_assoc (flat_map f (range_with_len 0 n)) fewer.0 (f (k + n)))

-- how many of the first pass a test
pub count-more : (p : ℕ → Bool) (f : ℕ → ℕ) (n m : ℕ) → m ≡ n + 1
    → count_by p (map f (range_with_len 0 m)) ≡ count_by p (map f (range_with_len 0 n)) + cond (p (f n)) 1 0
count-more p f n m e = ap (count_by p) (first-more f n m e) ∙ sum_by_push (λ x. cond (p x) 1 0) (map f (range_with_len 0 n)) (f n)

one_more : (b : Bool) (k : ℕ) → cond b k 0 + cond b 1 0 ≡ cond b (suc k) 0
one_more b k = search (rules, arith)

nought : (b : Bool) → ◌≡◌ {A = ℕ} (cond b 0 0) 0
nought true = refl
nought false = refl

-- after a number all are 0
pub count-skip : (p : ℕ → Bool) (f : ℕ → ℕ) (at k m : ℕ) → ((b : ℕ) → at < b → f b ≡ 0) → m ≡ k + at + 1
    → count_by p (map f (range_with_len 0 m)) ≡ count_by p (map f (range_with_len 0 at)) + cond (p (f at)) 1 0 + cond (p 0) k 0
count-skip p f at zero m none e = omega (arith, count-more p f at m (omega (arith, e)), nought (p 0))
count-skip p f at (suc k) m none e =
    let last : f (k + at + 1) ≡ 0 = none (k + at + 1) (omega arith) in
    let more = count-more p f (k + at + 1) m (omega (arith, e)) in
    let same : ◌≡◌ {A = ℕ} (cond (p (f (k + at + 1))) 1 0) (cond (p 0) 1 0) = rw last refl in
    omega (arith, more, same, count-skip p f at k (k + at + 1) none refl, one_more (p 0) k)

pub lines-skip : {A : Type 0} (f : ℕ → List A) (at k m : ℕ) → ((b : ℕ) → at < b → f b ≡ []) → m ≡ k + at + 1
    → flat_map f (range_with_len 0 m) ≡ flat_map f (range_with_len 0 at) ++ f at
lines-skip f at zero m none e = lines-more f at m (omega (arith, e))
lines-skip f at (suc k) m none e =
    lines-more f (k + at + 1) m (omega (arith, e)) ∙ ap (λ l. flat_map f (range_with_len 0 (k + at + 1)) ++ l) (none (k + at + 1) (omega arith))
    ∙ append-nil (flat_map f (range_with_len 0 (k + at + 1))) ∙ lines-skip f at k (k + at + 1) none refl
