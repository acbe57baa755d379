-- Sets as numbers, and sets taken together.
use Rattle.{fold_count.specs.FoldCounts.number_of, std.proofs.Common.{◌≡◌, ℕ, suc, ◌+◌, ◌*◌, ◌^◌, ◌<◌, Bool, false, cond, ltb, List, [], ◌∷◌, length, get_or}}
use Rattle.std.proofs.{Common.{take, refl, arith, rules, ◌∙◌, ◌/◌, ◌||◌, sym, ap, bit_or, ◌++◌}, lemmas.{Grind.{pow_more, common_steps}, Nat.{or_shr, or_comm}}}
use Rattle.std.{proofs.{lemmas.List.Folds.list_any-append, Math.Arith.bin_ind}, specs.{List.{list_any, AllByRecursion}, Int.Bits.{or_step, or_self}}}

pow_suc : (i : ℕ) → 2 ^ suc i ≡ 2 * 2 ^ i
pow_suc i = grind arith

digit : (b : Bool) (c n p q : ℕ) → q ≡ 2 * p → c + 2 * (n + cond b p 0) ≡ (c + 2 * n) + cond b q 0
digit b c n p q is = search (rules, arith)

pub number_push : (test : ℕ → Bool) (xs : List ℕ) (x : ℕ) → number_of test (xs ++ x ∷ []) ≡ number_of test xs + cond (test x) (2 ^ length xs) 0
number_push test [] x = search (rules, arith)
number_push test (y ∷ xs) x = search (rules, arith, digit, pow_suc, number_push test xs x)

-- one digit more
pub number_more : (test : ℕ → Bool) (xs : List ℕ) (i d : ℕ) → i < length xs → number_of test (take (i + 1) xs) ≡ number_of test (take i xs) + cond (test (get_or xs i d)) (2 ^ i) 0
number_more test xs i d inside = grind (arith, common_steps, number_push)

below : (b : Bool) (n p q : ℕ) → n < p → q ≡ 2 * p → cond b 1 0 + 2 * n < q
below b n p q few is = search (rules, arith)

pub number_below : {X : Type 0} (test : X → Bool) (xs : List X) → number_of test xs < 2 ^ length xs
number_below test [] = omega arith
number_below test (x ∷ xs) = below (test x) (number_of test xs) (2 ^ length xs) (2 ^ suc (length xs)) (number_below test xs) (pow_suc (length xs))

-- tests that agree at each place give one number
pub number_agree : (p q : ℕ → Bool) (xs : List ℕ) → ((k : ℕ) → k < length xs → p (get_or xs k 0) ≡ q (get_or xs k 0)) → number_of p xs ≡ number_of q xs
number_agree p q [] agree = refl
number_agree p q (x ∷ xs) agree =
    let here : p x ≡ q x = agree 0 (omega arith) in
    let rest : number_of p xs ≡ number_of q xs = number_agree p q xs (λ k inside. agree (suc k) (omega (arith, inside))) in
    rw (here, rest) refl

-- where no digit is set
pub number_none : (p : ℕ → Bool) (xs : List ℕ) → ((x : ℕ) → p x ≡ false) → number_of p xs ≡ 0
number_none p [] none = refl
number_none p (x ∷ xs) none = search (rules, arith, none, number_none p xs none)

-- whether one is
pub any_in : (p : ℕ → Bool) (xs : List ℕ) → list_any p xs ≡ ltb 0 (number_of p xs)
any_in p [] = refl
any_in p (x ∷ xs) = search (rules, arith, any_in p xs)

pub bit_few : (b : Bool) (set bit k : ℕ) → bit ≡ 2 ^ k → set < 2 ^ k → set + cond b bit 0 < 2 ^ (k + 1)
bit_few b set bit k is few = search (rules, arith, pow_more)

pub or_assoc : (a b c : ℕ) → bit_or (bit_or a b) c ≡ bit_or a (bit_or b c)
or_assoc =
    bin_ind (λ (a : ℕ). (b c : ℕ) → bit_or (bit_or a b) c ≡ bit_or a (bit_or b c)) (λ b c. refl)
    (λ a ih b c.
    let halves : bit_or (bit_or a b / 2) (c / 2) ≡ bit_or (a / 2) (bit_or b c / 2) =
    ap (λ x. bit_or x (c / 2)) (or_shr a b 1) ∙ ih (b / 2) (c / 2) ∙ sym (ap (bit_or (a / 2)) (or_shr b c 1)) in
    omega (arith, halves, or_step (bit_or a b) c, or_step a (bit_or b c), or_step a b, or_step b c))

pub or_again : (a b : ℕ) → bit_or (bit_or a b) b ≡ bit_or a b
or_again a b = or_assoc a b b ∙ ap (bit_or a) (or_self b)

-- what has all of a set has all that this one has
pub or_within : (a b c : ℕ) → bit_or a b ≡ a → bit_or b c ≡ b → bit_or a c ≡ a
or_within a b c first second = search (rules, arith, or_assoc)

-- and still does where both are taken together with one more
pub or_both : (a b c : ℕ) → bit_or a b ≡ a → bit_or (bit_or a c) (bit_or b c) ≡ bit_or a c
or_both a b c is = search (rules, arith, or_assoc, or_comm, or_again)

-- ## By digits

or_digit : (b c : Bool) (m n : ℕ) → cond (b || c) 1 0 + 2 * bit_or m n ≡ bit_or (cond b 1 0 + 2 * m) (cond c 1 0 + 2 * n)
or_digit b c m n = search (rules, arith, or_step)

pub number_or : {X : Type 0} (p q : X → Bool) (xs : List X) → number_of (λ x. p x || q x) xs ≡ bit_or (number_of p xs) (number_of q xs)
number_or p q [] = refl
number_or p q (x ∷ xs) = ap (λ n. cond (p x || q x) 1 0 + 2 * n) (number_or p q xs) ∙ or_digit (p x) (q x) (number_of p xs) (number_of q xs)

-- Tests that agree on a list.

pub any_agree : {X : Type 0} (P : X → Type 0) (p q : X → Bool) (xs : List X) → AllByRecursion P xs → ((x : X) → P x → p x ≡ q x) → list_any p xs ≡ list_any q xs
any_agree P p q [] all same = refl
any_agree P p q (x ∷ xs) all same = search (rules, arith, any_agree P p q xs all.1 same)

pub any_none : {X : Type 0} (P : X → Type 0) (p : X → Bool) (xs : List X) → AllByRecursion P xs → ((x : X) → P x → p x ≡ false) → list_any p xs ≡ false
any_none P p [] all none = refl
any_none P p (x ∷ xs) all none = search (rules, arith, any_none P p xs all.1 none)

pub any_push : {X : Type 0} (p : X → Bool) (xs : List X) (x : X) → list_any p (xs ++ x ∷ []) ≡ (list_any p xs || p x)
any_push p xs x = search (rules, arith, list_any-append)
