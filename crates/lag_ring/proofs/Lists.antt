-- What holds of each of a list.
use Rattle.std.{proofs.Common.{rules, ◌≡◌, ℕ, zero, suc, ◌<◌, Bool, true, List, [], ◌∷◌, ◌++◌, length, get_or, map, arith}, specs.List.{filter, AllByRecursion}}

pub all_front : {X : Type 0} (P : X → Type 0) (xs ys : List X) → AllByRecursion P (xs ++ ys) → AllByRecursion P xs
all_front P [] ys all = tt
all_front P (x ∷ xs) ys all = (all.0, all_front P xs ys all.1)

pub all_back : {X : Type 0} (P : X → Type 0) (xs ys : List X) → AllByRecursion P (xs ++ ys) → AllByRecursion P ys
all_back P [] ys all = all
all_back P (x ∷ xs) ys all = all_back P xs ys all.1

pub all_join : {X : Type 0} (P : X → Type 0) (xs ys : List X) → AllByRecursion P xs → AllByRecursion P ys → AllByRecursion P (xs ++ ys)
all_join P [] ys front back = back
all_join P (x ∷ xs) ys front back = (front.0, all_join P xs ys front.1 back)

pub all_filter : {X : Type 0} (P : X → Type 0) (p : X → Bool) (xs : List X) → AllByRecursion P xs → AllByRecursion P (filter p xs)
all_filter P p [] all = tt
all_filter P p (x ∷ xs) all = search (rules, arith, all_filter P p xs all.1)

pub all_passed : {X : Type 0} (p : X → Bool) (xs : List X) → AllByRecursion (λ x. p x ≡ true) (filter p xs)
all_passed p [] = tt
all_passed p (x ∷ xs) = search (rules, arith, all_passed p xs)

pub all_map : {X Y : Type 0} (P : Y → Type 0) (f : X → Y) (xs : List X) → AllByRecursion (λ x. P (f x)) xs → AllByRecursion P (map f xs)
all_map P f [] all = tt
all_map P f (x ∷ xs) all = (all.0, all_map P f xs all.1)

pub all_both : {X : Type 0} (P Q R : X → Type 0) → ((x : X) → P x → Q x → R x) → (xs : List X) → AllByRecursion P xs → AllByRecursion Q xs → AllByRecursion R xs
all_both P Q R f [] p q = tt
all_both P Q R f (x ∷ xs) p q = (f x p.0 q.0, all_both P Q R f xs p.1 q.1)

-- where a fact holds of each at one bin, and there is one, it holds of the bin
pub of_some : {X : Type 0} (at : X → ℕ) (n : ℕ) (P : ℕ → Type 0) (xs : List X) → 0 < length xs
    → AllByRecursion (λ x. at x ≡ n) xs → AllByRecursion (λ x. P (at x)) xs → P n
of_some at n P [] some here all = absurd (omega arith)
of_some at n P (x ∷ xs) some here all = (rw here.0 at all.0)

-- what holds of each holds of the one at a place
pub each_at : {X : Type 0} (P : X → Type 0) (xs : List X) (i : ℕ) (none : X) → i < length xs → AllByRecursion P xs → P (get_or xs i none)
each_at P [] i none inside all = absurd (omega (arith, inside))
each_at P (x ∷ xs) zero none inside all = all.0
each_at P (x ∷ xs) (suc i) none inside all = each_at P xs i none (omega (arith, inside)) all.1
