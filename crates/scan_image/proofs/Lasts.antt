-- One more element, and what the last one that passes parts a list into.
use Rattle.std.proofs.Common.{◌≡◌, ◌∙◌, Bool, true, false, ◌||◌, cond, List, [], ◌∷◌, ◌++◌, refl, ap, Option, None, Some, filter, arith, rules}
use Rattle.std.{proofs.lemmas.List.{append-nil, Elements.filter-append, Folds.list_any-append}, specs.List.{list_any, last_or}}
use Rattle.scan_image.specs.Places.{last_that, until_last, behind_last, from_last}

list_any-one : {X : Type 0} (p : X → Bool) (y : X) (b : Bool) → p y ≡ b → list_any p (y ∷ []) ≡ b
list_any-one p y b is = search (rules, arith)

pub list_any-push : {X : Type 0} (p : X → Bool) (xs : List X) (y : X) (b : Bool) → p y ≡ b → list_any p (xs ++ y ∷ []) ≡ (list_any p xs || b)
list_any-push p xs y b is = list_any-append p xs (y ∷ []) ∙ ap (λ b. list_any p xs || b) (list_any-one p y b is)

or-true : (b : Bool) → (b || true) ≡ true
or-true b = search (rules, arith)

or-false : (b : Bool) → (b || false) ≡ b
or-false b = search (rules, arith)

pub any-passing : {X : Type 0} (p : X → Bool) (xs : List X) (y : X) → p y ≡ true → list_any p (xs ++ y ∷ []) ≡ true
any-passing p xs y is = list_any-push p xs y true is ∙ or-true (list_any p xs)

pub any-failing : {X : Type 0} (p : X → Bool) (xs : List X) (y : X) → p y ≡ false → list_any p (xs ++ y ∷ []) ≡ list_any p xs
any-failing p xs y is = list_any-push p xs y false is ∙ or-false (list_any p xs)

filter-push : {X : Type 0} (p : X → Bool) (xs : List X) (y : X) (b : Bool) → p y ≡ b → filter p (xs ++ y ∷ []) ≡ filter p xs ++ cond b (y ∷ []) []
filter-push p xs y b is = filter-append p xs (y ∷ []) ∙ ap (λ b. filter p xs ++ cond b (y ∷ []) []) is

pub last_or-push : {X : Type 0} (o : Option X) (xs : List X) (y : X) → last_or o (xs ++ y ∷ []) ≡ Some y
last_or-push o [] y = refl
last_or-push o (x ∷ xs) y = last_or-push (Some x) xs y

pub last-passing : {X : Type 0} (p : X → Bool) (xs : List X) (y : X) → p y ≡ true → last_that p (xs ++ y ∷ []) ≡ Some y
last-passing p xs y is = ap (last_or None) (filter-push p xs y true is) ∙ last_or-push None (filter p xs) y

pub last-failing : {X : Type 0} (p : X → Bool) (xs : List X) (y : X) → p y ≡ false → last_that p (xs ++ y ∷ []) ≡ last_that p xs
last-failing p xs y is = ap (last_or None) (filter-push p xs y false is ∙ append-nil (filter p xs))

pub until-passing : {X : Type 0} (p : X → Bool) (xs : List X) (y : X) → p y ≡ true → until_last p (xs ++ y ∷ []) ≡ xs ++ y ∷ []
until-passing p [] y is = ap (λ b. cond (b || false) (y ∷ []) []) is
until-passing p (x ∷ xs) y is = cc (any-passing p (x ∷ xs) y is, until-passing p xs y is)

pub until-failing : {X : Type 0} (p : X → Bool) (xs : List X) (y : X) → p y ≡ false → until_last p (xs ++ y ∷ []) ≡ until_last p xs
until-failing p [] y is = ap (λ b. cond (b || false) (y ∷ []) []) is
until-failing p (x ∷ xs) y is = cc (any-failing p (x ∷ xs) y is, until-failing p xs y is)

pub behind-passing : {X : Type 0} (p : X → Bool) (xs : List X) (y : X) → p y ≡ true → behind_last p (xs ++ y ∷ []) ≡ []
behind-passing p [] y is = ap (λ b. cond (b || false) [] (y ∷ [])) is
behind-passing p (x ∷ xs) y is = cc (any-passing p (x ∷ xs) y is, behind-passing p xs y is)

cons-cond : {X : Type 0} (b : Bool) (xs zs : List X) (y : X) → cond b (xs ++ y ∷ []) (zs ++ y ∷ []) ≡ cond b xs zs ++ y ∷ []
cons-cond b xs zs y = search (rules, arith)

pub behind-failing : {X : Type 0} (p : X → Bool) (xs : List X) (y : X) → p y ≡ false → behind_last p (xs ++ y ∷ []) ≡ behind_last p xs ++ y ∷ []
behind-failing p [] y is = ap (λ b. cond (b || false) [] (y ∷ [])) is
behind-failing p (x ∷ xs) y is = cc (any-failing p (x ∷ xs) y is, behind-failing p xs y is, cons-cond (list_any p (x ∷ xs)) (behind_last p xs) (x ∷ xs) y)

pub from-passing : {X : Type 0} (p : X → Bool) (xs : List X) (y : X) → p y ≡ true → from_last p (xs ++ y ∷ []) ≡ y ∷ []
from-passing p [] y is = ap (λ b. cond b (y ∷ []) []) is
from-passing p (x ∷ xs) y is = cc (any-passing p xs y is, from-passing p xs y is)

from-cases : {X : Type 0} (any here : Bool) (front xs : List X) (x y : X)
    → cond any (cond any (front ++ y ∷ []) []) (cond here (x ∷ (xs ++ y ∷ [])) []) ≡ cond (here || any) (cond any front (cond here (x ∷ xs) []) ++ y ∷ []) []
from-cases any here front xs x y = search (rules, arith)

pub from-failing : {X : Type 0} (p : X → Bool) (xs : List X) (y : X) → p y ≡ false
    → from_last p (xs ++ y ∷ []) ≡ cond (list_any p xs) (from_last p xs ++ y ∷ []) []
from-failing p [] y is = ap (λ b. cond b (y ∷ []) []) is
from-failing p (x ∷ xs) y is = cc (any-failing p xs y is, from-failing p xs y is, from-cases (list_any p xs) (p x) (from_last p xs) xs x y)
