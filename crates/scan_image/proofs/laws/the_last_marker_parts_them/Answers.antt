use Rattle.std.proofs.Common.{◌≡◌, ◌∙◌, Bool, true, false, cond, List, [], ◌∷◌, ◌++◌, refl, ap, sym, subst, append_assoc, None, option_to_list, arith, rules}
use Rattle.{std.{proofs.lemmas.List.append-nil, specs.List.{list_any, last_or}}, scan_image.specs.Places.{last_that, until_last, behind_last, from_last}}
use Rattle.scan_image.proofs.Lasts.{any-passing, any-failing, last_or-push, last-passing, last-failing, until-passing, until-failing, behind-passing}
use Rattle.scan_image.proofs.Lasts.{behind-failing, from-passing, from-failing}
use Rattle.scan_image.proofs.laws.the_last_marker_parts_them.Goals as goal

-- the last element that passes parts a list

-- what the parts of a list are
record Parts {X : Type 0} (p : X → Bool) (xs : List X) : Type 0 where
  whole : until_last p xs ++ behind_last p xs ≡ xs
  ends : last_or None (until_last p xs) ≡ last_that p xs
  behind : list_any p (behind_last p xs) ≡ false
  from : from_last p xs ≡ cond (list_any p xs) (option_to_list (last_that p xs) ++ behind_last p xs) []

pushed : {X : Type 0} (any : Bool) (from front behind : List X) (y : X) → from ≡ cond any (front ++ behind) []
    → cond any (from ++ y ∷ []) [] ≡ cond any (front ++ (behind ++ y ∷ [])) []
pushed any from front behind y is = search (rules, arith, append_assoc)

parts-push : {X : Type 0} (p : X → Bool) (xs : List X) (y : X) (passes : Bool) → p y ≡ passes → Parts p xs → Parts p (xs ++ y ∷ [])
parts-push p xs y true is parts =
    let behind = behind-passing p xs y is in
    let last = last-passing p xs y is in
    record {
      whole = ap (λ front. front ++ behind_last p (xs ++ y ∷ [])) (until-passing p xs y is)
          ∙ (ap (λ rest. (xs ++ y ∷ []) ++ rest) behind ∙ append-nil (xs ++ y ∷ []));
      ends = ap (last_or None) (until-passing p xs y is) ∙ (last_or-push None xs y ∙ sym last);
      behind = ap (list_any p) behind;
      from = from-passing p xs y is ∙ sym (ap (λ any. cond any (option_to_list (last_that p (xs ++ y ∷ [])) ++ behind_last p (xs ++ y ∷ [])) []) (any-passing p xs y is) ∙ (ap (λ last. option_to_list last ++ behind_last p (xs ++ y ∷ [])) last ∙ ap (λ rest. y ∷ rest) behind));
    }
parts-push p xs y false is parts = search (rules, arith, behind-failing, last-failing, until-failing, append_assoc, any-failing, from-failing, pushed)

by-pushes : {X : Type 0} (p : X → Bool) (front rest : List X) → Parts p front → Parts p (front ++ rest)
by-pushes p front [] so_far = subst (Parts p) (sym (append-nil front)) so_far
by-pushes p front (x ∷ rest) so_far =
    subst (Parts p) (append_assoc front (x ∷ []) rest) (by-pushes p (front ++ x ∷ []) rest (parts-push p front x (p x) refl so_far))

parts-of : {X : Type 0} (p : X → Bool) (xs : List X) → Parts p xs
parts-of p xs = by-pushes p [] xs (record { whole = refl; ends = refl; behind = refl; from = refl })

pub returns : goal.returns
returns c = record {
  parts = λ p ms. (parts-of p ms).whole;
  ends = λ p ms. (parts-of p ms).ends;
  behind = λ p ms. (parts-of p ms).behind;
  from = λ p ms. (parts-of p ms).from;
}
