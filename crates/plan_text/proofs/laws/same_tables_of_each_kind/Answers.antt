use Rattle.std.{proofs.Common.{◌≡◌, refl, sym, ap, ℕ, ◌+◌, ◌≤◌, List, [], ◌∷◌, ◌++◌, length, arith}, specs.List.{AllByRecursion, flat_map}}
use Rattle.{tally_base.specs.Settings.PartSettings, plan_text.specs.{declared.plan.Plan.Plan, Kinds.part_lists, ReadPlan.HaveSameTables}}
use Rattle.plan_text.proofs.ByKind.{kind_at, AreAt, AreByKinds, by_kinds}
use Rattle.plan_text.proofs.laws.same_tables_of_each_kind.Goals as goal

-- equal parts are equal lists of each kind

-- each part is of the kind at this place or of a later one
abbrev AreFrom : ℕ → List PartSettings → Type 0
AreFrom n = AllByRecursion (λ part. n ≤ kind_at part)

abbrev joined : List (List PartSettings) → List PartSettings
joined lists = flat_map (λ list. list) lists

from_earlier : (n : ℕ) (parts : List PartSettings) → AreFrom (n + 1) parts → AreFrom n parts
from_earlier n [] are = tt
from_earlier n (part ∷ parts) are = (omega (arith, are.0), from_earlier n parts are.1)

from_first : (n : ℕ) (first rest : List PartSettings) → AreAt n first → AreFrom (n + 1) rest → AreFrom n (first ++ rest)
from_first n [] rest at' are = from_earlier n rest are
from_first n (part ∷ first) rest at' are = (omega (arith, at'.0), from_first n first rest at'.1 are)

from_kinds : (n : ℕ) (lists : List (List PartSettings)) → AreByKinds n lists → AreFrom n (joined lists)
from_kinds n [] are = tt
from_kinds n (list ∷ lists) are = from_first n list (joined lists) are.0 (from_kinds (n + 1) lists are.1)

-- no list of later kinds begins with a part of this kind
not_later : (n : ℕ) (part : PartSettings) (parts rest : List PartSettings) → kind_at part ≡ n → AreFrom (n + 1) rest → rest ≡ part ∷ parts → ⊥
not_later n part parts rest is are same =
    let there : AreFrom (n + 1) (part ∷ parts) = (rw same at are) in
    omega (arith, is, there.0)

abbrev first_or : PartSettings → List PartSettings → PartSettings
first_or other [] = other
first_or other (part ∷ parts) = part

abbrev rest_of : List PartSettings → List PartSettings
rest_of [] = []
rest_of (part ∷ parts) = parts

-- the list of a kind before those of later kinds
first_same : (n : ℕ) (xs ys us vs : List PartSettings) → AreAt n xs → AreAt n ys
    → AreFrom (n + 1) us → AreFrom (n + 1) vs → xs ++ us ≡ ys ++ vs → (xs ≡ ys) × (us ≡ vs)
first_same n [] [] us vs x_at y_at u_from v_from same = (refl, same)
first_same n [] (y ∷ ys) us vs x_at y_at u_from v_from same = absurd (not_later n y (ys ++ vs) us y_at.0 u_from same)
first_same n (x ∷ xs) [] us vs x_at y_at u_from v_from same = absurd (not_later n x (xs ++ us) vs x_at.0 v_from (sym same))
first_same n (x ∷ xs) (y ∷ ys) us vs x_at y_at u_from v_from same =
    let (here, later) = first_same n xs ys us vs x_at.1 y_at.1 u_from v_from (ap rest_of same) in
    let first : x ≡ y = ap (first_or x) same in
    (rw (first, here) refl, later)

lists_same : (n : ℕ) (one other : List (List PartSettings)) → AreByKinds n one
    → AreByKinds n other → length one ≡ length other → joined one ≡ joined other → one ≡ other
lists_same n [] [] a b long same = refl
lists_same n [] (ys ∷ other) a b long same = absurd (omega (arith, long))
lists_same n (xs ∷ one) [] a b long same = absurd (omega (arith, long))
lists_same n (xs ∷ one) (ys ∷ other) a b long same =
    let (here, later) = first_same n xs ys (joined one) (joined other) a.0 b.0 (from_kinds (n + 1) one a.1) (from_kinds (n + 1) other b.1) same in
    let rest : one ≡ other = lists_same (n + 1) one other a.1 b.1 (omega (arith, long)) later in
    rw (here, rest) refl

same_tables : (one other : Plan) → HaveSameTables one other
same_tables one other = lists_same 0 (part_lists one) (part_lists other) (by_kinds one) (by_kinds other) refl

pub returns : goal.returns
returns c = same_tables
