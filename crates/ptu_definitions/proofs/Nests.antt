-- Fronts and headers of the same bytes, by what these show.
use Rattle.std.proofs.Common.{◌≡◌, ◌⊎◌, ℕ, List, [], ◌∷◌, ◌++◌, Some, true, refl, sym, ap, ◌∙◌, append_assoc, append-nil, inl, inr, arith, rules}
use Rattle.ptu_definitions.specs.{TagList.{is_end, Item, AreInner, IsFront, IsHeader, GoesOn}, Headers.{seen_from, seen, seen_preamble}}
use Rattle.ptu_definitions.proofs.{AnswerLemmas.bytes_of-append, SeenLemmas.{seen-front, seen-header, seen_preamble-front, seen_preamble-header}}

-- Of two fronts of one list one goes on as the other.
nest : (xs ys a b : List Item) → xs ++ a ≡ ys ++ b → ((more : List Item) × (ys ≡ xs ++ more)) ⊎ ((more : List Item) × (xs ≡ ys ++ more) × (more ++ a ≡ b))
nest [] ys a b e = inl (ys, refl)
nest (x ∷ xs) [] a b e = inr (x ∷ xs, refl, e)
nest (x ∷ xs) (y ∷ ys) a b e =
    let same : x ≡ y = cc in
    let rest : xs ++ a ≡ ys ++ b = cc in
    elim (nest xs ys a b rest) [
      | inl h ↦ inl (h.0, ap (λ z. z ∷ ys) (sym same) ∙ ap (λ l. x ∷ l) h.1)
      | inr h ↦ inr (h.0, ap (λ z. z ∷ xs) same ∙ ap (λ l. y ∷ l) h.1, h.2)
    ]

goes_on : (start other_start : List ℕ) (items others more : List Item) (front other : List ℕ)
    → start ≡ other_start → others ≡ items ++ more → IsFront start items front → IsFront other_start others other
    → GoesOn items front others other
goes_on start other_start items others more front other s e h o = search (rules, arith, bytes_of-append, append_assoc)

pub fronts-nest : (bytes start other_start : List ℕ) (items other_items : List Item) (front other rest other_rest : List ℕ)
    → IsFront start items front → IsFront other_start other_items other
    → bytes ≡ front ++ rest → bytes ≡ other ++ other_rest
    → (start ≡ other_start) × (GoesOn items front other_items other ⊎ GoesOn other_items other items front)
fronts-nest bytes start other_start items others front other rest behind h o p q =
    let mine = seen-front start items front rest h in
    let theirs = seen-front other_start others other behind o in
    let first : seen_preamble bytes ≡ Some start = ap seen_preamble p ∙ seen_preamble-front start items front rest h in
    let second : seen_preamble bytes ≡ Some other_start = ap seen_preamble q ∙ seen_preamble-front other_start others other behind o in
    let same : start ≡ other_start = cc in
    let shown : items ++ seen_from mine.0 rest ≡ others ++ seen_from theirs.0 behind = sym (ap seen p ∙ mine.2) ∙ ap seen q ∙ theirs.2 in (
      same,
      elim (nest items others (seen_from mine.0 rest) (seen_from theirs.0 behind) shown) [
        | inl more ↦ inl (goes_on start other_start items others more.0 front other same more.1 h o)
        | inr more ↦ inr (goes_on other_start start others items more.0 other front (sym same) more.1 o h)
      ],
    )

pub AreInner-behind : (items more : List Item) → AreInner (items ++ more) → AreInner more
AreInner-behind [] more h = h
AreInner-behind (item ∷ items) more h = AreInner-behind items more h.2

-- items before a Header_End have it not among them
no_end : (inner items more tail : List Item) (last : Item) → AreInner items
    → is_end last.tag ≡ true → items ≡ inner ++ more → more ++ tail ≡ last ∷ [] → inner ≡ items ++ []
no_end inner items [] tail last i end e is = sym (append-nil items ∙ e ∙ append-nil inner)
no_end inner items (m ∷ more) tail last i end e is = search (rules, arith, AreInner-behind)

pub header-ends : (bytes start other_start : List ℕ) (inner items : List Item) (last : Item) (header front rest other_rest : List ℕ)
    → IsHeader start inner last header → IsFront other_start items front
    → bytes ≡ header ++ rest → bytes ≡ front ++ other_rest → (other_start ≡ start) × ((more : List Item) × (inner ≡ items ++ more))
header-ends bytes start other_start inner items last header front rest behind h o p q =
    let theirs = seen-front other_start items front behind o in
    let first : seen_preamble bytes ≡ Some start = ap seen_preamble p ∙ seen_preamble-header start inner last header rest h in
    let second : seen_preamble bytes ≡ Some other_start = ap seen_preamble q ∙ seen_preamble-front other_start items front behind o in
    let same : other_start ≡ start = cc in
    let shown : items ++ seen_from theirs.0 behind ≡ inner ++ last ∷ [] =
    sym (ap seen q ∙ theirs.2) ∙ ap seen p ∙ seen-header start inner last header rest h in (
      same,
      elim (nest items inner (seen_from theirs.0 behind) (last ∷ []) shown) [
        | inl more ↦ more
        | inr more ↦ ([], no_end inner items more.0 (seen_from theirs.0 behind) last o.inner h.end more.1 more.2)
      ],
    )
