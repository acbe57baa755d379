-- All bytes have no front, a longest front or a header.
use Rattle.std.proofs.Common.{◌≡◌, ◌⊎◌, ◌+◌, ◌≤◌, ℕ, List, [], ◌∷◌, ◌++◌, length, take, refl, sym, ap, ◌∙◌, append_assoc, append-nil, arith, length-append, inl}
use Rattle.{std.proofs.Common.{inr, codes, rules}, ptu_definitions.specs.TagList.{code_in, is_known, is_negative, body_size, Item, AreInner, bytes_of, IsFront}}
use Rattle.ptu_definitions.{specs.{Endings.HasHeader, Headers.{HasLongestFront, HasNoFront, IsLongestFront}}, proofs.Walks.{drop_front, tag_front}}
use Rattle.ptu_definitions.proofs.{Walks.{whole_length, magic_front, take_front}, Nests.{fronts-nest, AreInner-behind}, Sound.{Few, Other, Preamble, start_of}}
use Rattle.ptu_definitions.proofs.{Sound.{StartsWhole, Stuck, Part, Unknown, Negative, Cut, Reached, found_of, stops}, AnswerLemmas.ending-header}

-- no whole item stands where one is cut or bad
same_tag : (rest tag part : List ℕ) (h : StartsWhole rest) → rest ≡ tag ++ part → length tag ≡ 48 → h.item.tag ≡ tag
same_tag rest tag part h is size = cc (tag_front h.item.tag h.item.body h.behind h.is_item.size, take_front 48 tag part size)

none_whole : (rest : List ℕ) → Stuck rest → StartsWhole rest → ⊥
none_whole rest (Part few) h = absurd (omega (arith, ap length h.bytes_are, whole_length h.item.tag h.item.body h.behind h.is_item.size h.is_item.whole))
none_whole rest (Unknown tag part is size unknown) h =
    let known = h.is_item.known in let same = ap (λ t. is_known (code_in t)) (same_tag rest tag part h is size) in cc
none_whole rest (Negative tag part is size known negative) h =
    let positive = h.is_item.positive in let same = ap is_negative (same_tag rest tag part h is size) in cc
none_whole rest (Cut tag part is size known positive cut) h =
    let same = ap body_size (same_tag rest tag part h is size) in
    absurd (omega (
      arith,
      same,
      ap length is,
      length-append tag part,
      ap length h.bytes_are,
      whole_length h.item.tag h.item.body h.behind h.is_item.size h.is_item.whole,
    ))

-- where no whole item stands, no items do
no_more : (rest behind : List ℕ) (more : List Item) → (StartsWhole rest → ⊥) → AreInner more → rest ≡ bytes_of more ++ behind → more ≡ []
no_more rest behind [] none inner e = refl
no_more rest behind (item ∷ more) none inner e = search (rules, arith, append_assoc)

same_rest : (bytes front rest behind : List ℕ) → bytes ≡ front ++ rest → bytes ≡ front ++ behind → rest ≡ behind
same_rest bytes front rest behind p q = cc (drop_front (length front) front rest refl, drop_front (length front) front behind refl)

no_longer : (bytes start : List ℕ) (items : List Item) (front rest : List ℕ) → IsFront start items front → bytes ≡ front ++ rest → (StartsWhole rest → ⊥)
    → (other_start : List ℕ) (others : List Item) (other behind : List ℕ)
    → IsFront other_start others other → bytes ≡ other ++ behind → length other ≤ length front
no_longer bytes start items front rest h e none other_start others other behind o f =
    let nest = fronts-nest bytes start other_start items others front other rest behind h o e f in
    elim nest.1 [
      | inl on ↦
          let inner : AreInner (items ++ on.more) = rw on.items_are at o.inner in
          let same = same_rest bytes front rest (bytes_of on.more ++ behind) e
          (f ∙ ap (λ l. l ++ behind) on.bytes_are ∙ append_assoc front (bytes_of on.more) behind) in
          let nothing : on.more ≡ [] = no_more rest behind on.more none (AreInner-behind items on.more inner) same in
          let size : length other ≡ length front = ap length (on.bytes_are ∙ ap (λ m. front ++ bytes_of m) nothing ∙ append-nil front) in
          omega (arith, size)
      | inr on ↦
          let size : length front ≡ length other + length (bytes_of on.more) = ap length on.bytes_are ∙ length-append other (bytes_of on.more) in
          omega (arith, size)
    ]

-- a front begins with the magic and has 16 bytes
front_magic : (bytes start : List ℕ) (items : List Item) (front rest : List ℕ) → IsFront start items front
    → bytes ≡ front ++ rest → (16 ≤ length bytes) × (take 6 bytes ≡ codes "PQTTTR")
front_magic bytes start items front rest h e =
    let all : bytes ≡ start ++ (bytes_of items ++ rest) = e ∙ ap (λ l. l ++ rest) h.bytes ∙ append_assoc start (bytes_of items) rest in
    (omega (arith, ap length all, length-append start (bytes_of items ++ rest), h.preamble.size), ap (take 6) all ∙ magic_front start (bytes_of items ++ rest) h.preamble)

longest : (bytes : List ℕ) (r : Reached bytes) → IsLongestFront bytes r.start r.items r.front r.rest
longest bytes r =
    let s = stops bytes r in
    let bytes_end : (inner : List Item) (last : Item) → HasHeader bytes (inner ++ last ∷ []) → ⊥ =
    λ inner last h. s.no_header (inner ++ last ∷ []) (sym s.found ∙ ending-header bytes (inner ++ last ∷ []) h) in
    record {
      is_front = r.is_front;
      bytes_are = r.bytes_are;
      fronts = no_longer bytes r.start r.items r.front r.rest r.is_front r.bytes_are (none_whole r.rest r.stuck);
      headers = λ start inner last header rest h e. bytes_end inner last
          (record { start = start; inner = inner; last = last; header = header; rest = rest; is_header = h; items_are = refl; bytes_are = e });
    }

pub some-longest : (bytes : List ℕ) → HasNoFront bytes ⊎ (HasLongestFront bytes ⊎ ((items : List Item) × HasHeader bytes items))
some-longest bytes = elim (start_of bytes) [
  | Few short magic ↦ inl (λ start items front rest h e. absurd (omega (arith, short, (front_magic bytes start items front rest h e).0)))
  | Other o ↦ inl (λ start items front rest h e. o.differs ((front_magic bytes start items front rest h e).1))
  | Preamble p ↦ elim (found_of bytes p) [
    | inl r ↦ inr (inl (r.start, r.items, r.front, r.rest, longest bytes r))
    | inr h ↦ inr (inr h)
  ]
]
