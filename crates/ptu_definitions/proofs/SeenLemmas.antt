-- What the bytes taken show.
use Rattle.std.proofs.Common.{◌≡◌, ◌+◌, ◌-◌, ◌<◌, ◌≤◌, ℕ, zero, suc, List, [], ◌∷◌, ◌++◌, true, false, length, take, drop, refl, sym, ap, ◌∙◌, append_assoc}
use Rattle.std.proofs.{Common.{append-nil, arith, length-append, inl, inr, None, Some, nat_lt, codes, rules}, Math.Seq.{take-append_seam, take-append-add}}
use Rattle.std.{proofs.lemmas.{List.{take_all, take-append-le, length-take, length-drop}, Bool.cases_Bool, Grind.common_steps}, specs.Str.bytes_eq}
use Rattle.ptu_definitions.specs.TagList.{code_in, is_known, is_negative, body_size, is_end, Item, IsItem, AreInner, bytes_of, IsFront, IsHeader}
use Rattle.ptu_definitions.{specs.{Endings.IsOtherFile, Headers.{seen_from, seen, seen_preamble}}, proofs.Walks.{take_front, drop_front, not_less, is_less}}
use Rattle.ptu_definitions.proofs.{Walks.{body_front, tag_front, whole_length, same_bytes, magic_front, tag_long}, AnswerLemmas.other_bytes}

pub seen_from-short : (limit : ℕ) (bytes : List ℕ) → length bytes < 48 → seen_from limit bytes ≡ []
unfolding seen_from
seen_from-short limit bytes h = search (rules, arith, is_less)

pub seen_from-item : (limit : ℕ) (item : Item) (rest : List ℕ) → IsItem item → is_end item.tag ≡ false
    → seen_from (suc limit) ((item.tag ++ item.body) ++ rest) ≡ item ∷ seen_from limit rest
unfolding seen_from
seen_from-item limit item rest h inner = search (rules, arith, whole_length, not_less, drop_front, length-append, tag_front, body_front)

-- a tag and a part of its body, or all of it
pub seen_from-part : (limit : ℕ) (tag part : List ℕ) → length (tag ++ part) ≤ limit → length tag ≡ 48
    → is_known (code_in tag) ≡ true → is_negative tag ≡ false → length part ≤ body_size tag
    → seen_from limit (tag ++ part) ≡ record { tag = tag; body = part } ∷ []
unfolding seen_from
seen_from-part zero tag part enough size known positive fits = absurd (omega (arith, length-append tag part))
seen_from-part (suc limit) tag part enough size known positive fits =
    let all = tag ++ part in
    let body : take (body_size tag) (drop 48 all) ≡ part = rw (drop_front 48 tag part size) (take_all (body_size tag) part fits) in
    elim (cases_Bool (is_end tag)) [
      | inl last ↦ rw (tag_long tag part size, take_front 48 tag part size, known, positive, last, body) refl
      | inr inner ↦
          let none : length (drop (48 + body_size tag) all) < 48 = omega (arith, size, fits, length-append tag part, length-drop (48 + body_size tag) all) in
          rw (
            tag_long tag part size,
            take_front 48 tag part size,
            known,
            positive,
            inner,
            body,
            seen_from-short limit
                (drop (48 + body_size tag) all) none,
          ) refl
    ]

pub seen_from-items : (items : List Item) → AreInner items → (limit : ℕ) (rest : List ℕ) → length (bytes_of items ++ rest) ≤ limit
    → (left : ℕ) × (length rest ≤ left) × (seen_from limit (bytes_of items ++ rest) ≡ items ++ seen_from left rest)
seen_from-items [] inner limit rest fits = (limit, fits, refl)
seen_from-items (item ∷ items) inner zero rest fits = absurd (omega (arith, inner.0.size, length-append item.tag item.body, length-append (item.tag ++ item.body) (bytes_of items), length-append ((item.tag ++ item.body) ++ bytes_of items) rest))
seen_from-items (item ∷ items) inner (suc limit) rest fits =
    let own = item.tag ++ item.body in
    let behind = bytes_of items ++ rest in
    let fewer : length behind ≤ limit =
    omega (arith, inner.0.size, length-append item.tag item.body, length-append own (bytes_of items), length-append (own ++ bytes_of items) rest, length-append (bytes_of items) rest) in
    let next = seen_from-items items inner.2 limit rest fewer in
    (next.0, next.1, ap (seen_from (suc limit)) (append_assoc own (bytes_of items) rest) ∙ seen_from-item limit item behind inner.0 inner.1 ∙ ap (λ l. item ∷ l) next.2)

pub seen-front : (start : List ℕ) (items : List Item) (front rest : List ℕ) → IsFront start items front
    → (left : ℕ) × (length rest ≤ left) × (seen (front ++ rest) ≡ items ++ seen_from left rest)
unfolding seen
seen-front start items front rest h =
    let behind = bytes_of items ++ rest in
    let bytes : front ++ rest ≡ start ++ behind = ap (λ l. l ++ rest) h.bytes ∙ append_assoc start (bytes_of items) rest in
    let size : length (start ++ behind) ≡ 16 + length behind = omega (arith, length-append start behind, h.preamble.size) in
    let sixteen : nat_lt (length (start ++ behind)) 16 ≡ false = not_less (length (start ++ behind)) 16 (omega (arith, size)) in
    let magic : bytes_eq (take 6 (start ++ behind)) (codes "PQTTTR") ≡ true =
    same_bytes (take 6 (start ++ behind)) (codes "PQTTTR") (magic_front start behind h.preamble) in
    let shown = seen_from-items items h.inner (length (start ++ behind)) rest (omega (arith, size)) in
    (shown.0, shown.1, rw (bytes, magic, sixteen, drop_front 16 start behind h.preamble.size) shown.2)

pub seen-short : (bytes : List ℕ) → length bytes < 16 → seen bytes ≡ []
unfolding seen
seen-short bytes h = rw (is_less (length bytes) 16 h) refl

pub seen-tag : (start : List ℕ) (items : List Item) (front carried : List ℕ) → IsFront start items front → length carried < 48 → seen (front ++ carried) ≡ items
seen-tag start items front carried h short =
    let at = seen-front start items front carried h in
    at.2 ∙ ap (λ l. items ++ l) (seen_from-short at.0 carried short) ∙ append-nil items

pub seen-body : (start : List ℕ) (items : List Item) (front tag part : List ℕ) → IsFront start items front
    → length tag ≡ 48 → is_known (code_in tag) ≡ true → is_negative tag ≡ false
    → length part ≤ body_size tag → seen (front ++ (tag ++ part)) ≡ items ++ record { tag = tag; body = part } ∷ []
seen-body start items front tag part h size known positive fits =
    let at = seen-front start items front (tag ++ part) h in
    at.2 ∙ ap (λ l. items ++ l) (seen_from-part at.0 tag part at.1 size known positive fits)

-- the bytes before the last part of a tag
pub seen-before : (start : List ℕ) (items : List Item) (front tag before p : List ℕ) → IsFront start items front
    → length tag ≡ 48 → front ++ tag ≡ before ++ p → 0 < length p → length p ≤ 48 → seen before ≡ items
seen-before start items front tag before p h size e some fits =
    let m = 48 - length p in
    let sum : length front + length tag ≡ length before + length p = sym (length-append front tag) ∙ ap length e ∙ length-append before p in
    let place : length before ≡ length front + m = omega (arith, sum, size, fits) in
    let same : before ≡ front ++ take m tag =
    sym (take-append_seam before p) ∙ ap (take (length before)) (sym e) ∙ ap (λ n. take n (front ++ tag)) place ∙ take-append-add front tag m in
    ap seen same ∙ seen-tag start items front (take m tag) h (omega (arith, length-take m tag, size, some, fits))

-- a tag of no type, or of a negative length
pub seen_from-unknown : (limit : ℕ) (tag rest : List ℕ) → length tag ≡ 48 → is_known (code_in tag) ≡ false → seen_from limit (tag ++ rest) ≡ []
unfolding seen_from
seen_from-unknown zero tag rest size unknown = refl
seen_from-unknown (suc limit) tag rest size unknown = rw (tag_long tag rest size, take_front 48 tag rest size, unknown) refl

pub seen_from-negative : (limit : ℕ) (tag rest : List ℕ) → length tag ≡ 48
    → is_known (code_in tag) ≡ true → is_negative tag ≡ true → seen_from limit (tag ++ rest) ≡ []
unfolding seen_from
seen_from-negative zero tag rest size known negative = refl
seen_from-negative (suc limit) tag rest size known negative = rw (tag_long tag rest size, take_front 48 tag rest size, known, negative) refl

seen_from-last : (limit : ℕ) (item : Item) (rest : List ℕ) → length ((item.tag ++ item.body) ++ rest) ≤ limit
    → IsItem item → is_end item.tag ≡ true → seen_from limit ((item.tag ++ item.body) ++ rest) ≡ item ∷ []
unfolding seen_from
seen_from-last zero item rest fits h last = absurd (omega (arith, whole_length item.tag item.body rest h.size h.whole))
seen_from-last (suc limit) item rest fits h last = search (rules, arith, not_less, whole_length, tag_front, body_front)

pub seen-unknown : (start : List ℕ) (items : List Item) (front tag rest : List ℕ) → IsFront start items front
    → length tag ≡ 48 → is_known (code_in tag) ≡ false → seen (front ++ (tag ++ rest)) ≡ items
seen-unknown start items front tag rest h size unknown =
    let at = seen-front start items front (tag ++ rest) h in
    at.2 ∙ ap (λ l. items ++ l) (seen_from-unknown at.0 tag rest size unknown) ∙ append-nil items

pub seen-negative : (start : List ℕ) (items : List Item) (front tag rest : List ℕ)
    → IsFront start items front → length tag ≡ 48 → is_known (code_in tag) ≡ true → is_negative tag ≡ true
    → seen (front ++ (tag ++ rest)) ≡ items
seen-negative start items front tag rest h size known negative =
    let at = seen-front start items front (tag ++ rest) h in
    at.2 ∙ ap (λ l. items ++ l) (seen_from-negative at.0 tag rest size known negative) ∙ append-nil items

-- a header and what stands after it, as a front and what stands after that
pub header_bytes : (start : List ℕ) (inner : List Item) (last : Item) (header rest : List ℕ)
    → IsHeader start inner last header → header ++ rest ≡ (start ++ bytes_of inner) ++ ((last.tag ++ last.body) ++ rest)
header_bytes start inner last header rest h = ap (λ l. l ++ rest) h.bytes ∙ append_assoc (start ++ bytes_of inner) (last.tag ++ last.body) rest

pub seen-header : (start : List ℕ) (inner : List Item) (last : Item) (header rest : List ℕ)
    → IsHeader start inner last header → seen (header ++ rest) ≡ inner ++ last ∷ []
seen-header start inner last header rest h =
    let at = seen-front start inner (start ++ bytes_of inner) ((last.tag ++ last.body) ++ rest) h.front in
    ap seen (header_bytes start inner last header rest h) ∙ at.2 ∙ ap (λ l. inner ++ l) (seen_from-last at.0 last rest at.1 h.item h.end)

-- bytes of another file
pub seen-other : (bytes : List ℕ) → IsOtherFile bytes → seen bytes ≡ []
unfolding seen
seen-other bytes h = grind (arith, common_steps, cases_Bool, other_bytes)

pub seen_preamble-other : (bytes : List ℕ) → IsOtherFile bytes → seen_preamble bytes ≡ None
unfolding seen_preamble
seen_preamble-other bytes h = grind (arith, common_steps, cases_Bool, other_bytes)

-- the preamble
pub seen_preamble-short : (bytes : List ℕ) → length bytes < 16 → seen_preamble bytes ≡ None
unfolding seen_preamble
seen_preamble-short bytes h = rw (is_less (length bytes) 16 h) refl

pub seen_preamble-front : (start : List ℕ) (items : List Item) (front rest : List ℕ) → IsFront start items front → seen_preamble (front ++ rest) ≡ Some start
unfolding seen_preamble
seen_preamble-front start items front rest h =
    let behind = bytes_of items ++ rest in
    let bytes : front ++ rest ≡ start ++ behind = ap (λ l. l ++ rest) h.bytes ∙ append_assoc start (bytes_of items) rest in
    let sixteen : nat_lt (length (start ++ behind)) 16 ≡ false =
    not_less (length (start ++ behind)) 16 (omega (arith, length-append start behind, h.preamble.size)) in
    let magic : bytes_eq (take 6 (start ++ behind)) (codes "PQTTTR") ≡ true =
    same_bytes (take 6 (start ++ behind)) (codes "PQTTTR") (magic_front start behind h.preamble) in
    rw (bytes, sixteen, magic, take_front 16 start behind h.preamble.size) refl

pub seen_preamble-header : (start : List ℕ) (inner : List Item) (last : Item) (header rest : List ℕ)
    → IsHeader start inner last header → seen_preamble (header ++ rest) ≡ Some start
seen_preamble-header start inner last header rest h = grind (arith, common_steps, header_bytes, seen_preamble-front)

-- A whole preamble stays.
pub seen_preamble-append : (bytes more : List ℕ) → 16 ≤ length bytes → seen_preamble (bytes ++ more) ≡ seen_preamble bytes
unfolding seen_preamble
seen_preamble-append bytes more long = search (rules, arith, length-append, not_less, take-append-le)
