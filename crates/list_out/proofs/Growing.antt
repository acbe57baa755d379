-- The text of a header grows with its bytes.
use Rattle.std.proofs.Common.{◌≡◌, ◌+◌, ◌-◌, ◌<◌, ◌≤◌, ℕ, zero, suc, List, [], ◌∷◌, ◌++◌, true, false, length, take, drop, refl, sym, ap, ◌∙◌, subst}
use Rattle.std.proofs.Common.{append_assoc, append-nil, take-append-drop, arith, length-append, inl, inr, None, Some, nat_lt, codes, not, ◌||◌, ◌⊎◌}
use Rattle.std.proofs.{Common.{if◌then◌else◌, rules}, lemmas.{Bool.{cases_lt, cases_Bool}, List.{length-take, length-drop, take-append-le, drop-append-le}}}
use Rattle.std.{proofs.{lemmas.List.take_all, Math.Seq.{take-append-add, drop-append-add}}, specs.{declared.option.Option.Option, Str.bytes_eq, List.flat_map}}
use Rattle.ptu_header.specs.declared.kind.TagKind.{TagKind, TheVariants.{Empty8, Bool8, Int8, BitSet64, Color8, Float8, TDateTime, Float8Array, AnsiString}}
use Rattle.{ptu_header.specs.declared.kind.TagKind.TheVariants.{WideString, BinaryBlob}, ptu_definitions.specs.TagList.{code_in, is_known, is_negative}}
use Rattle.ptu_definitions.{specs.{TagList.{body_size, is_end, Item}, Headers.{seen_from, seen, seen_preamble}}, proofs.Walks.{take_front, drop_front}}
use Rattle.ptu_definitions.proofs.{Walks.{not_less, is_less}, SeenLemmas.{seen_from-short, seen_from-unknown, seen_from-negative}}
use Rattle.list_out.specs.{HeaderText.{body_text, head_text, head_in, kind_with, item_text, end_text, preamble_text, shown_text}, Lines.has_no_nul}
use Rattle.list_out.proofs.Bodies.{body_text-digits, body_text-passed, body_text-ended}

-- a text that begins with another
abbrev pub Grown : List ℕ → List ℕ → Type 0
Grown old new = (more : List ℕ) × (new ≡ old ++ more)

pub Grown-same : (text : List ℕ) → Grown text text
Grown-same text = ([], sym (append-nil text))

pub Grown-behind : (front old new : List ℕ) → Grown old new → Grown (front ++ old) (front ++ new)
Grown-behind front old new h = (h.0, ap (λ l. front ++ l) h.1 ∙ sym (append_assoc front old h.0))

pub Grown-before : (old new behind : List ℕ) → Grown old new → Grown old (new ++ behind)
Grown-before old new behind h = (h.0 ++ behind, ap (λ l. l ++ behind) h.1 ∙ append_assoc old h.0 behind)

pub body_text-grows : (kind : TagKind) (part extra : List ℕ) → Grown (body_text kind part) (body_text kind (part ++ extra))
body_text-grows AnsiString part extra = elim (cases_Bool (has_no_nul part)) [
  | inl passed ↦ (_, body_text-passed part extra passed)
  | inr ended ↦ ([], body_text-ended part extra ended ∙ sym (append-nil (body_text AnsiString part)))
]
body_text-grows Empty8 part extra = (_, body_text-digits Empty8 part extra (λ e. cc))
body_text-grows Bool8 part extra = (_, body_text-digits Bool8 part extra (λ e. cc))
body_text-grows Int8 part extra = (_, body_text-digits Int8 part extra (λ e. cc))
body_text-grows BitSet64 part extra = (_, body_text-digits BitSet64 part extra (λ e. cc))
body_text-grows Color8 part extra = (_, body_text-digits Color8 part extra (λ e. cc))
body_text-grows Float8 part extra = (_, body_text-digits Float8 part extra (λ e. cc))
body_text-grows TDateTime part extra = (_, body_text-digits TDateTime part extra (λ e. cc))
body_text-grows Float8Array part extra = (_, body_text-digits Float8Array part extra (λ e. cc))
body_text-grows WideString part extra = (_, body_text-digits WideString part extra (λ e. cc))
body_text-grows BinaryBlob part extra = (_, body_text-digits BinaryBlob part extra (λ e. cc))

abbrev pub item_of : List ℕ → List ℕ → Item
item_of tag body = record { tag = tag; body = body }

-- the text of an item that isn't whole
pub item_text-cut : (tag part : List ℕ) → length part < body_size tag
    → item_text (item_of tag part) ≡ head_text (head_in tag) (kind_with (code_in tag)) ++ body_text (kind_with (code_in tag)) part
unfolding item_text
item_text-cut tag part short = search (rules, arith, append-nil)

pub item_text-grows : (tag part extra : List ℕ) → length part < body_size tag → Grown (item_text (item_of tag part)) (item_text (item_of tag (part ++ extra)))
unfolding item_text
item_text-grows tag part extra short =
    let kind = kind_with (code_in tag) in
    let head = head_text (head_in tag) kind in
    let grown : Grown (head ++ body_text kind part) ((head ++ body_text kind (part ++ extra)) ++ end_text (item_of tag (part ++ extra))) =
    Grown-before (head ++ body_text kind part) (head ++ body_text kind (part ++ extra)) (end_text (item_of tag (part ++ extra))) (Grown-behind head (body_text kind part) (body_text kind (part ++ extra)) (body_text-grows kind part extra)) in
    subst (λ (l : List ℕ). Grown l (item_text (item_of tag (part ++ extra)))) (sym (item_text-cut tag part short)) grown

drop_behind : (n k : ℕ) (xs ys : List ℕ) → length xs ≡ n → drop (n + k) (xs ++ ys) ≡ drop k ys
drop_behind n k xs ys e = subst (λ j. drop (j + k) (xs ++ ys) ≡ drop k ys) e (drop-append-add xs ys k)

-- what the bytes after a tag show
abbrev pub seen_behind : ℕ → List ℕ → List ℕ → List Item
seen_behind limit tag rest = if is_end tag then [] else seen_from limit (drop (body_size tag) rest)

-- a good tag shows its item, or as much of it as is there
pub seen_from-good : (limit : ℕ) (tag rest : List ℕ) → length tag ≡ 48 → is_known (code_in tag) ≡ true → is_negative tag ≡ false
    → seen_from (suc limit) (tag ++ rest) ≡ item_of tag (take (body_size tag) rest) ∷ seen_behind limit tag rest
unfolding seen_from
seen_from-good limit tag rest size known positive =
    let long : nat_lt (length (tag ++ rest)) 48 ≡ false = not_less (length (tag ++ rest)) 48 (omega (arith, length-append tag rest)) in
    rw (long, take_front 48 tag rest size, known, positive, drop_front 48 tag rest size, drop_behind 48 (body_size tag) tag rest size) refl

abbrev pub items_text : List Item → List ℕ
items_text items = flat_map item_text items

Grown-at : (a b c d : List ℕ) → a ≡ b → c ≡ d → Grown b d → Grown a c
Grown-at a b c d p q h = (h.0, q ∙ h.1 ∙ ap (λ l. l ++ h.0) (sym p))

Grown-none : (a c : List ℕ) → a ≡ [] → Grown a c
Grown-none a c p = (c, ap (λ l. l ++ c) (sym p))

-- a tag whose body isn't whole
grows-cut : (n m : ℕ) (tag rest b : List ℕ) → length tag ≡ 48 → is_known (code_in tag) ≡ true → is_negative tag ≡ false → length rest < body_size tag
    → Grown (items_text (seen_from (suc n) (tag ++ rest))) (items_text (seen_from (suc m) (tag ++ (rest ++ b))))
grows-cut n m tag rest b size known positive cut =
    let part : take (body_size tag) rest ≡ rest = take_all (body_size tag) rest (omega (arith, cut)) in
    let none : seen_behind n tag rest ≡ [] = elim (cases_Bool (is_end tag)) [
      | inl last ↦ rw last refl
      | inr inner ↦ rw inner (seen_from-short n (drop (body_size tag) rest) (omega (arith, cut, length-drop (body_size tag) rest)))
    ] in
    let extra = take (body_size tag - length rest) b in
    let counts : body_size tag ≡ length rest + (body_size tag - length rest) = omega (arith, cut) in
    let longer : take (body_size tag) (rest ++ b) ≡ rest ++ extra =
    ap (λ k. take k (rest ++ b)) counts ∙ take-append-add rest b (body_size tag - length rest) in
    let before : items_text (seen_from (suc n) (tag ++ rest)) ≡ item_text (item_of tag rest) =
    ap items_text (seen_from-good n tag rest size known positive) ∙ ap (λ l. item_text (item_of tag l) ++ items_text (seen_behind n tag rest)) part
    ∙ ap (λ l. item_text (item_of tag rest) ++ items_text l) none ∙ append-nil (item_text (item_of tag rest)) in
    let after : items_text (seen_from (suc m) (tag ++ (rest ++ b))) ≡ item_text (item_of tag (rest ++ extra)) ++ items_text (seen_behind m tag (rest ++ b)) =
    ap items_text (seen_from-good m tag (rest ++ b) size known positive)
    ∙ ap (λ l. item_text (item_of tag l) ++ items_text (seen_behind m tag (rest ++ b))) longer in
    Grown-at _ _ _ _ before after (Grown-before _ _ _ (item_text-grows tag rest extra cut))

abbrev Hypothesis : ℕ → ℕ → Type 0
Hypothesis n m = (a b : List ℕ) → length a ≤ n → length (a ++ b) ≤ m → Grown (items_text (seen_from n a)) (items_text (seen_from m (a ++ b)))

-- a tag whose body is whole
grows-whole : (n m : ℕ) (tag rest b : List ℕ) → Hypothesis n m → length tag ≡ 48
    → is_known (code_in tag) ≡ true → is_negative tag ≡ false → body_size tag ≤ length rest → length (tag ++ rest) ≤ suc n → length (tag ++ (rest ++ b)) ≤ suc m
    → Grown (items_text (seen_from (suc n) (tag ++ rest))) (items_text (seen_from (suc m) (tag ++ (rest ++ b))))
grows-whole n m tag rest b before size known positive whole fits fits_more =
    let body = take (body_size tag) rest in
    let same : take (body_size tag) (rest ++ b) ≡ body = take-append-le (body_size tag) rest b whole in
    let left = drop (body_size tag) rest in
    let behind : drop (body_size tag) (rest ++ b) ≡ left ++ b = drop-append-le (body_size tag) rest b whole in
    let next : Grown (items_text (seen_behind n tag rest)) (items_text (seen_behind m tag (rest ++ b))) = elim (cases_Bool (is_end tag)) [
      | inl last ↦ rw last (Grown-same [])
      | inr inner ↦ rw (inner, behind) (before left b (omega (arith, size, fits, length-append tag rest, length-drop (body_size tag) rest))
          (omega (arith, size, fits_more, length-append tag (rest ++ b), length-append rest b, length-append left b, length-drop (body_size tag) rest)))
    ] in
    Grown-at _ _ _ _ (ap items_text (seen_from-good n tag rest size known positive))
    (ap items_text (seen_from-good m tag (rest ++ b) size known positive)
    ∙ ap (λ l. item_text (item_of tag l) ++ items_text (seen_behind m tag (rest ++ b))) same)
    (Grown-behind (item_text (item_of tag body)) _ _ next)

grows-tag : (n m : ℕ) (tag rest b : List ℕ) → Hypothesis n m → length tag ≡ 48 → length (tag ++ rest) ≤ suc n → length (tag ++ (rest ++ b)) ≤ suc m
    → Grown (items_text (seen_from (suc n) (tag ++ rest))) (items_text (seen_from (suc m) (tag ++ (rest ++ b))))
grows-tag n m tag rest b before size fits fits_more = elim (cases_Bool (is_known (code_in tag))) [
  | inr unknown ↦ Grown-none _ _ (ap items_text (seen_from-unknown (suc n) tag rest size unknown))
  | inl known ↦ elim (cases_Bool (is_negative tag)) [
    | inl negative ↦ Grown-none _ _ (ap items_text (seen_from-negative (suc n) tag rest size known negative))
    | inr positive ↦ elim (cases_lt (length rest) (body_size tag)) [
      | inl cut ↦ grows-cut n m tag rest b size known positive cut
      | inr whole ↦ grows-whole n m tag rest b before size known positive whole fits fits_more
    ]
  ]
]

pub seen_from-grows : (n m : ℕ) (a b : List ℕ) → length a ≤ n → length (a ++ b) ≤ m → Grown (items_text (seen_from n a)) (items_text (seen_from m (a ++ b)))
seen_from-grows zero m a b fits fits_more = Grown-none _ _ (ap items_text (seen_from-short zero a (omega (arith, fits))))
seen_from-grows (suc n) zero a b fits fits_more = Grown-none _ _ (ap items_text (seen_from-short (suc n) a (omega (arith, fits_more, length-append a b))))
seen_from-grows (suc n) (suc m) a b fits fits_more = elim (cases_lt (length a) 48) [
  | inl short ↦ Grown-none _ _ (ap items_text (seen_from-short (suc n) a short))
  | inr long ↦
      let tag = take 48 a in
      let rest = drop 48 a in
      let split : tag ++ rest ≡ a = take-append-drop 48 a in
      let all : tag ++ (rest ++ b) ≡ a ++ b = sym (append_assoc tag rest b) ∙ ap (λ l. l ++ b) split in
      let size : length tag ≡ 48 = omega (arith, length-take 48 a, long) in
      Grown-at _ _ _ _ (ap (λ l. items_text (seen_from (suc n) l)) (sym split)) (ap (λ l. items_text (seen_from (suc m) l)) (sym all))
      (grows-tag n m tag rest b (seen_from-grows n m) size (omega (arith, fits, ap length split)) (omega (arith, fits_more, ap length all)))
]

-- a preamble that is seen stays
seen_preamble-some : (a b : List ℕ) → (seen_preamble a ≡ None) ⊎ ((16 ≤ length a) × (seen_preamble (a ++ b) ≡ seen_preamble a))
unfolding seen_preamble
seen_preamble-some a b = elim (cases_lt (length a) 16) [
  | inl short ↦ inl (rw (is_less (length a) 16 short) refl)
  | inr long ↦
      let now : nat_lt (length a) 16 ≡ false = not_less (length a) 16 long in
      let more : nat_lt (length (a ++ b)) 16 ≡ false = not_less (length (a ++ b)) 16 (omega (arith, long, length-append a b)) in
      inr (long, rw (now, more, take-append-le 6 a b (omega (arith, long)), take-append-le 16 a b long) refl)
]

-- without a preamble no item is seen
pub seen-none : (a : List ℕ) → seen_preamble a ≡ None → seen a ≡ []
unfolding seen seen_preamble
seen-none a none = elim (cases_Bool (nat_lt (length a) 16 || not (bytes_eq (take 6 a) (codes "PQTTTR")))) [
  | inl is ↦ rw is refl
  | inr isnt ↦ let some : Some (take 16 a) ≡ None = sym (rw isnt refl) ∙ none in cc
]

seen-some : (a : List ℕ) (preamble : List ℕ) → seen_preamble a ≡ Some preamble → seen a ≡ seen_from (length a) (drop 16 a)
unfolding seen seen_preamble
seen-some a preamble some = elim (cases_Bool (nat_lt (length a) 16 || not (bytes_eq (take 6 a) (codes "PQTTTR")))) [
  | inr isnt ↦ rw isnt refl
  | inl is ↦ let none : None ≡ Some preamble = sym (rw is refl) ∙ some in cc
]

pub shown_text-none : (a : List ℕ) → seen_preamble a ≡ None → shown_text a ≡ []
unfolding shown_text
shown_text-none a none = rw (none, seen-none a none) refl

grows-begun : (a b preamble : List ℕ) → 16 ≤ length a → seen_preamble a ≡ Some preamble
    → seen_preamble (a ++ b) ≡ Some preamble → Grown (shown_text a) (shown_text (a ++ b))
unfolding shown_text
grows-begun a b preamble long before after =
    let behind : drop 16 (a ++ b) ≡ drop 16 a ++ b = drop-append-le 16 a b long in
    rw (before, after, seen-some a preamble before, seen-some (a ++ b) preamble after, behind)
    (Grown-behind (preamble_text preamble) _ _ (seen_from-grows (length a) (length (a ++ b)) (drop 16 a) b
    (omega (arith, length-drop 16 a)) (omega (arith, length-append (drop 16 a) b, length-append a b, length-drop 16 a))))

-- whatever comes after the bytes, their text is the first part of the text
pub shown_text-grows : (a b : List ℕ) → Grown (shown_text a) (shown_text (a ++ b))
shown_text-grows a b = elim (seen_preamble-some a b) [
  | inl none ↦ Grown-none _ _ (shown_text-none a none)
  | inr same ↦ by_preamble a b same.0 (seen_preamble a) refl same.1
]
  where
    by_preamble : (a b : List ℕ) → 16 ≤ length a → (preamble : Option (List ℕ)) → seen_preamble a ≡ preamble
        → seen_preamble (a ++ b) ≡ seen_preamble a → Grown (shown_text a) (shown_text (a ++ b))
    by_preamble a b long None is same = Grown-none _ _ (shown_text-none a is)
    by_preamble a b long (Some preamble) is same = grows-begun a b preamble long is (same ∙ is)
