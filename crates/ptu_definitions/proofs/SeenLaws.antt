-- What bytes show, by the longest front or header, and where they have an answer.
use Rattle.std.proofs.Common.{min, subst, ◌+◌, ◌≡◌, ◌≢◌, ◌-◌, ◌≤◌, ◌^◌, ℕ, List, [], ◌∷◌, ◌++◌, true, false, length, take, drop, refl, sym, ap, ◌∙◌}
use Rattle.std.proofs.Common.{append_assoc, append-nil, take-append-drop, arith, length-append, inl, inr, None, Some, Err, nat_eq, Result, rules}
use Rattle.std.proofs.lemmas.{List.{length-take, take-append-le}, Bool.{cases_Bool, cases_lt, cases_eq, Decides.nat_tests}}
use Rattle.tally_base.specs.declared.{fault.Fault.{Fault, TheVariants.TruncatedHeader}, header.Header.Header}
use Rattle.ptu_definitions.specs.{declared.found.Found.Found, TagList.{is_end, Item, bytes_of}, Endings.{Ending, OtherFile, BadType, BadLength, Whole, Open}}
use Rattle.ptu_definitions.specs.{Endings.{HasTag, IsOtherFile, EndsAs, ending}, Fields.{found_in, header_of, version_in}, Headers.{header_answer, head_of}}
use Rattle.ptu_definitions.specs.Headers.{answer_as, with_rest, unfinished, Shows, seen_from, seen, seen_preamble, begun, IsLongestFront, HasNoFront}
use Rattle.ptu_definitions.proofs.{Walks.{is_less, tag_long, take_front, drop_front}, Sound.{ending-applies, Few, Other, Preamble, start_of, Stuck, Part}}
use Rattle.ptu_definitions.proofs.{Sound.{Unknown, Negative, Cut, starts, start_front}, AnswerLemmas.{head-front, answer-open, front-push, front-header}}
use Rattle.ptu_definitions.proofs.SeenLemmas.{seen_from-short, seen_from-part, seen_from-unknown, seen_from-negative, seen-front, seen-short, seen-other}
use Rattle.ptu_definitions.proofs.SeenLemmas.{seen-unknown, seen-negative, seen-header, seen_preamble-short, seen_preamble-other, seen_preamble-front}
use Rattle.ptu_definitions.proofs.SeenLemmas.{seen_preamble-header}

-- no whole item stands after the longest front
longest_stuck : (bytes start : List ℕ) (items : List Item) (front rest : List ℕ) → IsLongestFront bytes start items front rest → Stuck rest
longest_stuck bytes start items front rest h = elim (starts rest) [
  | inr stuck ↦ stuck
  | inl w ↦
      let own = w.item.tag ++ w.item.body in
      let all : bytes ≡ (front ++ own) ++ w.behind = h.bytes_are ∙ ap (λ l. front ++ l) w.bytes_are ∙ sym (append_assoc front own w.behind) in
      elim (cases_Bool (is_end w.item.tag)) [
        | inl last ↦ absurd (h.headers start items w.item (front ++ own) w.behind (front-header start items front w.item h.is_front w.is_item last) all)
        | inr inner ↦
            let no_longer =
            h.fronts start (items ++ w.item ∷ []) (front ++ own) w.behind (front-push start items front w.item h.is_front w.is_item inner) all in
            absurd (omega (arith, no_longer, length-append front own, length-append w.item.tag w.item.body, w.is_item.size))
      ]
]

-- what is seen where no whole item stands
seen_from-stuck : (left : ℕ) (rest : List ℕ) → Stuck rest → length rest ≤ left → seen_from left rest ≡ begun rest
unfolding begun
seen_from-stuck left rest (Part few) fits = rw (seen_from-short left rest few, is_less (length rest) 48 few) refl
seen_from-stuck left rest (Unknown tag part is size unknown) fits =
    rw (is, seen_from-unknown left tag part size unknown, tag_long tag part size, take_front 48 tag part size, unknown) refl
seen_from-stuck left rest (Negative tag part is size known negative) fits =
    rw (is, seen_from-negative left tag part size known negative, tag_long tag part size, take_front 48 tag part size, known, negative) refl
seen_from-stuck left rest (Cut tag part is size known positive cut) fits =
    let seen_part = seen_from-part left tag part (omega (arith, ap length is)) size known positive (omega arith) in
    rw (is, seen_part, tag_long tag part size, take_front 48 tag part size, known, positive, drop_front 48 tag part size) refl

pub seen-longest : (bytes start : List ℕ) (items : List Item) (front rest : List ℕ)
    → IsLongestFront bytes start items front rest → (seen_preamble bytes ≡ Some start) × (seen bytes ≡ items ++ begun rest)
seen-longest bytes start items front rest h =
    let at = seen-front start items front rest h.is_front in (
      ap seen_preamble h.bytes_are ∙ seen_preamble-front start items front rest h.is_front,
      ap seen h.bytes_are ∙ at.2 ∙ ap (λ l. items ++ l) (seen_from-stuck at.0 rest (longest_stuck bytes start items front rest h) at.1),
    )

pub seen-none : (bytes : List ℕ) → HasNoFront bytes → (seen_preamble bytes ≡ None) × (seen bytes ≡ [])
seen-none bytes none = elim (start_of bytes) [
  | Few short magic ↦ (seen_preamble-short bytes short, seen-short bytes short)
  | Other h ↦ (seen_preamble-other bytes h, seen-other bytes h)
  | Preamble p ↦ absurd (none (take 16 bytes) [] (take 16 bytes) (drop 16 bytes) (start_front (take 16 bytes) p) (sym (take-append-drop 16 bytes)))
]

-- bytes that are settled show the same with more after
abbrev ShowsAll : List ℕ → List ℕ → Type 0
ShowsAll bytes more = (seen_preamble (bytes ++ more) ≡ seen_preamble bytes) × (seen (bytes ++ more) ≡ seen bytes)

pub other-append : (bytes more : List ℕ) → IsOtherFile bytes → IsOtherFile (bytes ++ more)
other-append bytes more h = search (rules, arith, length-append, take-append-le)

pub behind_tag : (front tag rest more : List ℕ) → (front ++ (tag ++ rest)) ++ more ≡ front ++ (tag ++ (rest ++ more))
behind_tag front tag rest more = append_assoc front (tag ++ rest) more ∙ ap (λ l. front ++ l) (append_assoc tag rest more)

-- where the same is shown of a tag with any bytes after it
tag-shows : (bytes more : List ℕ) (number : ℕ) (tag : List ℕ) (h : HasTag bytes number tag)
    → ((rest : List ℕ) → seen (h.front ++ (tag ++ rest)) ≡ h.items) → ShowsAll bytes more
tag-shows bytes more number tag h same = search (rules, arith, behind_tag, seen_preamble-front)

ending-shows : (bytes more : List ℕ) (end : Ending) → EndsAs bytes end → (end ≡ Open → more ≡ []) → ShowsAll bytes more
ending-shows bytes more OtherFile h open_end = search (rules, arith, other-append, seen_preamble-other, seen-other)
ending-shows bytes more (BadType number code) h open_end =
    tag-shows bytes more number h.tag h.stands
    (λ rest. seen-unknown h.stands.start h.stands.items h.stands.front h.tag rest h.stands.is_front h.stands.size h.unknown)
ending-shows bytes more (BadLength number value) h open_end =
    tag-shows bytes more number h.tag h.stands
    (λ rest. seen-negative h.stands.start h.stands.items h.stands.front h.tag rest h.stands.is_front h.stands.size h.known h.negative)
ending-shows bytes more (Whole items) h open_end =
    let all : bytes ++ more ≡ h.header ++ (h.rest ++ more) = ap (λ l. l ++ more) h.bytes_are ∙ append_assoc h.header h.rest more in
    search (rules, arith, seen_preamble-header, seen-header)
ending-shows bytes more Open h open_end = search (rules, arith, append-nil)

pub seen-answered : (bytes more : List ℕ) → length bytes ≤ 2 ^ 24 → ((count : ℕ) → header_answer bytes ≢ Err (TruncatedHeader count))
    → (seen_preamble (head_of (bytes ++ more)) ≡ seen_preamble bytes) × (seen (head_of (bytes ++ more)) ≡ seen bytes)
seen-answered bytes more fits answered =
    let room = 2 ^ 24 - length bytes in
    let head = head-front bytes more fits in
    let none : ending bytes ≡ Open → take room more ≡ [] = λ cut.
    elim (cases_lt (length bytes) (2 ^ 24)) [
      | inl few ↦ absurd (answered (length bytes) (answer-open bytes few cut))
      | inr full ↦ let nothing : room ≡ 0 = omega (arith, full) in ap (λ n. take n more) nothing
    ] in
    let shows = ending-shows bytes (take room more) (ending bytes) (ending-applies bytes) none in
    (ap seen_preamble head ∙ shows.0, ap seen head ∙ shows.1)

abbrev pub refusal : Fault → Result (Header × List ℕ) Fault
refusal fault = Err fault

pub err_is : (a b : Fault) → refusal a ≡ refusal b → a ≡ b
err_is a b e = cc

-- A header's fields never say that it is cut.
not_cut-header : (rest version : List ℕ) (found : Found) (count : ℕ) → with_rest rest (header_of version found) ≢ Err (TruncatedHeader count)
unfolding header_of
not_cut-header rest version found count = search (rules, arith)

-- a cut header's number of bytes
pub cut-size : (file : List ℕ) (count : ℕ) → header_answer file ≡ Err (TruncatedHeader count)
    → (count ≡ length (head_of file)) × (length (head_of file) ≢ 2 ^ 24)
unfolding header_answer
cut-size file count e = by (ending (head_of file)) e
  where
    open_size : (size : ℕ) → refusal (unfinished size) ≡ Err (TruncatedHeader count) → (count ≡ size) × (size ≢ 2 ^ 24)
    open_size size e = elim (cases_eq size (2 ^ 24)) [
      | inl full ↦
          let test : nat_eq size (2 ^ 24) ≡ true = grind (arith, nat_tests) in
          let limit = rw test at e in
          absurd cc
      | inr short ↦
          let test : nat_eq size (2 ^ 24) ≡ false = grind (arith, nat_tests) in
          let cut = rw test at e in
          (cc, short)
    ]

    by : (end : Ending) → answer_as file end ≡ Err (TruncatedHeader count) → (count ≡ length (head_of file)) × (length (head_of file) ≢ 2 ^ 24)
    by OtherFile e = absurd cc
    by (BadType number code) e = absurd cc
    by (BadLength number value) e = absurd cc
    by (Whole items) e = absurd (not_cut-header (drop (16 + length (bytes_of items)) file) (version_in file) (found_in items) count e)
    by Open e = open_size (length (head_of file)) e

-- No bytes show that a header is cut, since more may come.
pub Shows-cut : (bytes : List ℕ) (count : ℕ) → Shows header_answer bytes (Err (TruncatedHeader count)) → ⊥
Shows-cut bytes count h =
    let longer = bytes ++ 0 ∷ [] in
    let first = cut-size (bytes ++ []) count (h []) in
    let next = cut-size longer count (h (0 ∷ [])) in
    let a : length (head_of (bytes ++ [])) ≡ min (2 ^ 24) (length bytes) =
    length-take (2 ^ 24) (bytes ++ []) ∙ ap (λ l. min (2 ^ 24) (length l)) (append-nil bytes) in
    let b : length (head_of longer) ≡ min (2 ^ 24) (length longer) = length-take (2 ^ 24) longer in
    absurd (omega (arith, first.0, first.1, next.0, a, b, length-append bytes (0 ∷ [])))

pub seen-refused : (bytes more : List ℕ) (fault : Fault) → length bytes ≤ 2 ^ 24 → Shows header_answer bytes (Err fault)
    → (seen_preamble (head_of (bytes ++ more)) ≡ seen_preamble bytes) × (seen (head_of (bytes ++ more)) ≡ seen bytes)
seen-refused bytes more fault fits h =
    let answer : header_answer bytes ≡ Err fault = ap header_answer (sym (append-nil bytes)) ∙ h [] in
    seen-answered bytes more fits
    (λ count cut. let same : fault ≡ TruncatedHeader count =
    err_is fault (TruncatedHeader count) (sym answer ∙ cut) in Shows-cut bytes count (subst (λ f. Shows header_answer bytes (Err f)) same h))
