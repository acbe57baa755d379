-- The text of a header that is at its end or refused grows no more.
use Rattle.std.proofs.Common.{◌≡◌, ◌≢◌, ◌-◌, ◌^◌, ◌<◌, ◌≤◌, ℕ, List, [], ◌∷◌, ◌++◌, length, take, refl, sym, ap, ◌∙◌, subst, append-nil, arith, length-append}
use Rattle.std.proofs.{Common.{inl, inr, Result, Ok, Err, rules}, lemmas.{Bool.cases_lt, List.{length-take, take-append-le, take_all}}}
use Rattle.tally_base.specs.declared.{fault.Fault.{Fault, TheVariants.TruncatedHeader}, header.Header.Header}
use Rattle.ptu_definitions.specs.{declared.found.Found.Found, Endings.{Ending, OtherFile, BadType, BadLength, Whole, Open, ending}, Fields.header_of}
use Rattle.ptu_definitions.{specs.Headers.{header_answer, head_of, answer_as, with_rest, unfinished, Shows}, proofs.AnswerLemmas.head-front}
use Rattle.{ptu_definitions.proofs.SeenLaws.seen-answered, list_out.{specs.HeaderText.{shown_text, header_text}, proofs.Growing.{Grown, shown_text-grows}}}

-- the first bytes of a longer file
head_of-more : (a b : List ℕ) → (c : List ℕ) × (head_of (a ++ b) ≡ head_of a ++ c)
head_of-more a b = elim (cases_lt (length a) (2 ^ 24)) [
  | inl short ↦ (take (2 ^ 24 - length a) b, head-front a b (omega (arith, short)) ∙ ap (λ l. l ++ take (2 ^ 24 - length a) b) (sym (take_all (2 ^ 24) a (omega (arith, short)))))
  | inr long ↦ ([], take-append-le (2 ^ 24) a b long ∙ sym (append-nil (head_of a)))
]

-- Whatever comes after the bytes, their text is the first part of the text.
pub header_text-grows : (a b : List ℕ) → Grown (header_text a) (header_text (a ++ b))
unfolding header_text
header_text-grows a b =
    let more = head_of-more a b in
    subst (λ (l : List ℕ). Grown (shown_text (head_of a)) (shown_text l)) (sym more.1) (shown_text-grows (head_of a) more.0)

header_text-full : (a b : List ℕ) → 2 ^ 24 ≤ length a → header_text (a ++ b) ≡ header_text a
unfolding header_text
header_text-full a b long = ap shown_text (take-append-le (2 ^ 24) a b long)

header_text-answered : (a b : List ℕ) → length a < 2 ^ 24 → ((count : ℕ) → header_answer a ≢ Err (TruncatedHeader count)) → header_text (a ++ b) ≡ header_text a
unfolding header_text shown_text
header_text-answered a b short answered =
    let same = seen-answered a b (omega (arith, short)) answered in
    rw (same.0, same.1, take_all (2 ^ 24) a (omega (arith, short))) refl

-- a header is never refused as cut by its fields
header_of-not_cut : (version : List ℕ) (found : Found) (size : ℕ) → header_of version found ≢ Err (TruncatedHeader size)
unfolding header_of
header_of-not_cut version found size = search (rules, arith)

with_rest-cut : (rest : List ℕ) (header : Result Header Fault) (size : ℕ)
    → header ≢ Err (TruncatedHeader size) → with_rest rest header ≢ Err (TruncatedHeader size)
with_rest-cut rest header size h = search (rules, arith)

unfinished-cut : (length size : ℕ) → unfinished length ≡ TruncatedHeader size → size ≡ length
unfinished-cut length size = search (rules, arith)

-- a file that is cut is cut where it ends
answer_as-cut : (file : List ℕ) (end : Ending) (size : ℕ) → answer_as file end ≡ Err (TruncatedHeader size) → size ≡ length (head_of file)
answer_as-cut file OtherFile size e = cc
answer_as-cut file (BadType number code) size e = cc
answer_as-cut file (BadLength number value) size e = cc
answer_as-cut file (Whole items) size e = absurd (with_rest-cut _ _ size (header_of-not_cut _ _ size) e)
answer_as-cut file Open size e = unfinished-cut (length (head_of file)) size (let same : unfinished (length (head_of file)) ≡ TruncatedHeader size = cc in same)

header_answer-cut : (file : List ℕ) (size : ℕ) → header_answer file ≡ Err (TruncatedHeader size) → size ≡ length (head_of file)
unfolding header_answer
header_answer-cut file size e = answer_as-cut file (ending (head_of file)) size e

-- the text of bytes that are refused, whatever comes after them
pub header_text-refused : (a b : List ℕ) (fault : Fault) → Shows header_answer a (Err fault) → header_text (a ++ b) ≡ header_text a
header_text-refused a b fault shown = elim (cases_lt (length a) (2 ^ 24)) [
  | inr long ↦ header_text-full a b long
  | inl short ↦ header_text-answered a b short (λ count cut.
      let here : count ≡ length (head_of a) = header_answer-cut a count cut in
      let next : count ≡ length (head_of (a ++ 0 ∷ [])) =
      header_answer-cut (a ++ 0 ∷ []) count (shown (0 ∷ []) ∙ sym (shown []) ∙ ap header_answer (append-nil a) ∙ cut) in
      absurd (omega (arith, here, next, length-take (2 ^ 24) a, length-take (2 ^ 24) (a ++ 0 ∷ []), length-append a (0 ∷ []))))
]

-- the text of a header that is whole, whatever comes after it
pub header_text-done : (a b : List ℕ) (header : Header) (behind : List ℕ)
    → ((more : List ℕ) → header_answer (a ++ more) ≡ Ok (header, behind ++ more)) → header_text (a ++ b) ≡ header_text a
header_text-done a b header behind done = elim (cases_lt (length a) (2 ^ 24)) [
  | inr long ↦ header_text-full a b long
  | inl short ↦ header_text-answered a b short (λ count cut.
      let other : header_answer a ≡ Ok (header, behind ++ []) = ap header_answer (sym (append-nil a)) ∙ done [] in
      cc)
]
