-- More bytes after a file change its header's answer only where the header is cut.
use Rattle.std.proofs.Common.{subst, ◌+◌, ◌≡◌, ◌≢◌, ◌-◌, ◌≤◌, ◌^◌, ℕ, List, [], ◌++◌, length, take, drop, refl, sym, ap, ◌∙◌, append_assoc, append-nil, arith}
use Rattle.std.proofs.{Common.{length-append, inl, inr, Ok, Err, Result, rules}, lemmas.List.{length-take, take-append-le, drop-append-le, take_all}}
use Rattle.{std.proofs.lemmas.{List.length-drop, Bool.cases_lt}, tally_base.specs.declared.fault.Fault.{Fault, TheVariants.TruncatedHeader}}
use Rattle.{tally_base.specs.declared.header.Header.Header, ptu_definitions.specs.{TagList.{Item, bytes_of}, Endings.{Ending, OtherFile, BadType, BadLength}}}
use Rattle.ptu_definitions.specs.{Endings.{Whole, Open, HasTag, HasHeader, IsOpen, EndsAs, ending}, Fields.{found_in, header_of, version_in}}
use Rattle.ptu_definitions.{specs.Headers.{header_answer, head_of, answer_as, with_rest, unfinished}, proofs.Sound.{ending-applies, ending-one}}
use Rattle.ptu_definitions.proofs.{AnswerLemmas.{head-front, answer-open, answer-at, bytes_of-append}, SeenLaws.{other-append, behind_tag, refusal, err_is}}

-- an answer of a file that goes on
abbrev pub with_more : List ℕ → Result (Header × List ℕ) Fault → Result (Header × List ℕ) Fault
with_more more (Ok found) = Ok (found.0, found.1 ++ more)
with_more more (Err fault) = Err fault

with_rest-more : (rest more : List ℕ) (r : Result Header Fault) → with_rest (rest ++ more) r ≡ with_more more (with_rest rest r)
with_rest-more rest more r = search (rules, arith)

-- A tag that stands after a front stands there whatever comes after.
tag-more : (bytes more : List ℕ) (number : ℕ) (tag : List ℕ) → HasTag bytes number tag → HasTag (bytes ++ more) number tag
tag-more bytes more number tag h = search (rules, arith, behind_tag)

-- Of the ways in which a tag list can end each but the last stays with more bytes after.
ends-more : (bytes more : List ℕ) (end : Ending) → EndsAs bytes end → (end ≡ Open → more ≡ []) → EndsAs (bytes ++ more) end
ends-more bytes more OtherFile h whole = other-append bytes more h
ends-more bytes more (BadType number code) h whole = search (rules, arith, tag-more)
ends-more bytes more (BadLength number value) h whole = search (rules, arith, tag-more)
ends-more bytes more (Whole items) h whole = search (rules, arith, append_assoc)
ends-more bytes more Open h whole = subst IsOpen (sym (ap (λ l. bytes ++ l) (whole refl) ∙ append-nil bytes)) h

-- a header is no longer than the bytes that begin with it
header-size : (bytes : List ℕ) (items : List Item) → HasHeader bytes items → 16 + length (bytes_of items) ≤ length bytes
header-size bytes items h = search (rules, arith, bytes_of-append, append-nil, length-append)

-- what more bytes do to the answer of an ending that stays
answer-more : (file more : List ℕ) (end : Ending) → EndsAs (head_of file) end
    → (end ≡ Open → length (head_of (file ++ more)) ≡ length (head_of file)) → answer_as (file ++ more) end ≡ with_more more (answer_as file end)
answer-more file more OtherFile h whole = refl
answer-more file more (BadType number code) h whole = refl
answer-more file more (BadLength number value) h whole = refl
answer-more file more (Whole items) h whole =
    let size = 16 + length (bytes_of items) in
    let fits : size ≤ length file = omega (arith, header-size (head_of file) items h, length-take (2 ^ 24) file) in
    let version : version_in (file ++ more) ≡ version_in file =
    ap (take 8) (drop-append-le 8 file more (omega (arith, fits))) ∙ take-append-le 8 (drop 8 file) more (omega (arith, fits, length-drop 8 file)) in
    ap (λ l. with_rest l (header_of (version_in (file ++ more)) (found_in items))) (drop-append-le size file more fits)
    ∙ ap (λ v. with_rest (drop size file ++ more) (header_of v (found_in items))) version
    ∙ with_rest-more (drop size file) more (header_of (version_in file) (found_in items))
answer-more file more Open h whole = ap (λ n. refusal (unfinished n)) (whole refl)

-- where the first bytes of a longer file are those of the file and some of what comes after
stays : (file more tail : List ℕ) → head_of (file ++ more) ≡ head_of file ++ tail
    → (ending (head_of file) ≡ Open → tail ≡ []) → header_answer (file ++ more) ≡ with_more more (header_answer file)
unfolding header_answer
stays file more tail head whole =
    let end = ending (head_of file) in
    let applies = ending-applies (head_of file) in
    let same : ending (head_of (file ++ more)) ≡ end =
    ap ending head ∙ ending-one (head_of file ++ tail) end (ends-more (head_of file) tail end applies whole) in
    answer-at (file ++ more) end same
    ∙ answer-more file more end applies (λ cut. ap length (head ∙ ap (λ l. head_of file ++ l) (whole cut) ∙ append-nil (head_of file)))

pub header-stays : (file more : List ℕ) → ((count : ℕ) → header_answer file ≢ Err (TruncatedHeader count))
    → header_answer (file ++ more) ≡ with_more more (header_answer file)
header-stays file more answered = elim (cases_lt (length file) (2 ^ 24)) [
  | inl few ↦
      let all : head_of file ≡ file = take_all (2 ^ 24) file (omega (arith, few)) in
      let tail = take (2 ^ 24 - length file) more in
      stays file more tail (head-front file more (omega (arith, few)) ∙ ap (λ l. l ++ tail) (sym all))
      (λ cut. absurd (answered (length file) (answer-open file few (ap ending (sym all) ∙ cut))))
  | inr full ↦ stays file more [] (take-append-le (2 ^ 24) file more full ∙ sym (append-nil (head_of file))) (λ cut. refl)
]

pub refused-stays : (file more : List ℕ) (fault : Fault) → header_answer file ≡ Err fault
    → ((count : ℕ) → fault ≢ TruncatedHeader count) → header_answer (file ++ more) ≡ Err fault
refused-stays file more fault is other = search (rules, arith, header-stays, err_is, with_more)

abbrev headed : Header → List ℕ → Result (Header × List ℕ) Fault
headed header behind = Ok (header, behind)

pub headed-stays : (file more behind : List ℕ) (header : Header)
    → header_answer file ≡ Ok (header, behind) → header_answer (file ++ more) ≡ Ok (header, behind ++ more)
headed-stays file more behind header is = search (rules, arith, header-stays, with_more)
