-- How a reader goes on.
use Rattle.std.proofs.Common.{◌≡◌, ◌+◌, ◌<◌, ◌≤◌, ◌≢◌, ◌^◌, ◌&&◌, ℕ, zero, suc, List, [], ◌∷◌, ◌++◌, Bool, true, false, length, take, drop, refl, sym, ap, ◌∙◌}
use Rattle.std.proofs.Common.{subst, append_assoc, append-nil, take-append-drop, arith, length-append, Ok, Err, Some, inl, inr, IsTrue, ◌↔◌, nat_lt, nat_eq}
use Rattle.std.proofs.{Common.{codes, Result, rules}, Math.Seq.take-append-add, lemmas.{List.{take_all, take-append-le, length-take}, Bool.Decides.nat_tests}}
use Rattle.std.{proofs.lemmas.Bool.{and_parts, cases_eq, cases_lt, false≢true, ltb-true}, specs.Int.{w64, cast_signed}}
use Rattle.tally_base.specs.declared.{fault.Fault.{Fault, TheVariants.{TruncatedHeader, HeaderLimit, BadMagic, TagType, TagLength}}, header.Header.Header}
use Rattle.{tally_base.specs.Faults.is_outside, ptu_definitions.specs.{declared.found.Found.Found, TagList.{code_in, value_in, is_known, is_negative}}}
use Rattle.ptu_definitions.specs.{TagList.{body_size, is_end, Item, IsItem, bytes_of, IsPreamble, IsFront, IsHeader}, Endings.{Open, ending, IsOtherFile}}
use Rattle.ptu_definitions.specs.{Fields.{found_in, header_of, version_in, with_tag}, Headers.{header_answer, with_rest, Shows, seen, seen_preamble}}
use Rattle.ptu_definitions.proofs.SeenLemmas.{seen-short, seen-tag, seen-body, seen-before, seen-other, seen-unknown, seen-negative, seen_preamble-short}
use Rattle.ptu_definitions.proofs.{SeenLemmas.{seen_preamble-other, seen_preamble-front, seen_preamble-append}, AnswerLemmas.{ending-start, ending-carried}}
use Rattle.ptu_definitions.proofs.AnswerLemmas.{ending-cut, answer-open, answer-limit, answer-header, answer-other, answer-bad_type, answer-bad_length}
use Rattle.ptu_definitions.proofs.{AnswerLemmas.{found_in-push, Shows-append, front-push, front-header}, Walks.is_less}
use Rattle.ptu_header.specs.declared.{reader.{HeaderReader.HeaderReader, Phase.Phase}, step.HeaderStep.{HeaderStep, TheVariants.{More, Preamble, Tag, Body}}}
use Rattle.ptu_header.specs.{declared.step.HeaderStep.TheVariants.{Done, Refused}, Phases.{outside_at, phase_after}, ReadHeader.{Takes, TookTag, InPreamble}}
use Rattle.ptu_header.specs.ReadHeader.{InTag, InBody, AtEnd, Stays, Adds, AddsNothing, EndsInTag, EndsInBody, Reads, HasRead, goes_on, Steps, StepsWhole, Took}
use Rattle.ptu_header.specs.ReadHeader.{IsDue, bare, IsEnd, IsInside, settled_at}
use Rattle.ptu_header.specs.declared.reader.Phase.TheVariants as Phases

pub preamble-open : (carried bytes : List ℕ) → InPreamble carried bytes → ending bytes ≡ Open
preamble-open carried bytes h = ap ending h.bytes_are ∙ ending-start carried h.short h.magic

pub tag-open : (carried : List ℕ) (tags : ℕ) (found : Found) (version bytes : List ℕ)
    → InTag carried tags found version bytes → length carried < 48 → ending bytes ≡ Open
tag-open carried tags found version bytes h short = ap ending h.bytes_are ∙ ending-carried h.start h.items h.front carried h.is_front short

pub body-open : (left : ℕ) (last : Bool) (tags : ℕ) (found : Found) (version bytes : List ℕ)
    → InBody left last tags found version bytes → 0 < left → ending bytes ≡ Open
body-open left last tags found version bytes h some = search (rules, arith, ending-cut)

-- Where a reader goes on, its bytes are a file that is cut.
pub reads-open : (phase : Phase) (carried : List ℕ) (taken tags : ℕ) (found : Found) (version bytes : List ℕ)
    → goes_on phase ≡ true → Reads phase carried taken tags found version bytes → (ending bytes ≡ Open) × (taken ≡ length bytes)
reads-open Phases.Preamble carried taken tags found version bytes on h = (preamble-open carried bytes h.0, h.1)
reads-open Phases.Tag carried taken tags found version bytes on h = (tag-open carried tags found version bytes h.0 h.1, h.2)
reads-open (Phases.Body left last) carried taken tags found version bytes on h = (body-open left last tags found version bytes h.0 h.1, h.2)
reads-open Phases.End carried taken tags found version bytes on h = cc
reads-open (Phases.Refused fault) carried taken tags found version bytes on h = cc

pub reads-answer : (phase : Phase) (carried : List ℕ) (taken tags : ℕ) (found : Found) (version bytes : List ℕ)
    → (goes_on phase && nat_lt taken (2 ^ 24)) ≡ true → Reads phase carried taken tags found version bytes → header_answer bytes ≡ Err (TruncatedHeader taken)
reads-answer phase carried taken tags found version bytes on h =
    let parts = and_parts (goes_on phase) (nat_lt taken (2 ^ 24)) on in
    let cut = reads-open phase carried taken tags found version bytes parts.0 h in
    let few = ltb-true taken (2 ^ 24) parts.1 in
    answer-open bytes (omega (arith, few, cut.1)) cut.0 ∙ ap (λ n. Err (TruncatedHeader n)) (sym cut.1)

pub more-clause : (phase : Phase) (carried : List ℕ) (taken tags : ℕ) (found : Found) (version bytes : List ℕ) → goes_on phase ≡ true → taken < 2 ^ 24
    → Reads phase carried taken tags found version bytes
    → Reads phase carried taken tags found version bytes × ((goes_on phase && nat_lt taken (2 ^ 24)) ≡ true) ×
    (header_answer bytes ≡ Err (TruncatedHeader (length bytes)))
more-clause phase carried taken tags found version bytes on few h =
    let cut = reads-open phase carried taken tags found version bytes on h in
    (h, rw (on, is_less taken (2 ^ 24) few) refl, answer-open bytes (omega (arith, few, cut.1)) cut.0)

-- what a test says
pub is_not : {A : Type 0} (answer : Bool) → (IsTrue answer ↔ A) → answer ≡ false → A → ⊥
is_not answer h isnt a = false≢true (sym isnt ∙ h.1 a)

-- at the limit
pub limit-shown : (phase : Phase) (carried : List ℕ) (taken tags : ℕ) (found : Found) (version bytes : List ℕ) → goes_on phase ≡ true → taken ≡ 2 ^ 24
    → Reads phase carried taken tags found version bytes → Shows header_answer bytes (Err HeaderLimit)
limit-shown phase carried taken tags found version bytes on full h =
    let cut = reads-open phase carried taken tags found version bytes on h in
    answer-limit bytes (omega (arith, full, cut.1)) cut.0

-- the bytes that are taken of a piece
pub whole_piece : (bytes piece : List ℕ) (used : ℕ) → length piece ≤ used → bytes ++ take used piece ≡ bytes ++ piece
whole_piece bytes piece used h = ap (λ l. bytes ++ l) (take_all used piece h)

pub shown-piece : {A : Type 0} (meaning : List ℕ → A) (bytes piece : List ℕ) (used : ℕ) (answer : A)
    → Shows meaning (bytes ++ take used piece) answer → Shows meaning (bytes ++ piece) answer
shown-piece {A = A} meaning bytes piece used answer h =
    let all : (bytes ++ take used piece) ++ drop used piece ≡ bytes ++ piece =
    append_assoc bytes (take used piece) (drop used piece) ∙ ap (λ l. bytes ++ l) (take-append-drop used piece) in
    subst (λ l. Shows meaning l answer) all (Shows-append meaning (bytes ++ take used piece) (drop used piece) answer h)

-- a preamble
pub preamble-more : (carried bytes p : List ℕ) → InPreamble carried bytes → length (carried ++ p) < 16
    → (6 ≤ length (carried ++ p) → take 6 (carried ++ p) ≡ codes "PQTTTR") → InPreamble (carried ++ p) (bytes ++ p)
preamble-more carried bytes p h short magic = record { bytes_are = ap (λ l. l ++ p) h.bytes_are; short = short; magic = magic }

pub preamble-whole : (tags : ℕ) (found : Found) (version bytes : List ℕ) → length bytes ≡ 16
    → take 6 bytes ≡ codes "PQTTTR" → tags ≡ 0 → found ≡ found_in [] → version ≡ version_in bytes → IsPreamble bytes × InTag [] tags found version bytes
preamble-whole tags found version bytes size magic t f v = search (rules, arith, append-nil)

-- a tag
pub tag-more : (carried : List ℕ) (tags : ℕ) (found : Found) (version bytes p : List ℕ)
    → InTag carried tags found version bytes → InTag (carried ++ p) tags found version (bytes ++ p)
tag-more carried tags found version bytes p h = search (rules, arith, append_assoc)

pub tag-whole : (tag : List ℕ) (tags : ℕ) (found : Found) (version bytes : List ℕ)
    → InTag tag tags found version bytes → length tag ≡ 48 → is_known (code_in tag) ≡ true → is_negative tag ≡ false
    → InBody (body_size tag) (is_end tag) (tags + 1) (with_tag found tag) version bytes
tag-whole tag tags found version bytes h size known positive = record {
  start = h.start;
  items = h.items;
  front = h.front;
  tag = tag;
  part = [];
  is_front = h.is_front;
  size = size;
  known = known;
  positive = positive;
  end_is = refl;
  bytes_are = h.bytes_are ∙ ap (λ l. h.front ++ l) (sym (append-nil tag));
  left_is = omega arith;
  tags_are = omega (arith, h.tags_are);
  found_are = ap (λ f. with_tag f tag) h.found_are;
  version_is = h.version_is;
}

-- a body
pub body-more : (left fewer : ℕ) (last : Bool) (tags : ℕ) (found : Found) (version bytes p : List ℕ)
    → InBody left last tags found version bytes → length p + fewer ≡ left → InBody fewer last tags found version (bytes ++ p)
body-more left fewer last tags found version bytes p h e = search (rules, arith, append_assoc, length-append)

-- after a tag or a piece of its body
pub after-reads : (left : ℕ) (last : Bool) (taken tags : ℕ) (found : Found) (version bytes : List ℕ)
    → InBody left last tags found version bytes → taken ≡ length bytes → Reads (phase_after left last) [] taken tags found version bytes
after-reads zero true taken tags found version bytes h size =
    let item : Item = record { tag = h.tag; body = h.part } in
    let is : IsItem item = record { size = h.size; known = h.known; positive = h.positive; whole = omega (arith, h.left_is) } in
    let header = subst (IsHeader h.start h.items item) (sym h.bytes_are) (front-header h.start h.items h.front item h.is_front is h.end_is) in (
      record {
        start = h.start;
        inner = h.items;
        last = item;
        is_header = header;
        found_are = h.found_are ∙ sym (found_in-push h.items item);
        version_is = h.version_is;
      },
      size,
    )
after-reads zero false taken tags found version bytes h size =
    let item : Item = record { tag = h.tag; body = h.part } in
    let is : IsItem item = record { size = h.size; known = h.known; positive = h.positive; whole = omega (arith, h.left_is) } in
    let front = subst (IsFront h.start (h.items ++ item ∷ [])) (sym h.bytes_are) (front-push h.start h.items h.front item h.is_front is h.end_is) in (
      record {
        start = h.start;
        items = h.items ++ item ∷ [];
        front = bytes;
        is_front = front;
        bytes_are = sym (append-nil bytes);
        tags_are = omega (arith, h.tags_are, length-append h.items (item ∷ []));
        found_are = h.found_are ∙ sym (found_in-push h.items item);
        version_is = h.version_is;
      },
      omega arith,
      size,
    )
after-reads (suc left) last taken tags found version bytes h size = (h, omega arith, size, refl)

-- the end
pub end-answer : (found : Found) (version bytes : List ℕ) (answer : Result Header Fault)
    → AtEnd found version bytes → length bytes ≤ 2 ^ 24 → answer ≡ header_of version found
    → (more : List ℕ) → header_answer (bytes ++ more) ≡ with_rest more answer
end-answer found version bytes answer h fits e more = search (rules, arith, answer-header)

pub reads-at : (a b : Phase) (carried : List ℕ) (taken tags : ℕ) (found : Found) (version bytes : List ℕ)
    → a ≡ b → Reads b carried taken tags found version bytes → Reads a carried taken tags found version bytes
reads-at a b carried taken tags found version bytes e h = subst (λ p. Reads p carried taken tags found version bytes) (sym e) h

pub reads-of : (a b : Phase) (carried : List ℕ) (taken tags : ℕ) (found : Found) (version bytes : List ℕ)
    → a ≡ b → Reads a carried taken tags found version bytes → Reads b carried taken tags found version bytes
reads-of a b carried taken tags found version bytes e h = subst (λ p. Reads p carried taken tags found version bytes) e h

-- a refusal
pub has_refused : (reader : HeaderReader) (fault : Fault) (bytes : List ℕ) → reader.phase ≡ Phases.Refused fault
    → reader.taken ≤ length bytes → Shows header_answer (take reader.taken bytes) (Err fault) → HasRead reader bytes
has_refused reader fault bytes e fits h = rw e (fits, h)

pub steps-refused : (step : HeaderStep) (reader : HeaderReader) (fault : Fault) (bytes piece : List ℕ) (used : ℕ)
    → step ≡ Refused fault → reader.phase ≡ Phases.Refused fault → used ≤ length piece
    → reader.taken ≡ length bytes + used → Shows header_answer (bytes ++ take used piece) (Err fault)
    → Stays bytes (take used piece) → Steps bytes piece reader step
steps-refused step reader fault bytes piece used e p inner size h stays =
    let front : take reader.taken (bytes ++ piece) ≡ bytes ++ take used piece = ap (λ n. take n (bytes ++ piece)) size ∙ take-append-add bytes piece used in
    let before : take reader.taken bytes ≡ bytes = take_all reader.taken bytes (omega (arith, size)) in
    let fits : reader.taken ≤ length (bytes ++ piece) = omega (arith, size, inner, length-append bytes piece) in
    let called : Shows header_answer (take reader.taken (bytes ++ piece)) (Err fault) = subst (λ l. Shows header_answer l (Err fault)) (sym front) h in
    subst (λ s. Steps bytes piece reader s) (sym e) (
      has_refused reader fault (bytes ++ piece) p fits called,
      shown-piece header_answer bytes piece used (Err fault) h,
      record {
        fits = fits;
        refused = called;
        items = ap seen front ∙ stays.items ∙ ap seen (sym before);
        preamble = ap seen_preamble front ∙ stays.preamble ∙ ap seen_preamble (sym before);
      },
    )

-- what the first bytes call for
pub shown-front : (bytes : List ℕ) (taken : ℕ) (fault : Fault) → Shows header_answer (take taken bytes) (Err fault) → Shows header_answer bytes (Err fault)
shown-front bytes taken fault h =
    subst (λ l. Shows header_answer l (Err fault)) (take-append-drop taken bytes)
    (Shows-append header_answer (take taken bytes) (drop taken bytes) (Err fault) h)

-- a refusal that is answered again
pub steps-again : (reader : HeaderReader) (fault : Fault) (bytes piece : List ℕ)
    → reader.phase ≡ Phases.Refused fault → HasRead reader bytes → Steps bytes piece reader (Refused fault)
steps-again reader fault bytes piece p h =
    let e = reads-of reader.phase (Phases.Refused fault) reader.carried.items reader.taken reader.tags reader.found reader.version bytes p h in
    let taken = reader.taken in
    let same : take taken (bytes ++ piece) ≡ take taken bytes = take-append-le taken bytes piece e.0 in
    let fits : taken ≤ length (bytes ++ piece) = omega (arith, e.0, length-append bytes piece) in
    let called : Shows header_answer (take taken (bytes ++ piece)) (Err fault) = subst (λ l. Shows header_answer l (Err fault)) (sym same) e.1 in
    (has_refused reader fault (bytes ++ piece) p fits called, shown-front (bytes ++ piece) taken fault called, record { fits = fits; refused = called; items = ap seen same; preamble = ap seen_preamble same })

-- a whole tag, as a step of the piece that made it whole
pub steps-whole : (step : HeaderStep) (bytes piece : List ℕ) (taken : ℕ) (reader : HeaderReader)
    → Took bytes piece taken → taken ≤ 48 → reader.taken ≡ length bytes + taken
    → StepsWhole (bytes ++ take taken piece) taken reader step → Steps bytes piece reader step
steps-whole More bytes piece taken reader took few all h = absurd h
steps-whole (Preamble used magic version) bytes piece taken reader took few all h = absurd h
steps-whole (Tag used head kind) bytes piece taken reader took few all h = search (rules, arith, length-take)
steps-whole (Body used last) bytes piece taken reader took few all h = absurd h
steps-whole (Done used header) bytes piece taken reader took few all h = absurd h
steps-whole (Refused fault) bytes piece taken reader took few all h =
    let size : length (take taken piece) ≡ taken = length-take taken piece ∙ omega (arith, took.0) in
    let stays = h.2 bytes (take taken piece) refl (omega (arith, size, took.1)) (omega (arith, size, few)) in
    steps-refused (Refused fault) reader fault bytes piece taken refl h.0 took.0 all h.1 stays

-- another file
pub preamble-other : (carried now bytes p : List ℕ) → InPreamble carried bytes → now ≡ carried ++ p
    → IsOtherFile now → length now ≤ 2 ^ 24 → Shows header_answer (bytes ++ p) (Err BadMagic)
preamble-other carried now bytes p h e other fits = search (rules, arith, answer-other)

-- a tag of no type, or of a negative length
pub tag-bad_type : (tag : List ℕ) (tags : ℕ) (found : Found) (version bytes : List ℕ)
    → InTag tag tags found version bytes → length tag ≡ 48 → is_known (code_in tag) ≡ false → length bytes ≤ 2 ^ 24
    → Shows header_answer bytes (Err (TagType (tags + 1) (code_in tag)))
tag-bad_type tag tags found version bytes h size unknown fits = search (rules, arith, answer-bad_type)

pub tag-bad_length : (tag : List ℕ) (tags : ℕ) (found : Found) (version bytes : List ℕ)
    → InTag tag tags found version bytes → length tag ≡ 48 → is_known (code_in tag) ≡ true → is_negative tag ≡ true
    → length bytes ≤ 2 ^ 24 → Shows header_answer bytes (Err (TagLength (tags + 1) (cast_signed w64 (value_in tag))))
tag-bad_length tag tags found version bytes h size known negative fits = search (rules, arith, answer-bad_length)

front_long : (start : List ℕ) (items : List Item) (front carried bytes : List ℕ) → IsFront start items front → bytes ≡ front ++ carried → 16 ≤ length bytes
front_long start items front carried bytes h e = search (rules, arith, length-append)

pub tag-ends : (tag : List ℕ) (tags : ℕ) (found : Found) (version bytes : List ℕ) → InTag tag tags found version bytes
    → length tag ≡ 48 → is_known (code_in tag) ≡ true → is_negative tag ≡ false → EndsInTag bytes tag
tag-ends tag tags found version bytes h size known positive = search (rules, arith)

pub body-ends : (left : ℕ) (last : Bool) (tags : ℕ) (found : Found) (version bytes p : List ℕ)
    → InBody left last tags found version bytes → length p ≤ left → EndsInBody bytes p (nat_eq (length p) left)
body-ends left last tags found version bytes p h fits =
    let size : length (h.part ++ p) ≡ length h.part + length p = length-append h.part p in
    let inner : length (h.part ++ p) ≤ body_size h.tag = omega (arith, size, fits, h.left_is) in
    let all : bytes ++ p ≡ h.front ++ (h.tag ++ (h.part ++ p)) =
    ap (λ l. l ++ p) h.bytes_are ∙ append_assoc h.front (h.tag ++ h.part) p ∙ ap (λ l. h.front ++ l) (append_assoc h.tag h.part p) in
    record {
      items = h.items;
      tag = h.tag;
      part = h.part;
      before_are = ap seen h.bytes_are ∙ seen-body h.start h.items h.front h.tag h.part h.is_front h.size h.known h.positive (omega (arith, h.left_is));
      now_are = ap seen all ∙ seen-body h.start h.items h.front h.tag (h.part ++ p) h.is_front h.size h.known h.positive inner;
      preamble = seen_preamble-append bytes p (front_long h.start h.items h.front (h.tag ++ h.part) bytes h.is_front h.bytes_are);
      fits = inner;
      last_is = same_test (length p) left (length (h.part ++ p)) (body_size h.tag) (length h.part) size h.left_is;
    }
  where
    same_test : (a b c d e : ℕ) → c ≡ e + a → e + b ≡ d → nat_eq a b ≡ nat_eq c d
    same_test a b c d e x y = elim (cases_eq a b) [
      | inl same ↦ let t : nat_eq a b ≡ true = grind (arith, nat_tests) in let other : c ≡ d =
          omega (arith, x, y, same) in let u : nat_eq c d ≡ true = grind (arith, nat_tests) in t ∙ sym u
      | inr differs ↦ let t : nat_eq a b ≡ false = grind (arith, nat_tests) in let other : c ≢ d =
          λ z. differs (omega (arith, x, y, z)) in let u : nat_eq c d ≡ false = grind (arith, nat_tests) in t ∙ sym u
    ]

pub reads-join : (a b : Phase) (s t : List ℕ) (f g : Found) (taken tags : ℕ) (version bytes : List ℕ)
    → a ≡ b → s ≡ t → f ≡ g → Reads b t taken tags g version bytes → Reads a s taken tags f version bytes
reads-join a b s t f g taken tags version bytes p q r h = search (rules, arith)

pub whole-refused : (step : HeaderStep) (reader : HeaderReader) (fault meant : Fault) (bytes : List ℕ) (used : ℕ)
    → step ≡ Refused fault → reader.phase ≡ Phases.Refused fault → fault ≡ meant
    → Shows header_answer bytes (Err meant) → AddsNothing bytes → StepsWhole bytes used reader step
whole-refused step reader fault meant bytes used e p same h nothing = search (rules, arith)

-- what stays where nothing is complete
pub short-stays : (bytes piece : List ℕ) → length (bytes ++ piece) < 16 → Stays bytes piece
short-stays bytes piece h = search (rules, arith, seen-short, length-append, seen_preamble-short)

-- bytes of another file
pub other-stays : (carried now bytes p : List ℕ) → InPreamble carried bytes → now ≡ carried ++ p → IsOtherFile now → Stays bytes p
other-stays carried now bytes p h e other = search (rules, arith, seen-other, seen-short, seen_preamble-other, seen_preamble-short)

pub nothing-stays : (bytes piece : List ℕ) → piece ≡ [] → Stays bytes piece
nothing-stays bytes piece e = search (rules, arith, append-nil)

pub tag-stays : (carried : List ℕ) (tags : ℕ) (found : Found) (version bytes p : List ℕ)
    → InTag carried tags found version bytes → length (carried ++ p) < 48 → Stays bytes p
tag-stays carried tags found version bytes p h short =
    let all : bytes ++ p ≡ h.front ++ (carried ++ p) = ap (λ l. l ++ p) h.bytes_are ∙ append_assoc h.front carried p in
    let fewer : length carried < 48 = omega (arith, short, length-append carried p) in
    let long = front_long h.start h.items h.front carried bytes h.is_front h.bytes_are in
    record {
      items = ap seen all ∙ seen-tag h.start h.items h.front (carried ++ p) h.is_front short
          ∙ sym (ap seen h.bytes_are ∙ seen-tag h.start h.items h.front carried h.is_front fewer);
      preamble = seen_preamble-append bytes p long;
    }

-- the preamble where the last part of a tag comes
tag_preamble : (tag : List ℕ) (tags : ℕ) (found : Found) (version bytes before p : List ℕ) → InTag tag tags found version bytes
    → length tag ≡ 48 → bytes ≡ before ++ p → length p ≤ 48 → seen_preamble bytes ≡ seen_preamble before
tag_preamble tag tags found version bytes before p h size e few =
    let front : length h.front ≡ length h.start + length (bytes_of h.items) = ap length h.is_front.bytes ∙ length-append h.start (bytes_of h.items) in
    let sum : length h.front + length tag ≡ length before + length p =
    sym (length-append h.front tag) ∙ ap length (sym h.bytes_are ∙ e) ∙ length-append before p in
    ap seen_preamble e ∙ seen_preamble-append before p (omega (arith, sum, front, h.is_front.preamble.size, size, few))

pub tag-adds : (tag : List ℕ) (tags : ℕ) (found : Found) (version bytes : List ℕ) → InTag tag tags found version bytes
    → length tag ≡ 48 → is_known (code_in tag) ≡ true → is_negative tag ≡ false → Adds bytes tag
tag-adds tag tags found version bytes h size known positive before p e some few =
    let all : bytes ≡ h.front ++ (tag ++ []) = h.bytes_are ∙ ap (λ l. h.front ++ l) (sym (append-nil tag)) in
    let first : seen before ≡ h.items = seen-before h.start h.items h.front tag before p h.is_front size (sym h.bytes_are ∙ e) some few in (
      ap seen all ∙ seen-body h.start h.items h.front tag [] h.is_front size known positive (omega arith) ∙ ap (λ l. l ++ bare tag ∷ []) (sym first),
      tag_preamble tag tags found version bytes before p h size e few,
    )

tag_nothing : (tag : List ℕ) (tags : ℕ) (found : Found) (version bytes : List ℕ) (h : InTag tag tags found version bytes)
    → length tag ≡ 48 → seen (h.front ++ (tag ++ [])) ≡ h.items → AddsNothing bytes
tag_nothing tag tags found version bytes h size same before p e some few =
    let all : bytes ≡ h.front ++ (tag ++ []) = h.bytes_are ∙ ap (λ l. h.front ++ l) (sym (append-nil tag)) in
    let first : seen before ≡ h.items = seen-before h.start h.items h.front tag before p h.is_front size (sym h.bytes_are ∙ e) some few in
    record { items = ap seen (sym e ∙ all) ∙ same ∙ sym first; preamble = ap seen_preamble (sym e) ∙ tag_preamble tag tags found version bytes before p h size e few }

-- a refused tag shows nothing
pub unknown-nothing : (tag : List ℕ) (tags : ℕ) (found : Found) (version bytes : List ℕ)
    → InTag tag tags found version bytes → length tag ≡ 48 → is_known (code_in tag) ≡ false → AddsNothing bytes
unknown-nothing tag tags found version bytes h size unknown =
    tag_nothing tag tags found version bytes h size (seen-unknown h.start h.items h.front tag [] h.is_front size unknown)

pub negative-nothing : (tag : List ℕ) (tags : ℕ) (found : Found) (version bytes : List ℕ) → InTag tag tags found version bytes
    → length tag ≡ 48 → is_known (code_in tag) ≡ true → is_negative tag ≡ true → AddsNothing bytes
negative-nothing tag tags found version bytes h size known negative =
    tag_nothing tag tags found version bytes h size (seen-negative h.start h.items h.front tag [] h.is_front size known negative)

pub takes-whole : (step : HeaderStep) (before now size taken : ℕ) → taken ≤ size → now ≡ before + taken → TookTag taken step → Takes before now size step
takes-whole step before now size taken fits e h = search (rules, arith)

pub preamble-shows : (bytes : List ℕ) → IsPreamble bytes → (seen bytes ≡ []) × (seen_preamble bytes ≡ Some bytes)
preamble-shows bytes h =
    let front : IsFront bytes [] bytes = record { preamble = h; inner = tt; bytes = sym (append-nil bytes) } in
    (ap seen (sym (append-nil bytes)) ∙ seen-tag bytes [] bytes [] front (omega arith), ap seen_preamble (sym (append-nil bytes)) ∙ seen_preamble-front bytes [] bytes [] front)

-- an answer that the bytes before a step call for
cut-due : (bytes : List ℕ) (step : HeaderStep) (count : ℕ) → header_answer bytes ≡ Err (TruncatedHeader count) → IsDue (header_answer bytes) step
cut-due bytes step count e = subst (λ a. IsDue a step) (sym e) (λ differs. absurd (differs count refl))

-- At the limit no step takes a byte, and none is left but the refusal.
limit-step : (step : HeaderStep) (new : HeaderReader) (bytes piece : List ℕ) → Shows header_answer bytes (Err HeaderLimit) → Steps bytes piece new step
    → Takes (2 ^ 24) new.taken (length piece) step → new.taken ≤ 2 ^ 24 → step ≡ Refused HeaderLimit
limit-step More new bytes piece full s t fits = let at = full piece in let cut = s.2 in cc
limit-step (Preamble used magic version) new bytes piece full s t fits = absurd (omega (arith, s.0.1, t.1, fits))
limit-step (Tag used head kind) new bytes piece full s t fits = absurd (omega (arith, s.0.1, t.1, fits))
limit-step (Body used last) new bytes piece full s t fits = absurd (omega (arith, s.0.1, t.1, fits))
limit-step (Done used header) new bytes piece full s t fits = let at = full [] in let done = s.2 [] in cc
limit-step (Refused fault) new bytes piece full s t fits =
    let at = full piece in
    let same : header_answer (bytes ++ piece) ≡ Err fault = ap header_answer (sym (append-nil (bytes ++ piece))) ∙ s.1 [] in
    cc

pub going-due : (step : HeaderStep) (old new : HeaderReader) (bytes piece : List ℕ) → goes_on old.phase ≡ true
    → HasRead old bytes → Steps bytes piece new step → Takes old.taken new.taken (length piece) step
    → old.taken ≤ 2 ^ 24 → new.taken ≤ 2 ^ 24 → IsDue (header_answer bytes) step
going-due step old new bytes piece on h s t few fits =
    elim (cases_lt old.taken (2 ^ 24)) [
      | inl less ↦
          let cut = reads-open old.phase old.carried.items old.taken old.tags old.found old.version bytes on h in
          cut-due bytes step (length bytes) (answer-open bytes (omega (arith, less, cut.1)) cut.0)
      | inr more ↦
          let full : old.taken ≡ 2 ^ 24 = omega (arith, few, more) in
          let shown = limit-shown old.phase old.carried.items old.taken old.tags old.found old.version bytes on full h in
          let at : header_answer bytes ≡ Err HeaderLimit = ap header_answer (sym (append-nil bytes)) ∙ shown [] in
          subst (λ a. IsDue a step) (sym at) (λ _. limit-step step new bytes piece shown s (subst (λ n. Takes n new.taken (length piece) step) full t) fits)
    ]

pub done-due : (step : HeaderStep) (bytes : List ℕ) (header : Header) → step ≡ Done 0 header
    → header_answer (bytes ++ []) ≡ Ok (header, []) → IsDue (header_answer bytes) step
done-due step bytes header e h = subst (λ a. IsDue a step) (sym (ap header_answer (sym (append-nil bytes)) ∙ h)) e

pub refused-due : (step : HeaderStep) (bytes : List ℕ) (fault : Fault) → step ≡ Refused fault
    → Shows header_answer bytes (Err fault) → IsDue (header_answer bytes) step
refused-due step bytes fault e h = subst (λ a. IsDue a step) (sym (ap header_answer (sym (append-nil bytes)) ∙ h [])) (λ _. e)

-- A refusal that a reader is settled on is one that the bytes call for.
settled_inside : (phase : Phase) (answer : Result Header Fault) (fault : Fault) → outside_at phase ≡ false
    → settled_at phase answer ≡ Some (Refused fault) → is_outside fault ≡ false
settled_inside Phases.Preamble answer fault inside is = cc
settled_inside Phases.Tag answer fault inside is = cc
settled_inside (Phases.Body left last) answer fault inside is = cc
settled_inside Phases.End (Ok header) fault inside is = cc
settled_inside Phases.End (Err other) fault inside is = cc
settled_inside (Phases.Refused other) answer fault inside is = cc

pub end_inside : (reader : HeaderReader) (step : HeaderStep) → IsEnd reader step → IsInside step
end_inside reader More ended = tt
end_inside reader (Preamble used magic version) ended = tt
end_inside reader (Tag used head kind) ended = tt
end_inside reader (Body used last) ended = tt
end_inside reader (Done used header) ended = tt
end_inside reader (Refused fault) ended = settled_inside reader.phase (header_of reader.version reader.found) fault reader.inside ended
