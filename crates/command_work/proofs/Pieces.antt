-- A piece that is fed in two parts, and what the bytes taken call for.
use Rattle.std.proofs.Common.{subst, slice_range, ◌≡◌, ◌+◌, ◌≤◌, ℕ, ◌-◌, List, [], ◌++◌, Ok, length, arith, take, drop, refl, sym, ap, ◌∙◌, append_assoc}
use Rattle.std.proofs.{Common.{append-nil, take-append-drop, ◌<◌, rules, true, false, Err, Result, IfOk, IfErr}, Math.Seq.take-add, lemmas.List.length-drop}
use Rattle.{std.proofs.lemmas.List.{length-take-le, length-take}, tally_base.specs.{declared.{header.Header.Header, fault.Fault.Fault}, Faults.is_outside}}
use Rattle.{ptu_definitions.specs.{Endings.ending, Headers.header_answer}, command_work.specs.{Outcomes.{IsCut, SaysNoEnd}, Behaviours.piece_limit}}
use Rattle.{command_work.specs.{Works.TakesFew, Pieces.StopsSoon}, bench_io.{specs.Given.{Given, Consumes, GivesCount}, proofs.States.Consumes-trans}}

-- a first part, and a part of what is left
pub two-parts : (bytes piece part : List ℕ) (used more : ℕ) → part ≡ drop used piece → (bytes ++ take used piece) ++ take more part ≡ bytes ++ take (used + more) piece
two-parts bytes piece part used more e = search (rules, arith, append_assoc, take-add)

-- a first part and all that is left
pub whole-piece : (bytes piece part : List ℕ) (used : ℕ) → part ≡ drop used piece → (bytes ++ take used piece) ++ part ≡ bytes ++ piece
whole-piece bytes piece part used e =
    ap (λ l. (bytes ++ take used piece) ++ l) e ∙ append_assoc bytes (take used piece) (drop used piece) ∙ ap (λ l. bytes ++ l) (take-append-drop used piece)

pub whole-piece-more : (bytes piece more : List ℕ) (used : ℕ) → (bytes ++ take used piece) ++ (drop used piece ++ more) ≡ (bytes ++ piece) ++ more
whole-piece-more bytes piece more used =
    sym (append_assoc (bytes ++ take used piece) (drop used piece) more) ∙ ap (λ l. l ++ more) (whole-piece bytes piece (drop used piece) used refl)

-- The first `used` bytes of a piece were given to a reader, which stands for them after those before.
pub record Walked {R : Type 0} (stands : R → List ℕ → Type 0) (taken_by : R → ℕ) (old new : R) (piece : List ℕ) (used : ℕ) : Type 0 where
  pub fits : used ≤ length piece
  pub started : (bytes : List ℕ) × stands new bytes
  pub stood : (bytes : List ℕ) → stands old bytes → stands new (bytes ++ take used piece)
  pub taken : taken_by new ≡ taken_by old + used

-- and a part of what is left
pub Walked-next : {R : Type 0} (stands : R → List ℕ → Type 0) (taken_by : R → ℕ) (old mid new : R) (piece left : List ℕ) (used more : ℕ) → Walked stands taken_by old mid piece used → left ≡ drop used piece
    → more ≤ length left → taken_by new ≡ taken_by mid + more → ((front : List ℕ) → stands mid front → stands new (front ++ take more left)) → Walked stands taken_by old new piece (used + more)
Walked-next stands taken_by old mid new piece left used more h is fits took goes = record {
  fits = omega (arith, fits, ap length is, length-drop used piece, h.fits);
  started = (h.started.0 ++ take more left, goes h.started.0 h.started.1);
  stood = λ bytes s. subst (stands new) (two-parts bytes piece left used more is) (goes (bytes ++ take used piece) (h.stood bytes s));
  taken = omega (arith, took, h.taken);
}

-- no bytes are the front of each header
pub IsCut-nil : IsCut []
unfolding header_answer ending
IsCut-nil = refl

-- bytes that are the front of a header are no whole one, so more are needed
pub some_used : (bytes piece : List ℕ) (used : ℕ) (header : Header) → IsCut bytes → header_answer (bytes ++ take used piece) ≡ Ok (header, []) → 0 < used
some_used bytes piece used header cut whole = search (rules, arith, append-nil)

pub piece-length : (buffer : List ℕ) (used len : ℕ) → used ≤ len → len ≤ length buffer → length (slice_range buffer used len) ≡ len - used
piece-length buffer used len order within = search (rules, arith, length-drop, length-take-le)

-- fewer bytes than a buffer has stand after a header that ends in it
pub few_behind : (buffer : List ℕ) (used len size : ℕ) → length buffer ≡ size → 0 < used
    → used ≤ len → len ≤ length buffer → length (slice_range buffer used len) < size
few_behind buffer used len size whole some order within = omega (arith, piece-length buffer used len order within)

-- the bytes taken are a header with these bytes after it, whatever comes next
pub record ShowsHeader (taken : List ℕ) (header : Header) (behind : List ℕ) : Type 0 where
  pub is : (more : List ℕ) → header_answer (taken ++ more) ≡ Ok (header, behind ++ more)

-- No more is taken than one read after bytes that call for no end by themselves.

pub few-none : (goes_on : List ℕ → Type 0) (front : List ℕ) (before after : Given) → Consumes before after front → goes_on front → TakesFew goes_on before after
few-none goes_on front before after took goes = search (rules, arith, append-nil)

pub few-piece : (goes_on : List ℕ → Type 0) (front : List ℕ) (len : ℕ) (into : List ℕ) (before mid after : Given) → Consumes before mid front
    → GivesCount mid after len into → goes_on front → length into ≤ piece_limit → TakesFew goes_on before after
few-piece goes_on front len into before mid after took gives goes size = record { front = front; last = take len into; consumes = Consumes-trans before mid after front (take len into) took gives.0; goes = goes; few = let e = length-take len into in omega (arith, e, size) }

pub few-map : (p q : List ℕ → Type 0) (before after : Given) → ((l : List ℕ) → p l → q l) → TakesFew p before after → TakesFew q before after
few-map p q before after f h = record { front = h.front; last = h.last; consumes = h.consumes; goes = f h.front h.goes; few = h.few }

-- Where an end is not from outside, no read has failed.
none-unread : {A : Type 0} (P : Type 0) (r : Result A Fault) → IfErr r (λ fault. is_outside fault ≡ false) → IfErr r (λ fault. is_outside fault ≡ true → P)
none-unread P (Ok value) inside = tt
none-unread P (Err fault) inside = search (rules, arith)

-- a read failed
pub stops-unread : {A : Type 0} (goes_on : List ℕ → Type 0) (front : List ℕ) (before after : Given) (fault : Fault) → Consumes before after front
    → goes_on front → SaysNoEnd before after → StopsSoon {A = A} goes_on before after (Err fault)
stops-unread goes_on front before after fault took goes on = search (rules, arith, few-none)

-- a piece was read after bytes that go on so, and it ended the work
pub stops-piece : {A : Type 0} (goes_on : List ℕ → Type 0) (front : List ℕ) (len : ℕ) (into : List ℕ) (before mid after : Given) (r : Result A Fault)
    → Consumes before mid front → GivesCount mid after len into → goes_on front → length into ≤ piece_limit
    → IfErr r (λ fault. is_outside fault ≡ false) → IfOk r (λ value. SaysNoEnd before after) → StopsSoon goes_on before after r
stops-piece goes_on front len into before mid after r took gives goes size inside on = record { unread = none-unread _ r inside; done = on; few = few-piece goes_on front len into before mid after took gives goes size }
