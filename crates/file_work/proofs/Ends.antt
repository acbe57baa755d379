-- How printing the header of a file ends.
use Rattle.std.proofs.Common.{◌≡◌, ℕ, List, [], ◌++◌, None, Some, refl, sym, ap, Ok, Err, ◌<◌, ◌==◌, Bool, length, arith, ◌∙◌, inl, inr, length-append, Result}
use Rattle.std.{proofs.{Common.{if◌then◌else◌, rules, ◌≤◌, ◌↔◌, OnOk, OnErr, IfErr, IsErr, ◌∷◌}, lemmas.Bool.cases_lt}, specs.declared.option.Option.Option}
use Rattle.tally_base.specs.declared.{fault.Fault.{Fault, TheVariants.{RecordLimit, WriteFault}}, header.{Header.Header, Mode.Mode, RecordType.RecordType}}
use Rattle.{tally_base.specs.Faults.fault_in, bench_io.{specs.Sinks.{SinkState, Wrote, WroteShort}, proofs.Bytes.{Wrote-trans, Wrote-same, WroteShort-same}}}
use Rattle.{bench_io.proofs.{Bytes.{WroteShort-behind, WroteShort-more}, Texts.WroteText-none}, ptu_definitions.specs.Headers.{header_answer, Shows, seen}}
use Rattle.ptu_definitions.specs.{declared.records.{Summary.Summary, KindCounts.KindCounts}, Words.{words_of, counted, record_limit}, Kept.{Marked, marked}}
use Rattle.ptu_definitions.specs.{Prefixes.each, Settled.{ordered, settles, delivered}, Times.events, Streams.{StreamSettings, given, streamed}, TagList.Item}
use Rattle.{record_stream.{proofs.Rests.none-is, specs.{declared.taker.EventTaker.Ghosts, Ending.Ended}}, list_out.specs.HeaderText.header_text}
use Rattle.list_out.{specs.Lines.{events_text, lines_of}, proofs.Final.{header_text-grows, header_text-refused, header_text-done}}
use Rattle.file_work.specs.{FileOutcomes.{header_outcome, counts_text, counted_end, counts, lists}, BodyPieces.{AppendsHeader, CutsHeader}}
use Rattle.{file_work.specs.{CountPieces.CountsBytes, CountLaws.counts-clear}, command_work.specs.RecordsWork.{WritesEnd, WritesPiece}}
use Rattle.record_layout.specs.{declared.counter.Counter.Counter, Counting.HasCounted}

pub outcome-at : (file text : List ℕ) (fault : Option Fault) → header_text file ≡ text
    → fault_in (header_answer file) ≡ fault → header_outcome file ≡ record { text = text; fault = fault }
outcome-at file text fault t f = rw (t, f) refl

-- the text so far and that of a piece
pub text-appended : (bytes piece : List ℕ) (a b c : SinkState) → Wrote a b (header_text bytes)
    → AppendsHeader bytes piece b c → Wrote a c (header_text (bytes ++ piece))
text-appended bytes piece a b c p q = Wrote-same a c _ _ (sym q.adds) (Wrote-trans a b c (header_text bytes) q.more p q.wrote)

pub text-cut : (bytes piece more : List ℕ) (a b c : SinkState) → Wrote a b (header_text bytes)
    → CutsHeader bytes piece b c [] → WroteShort a c (header_text ((bytes ++ piece) ++ more))
text-cut bytes piece more a b c p q =
    let behind = header_text-grows (bytes ++ piece) more in
    WroteShort-same a c _ _ (sym behind.1) (WroteShort-more a c (header_text (bytes ++ piece)) behind.0
    (WroteShort-same a c _ _ (sym q.adds) (WroteShort-behind a b c (header_text bytes) q.more p q.cut)))

pub outcome-done : (bytes more behind : List ℕ) (header : Header) → ((more : List ℕ) → header_answer (bytes ++ more) ≡ Ok (header, behind ++ more))
    → header_outcome (bytes ++ more) ≡ record { text = header_text bytes; fault = None }
outcome-done bytes more behind header h =
    outcome-at (bytes ++ more) (header_text bytes) None (header_text-done bytes more header behind h) (ap fault_in (h more))

pub outcome-refused : (bytes more : List ℕ) (fault : Fault) → Shows header_answer bytes (Err fault)
    → header_outcome (bytes ++ more) ≡ record { text = header_text bytes; fault = Some fault }
outcome-refused bytes more fault h = outcome-at (bytes ++ more) (header_text bytes) (Some fault) (header_text-refused bytes more fault h) (ap fault_in (h more))

-- The end of a stream that keeps nothing back.

none-broken : (front back : Marked) → 0 < length front → [] ≡ front ++ back → ⊥
none-broken front back some adds = omega (arith, some, ap length adds, length-append front back)

pub ended-plain : {T : Type 0} (g : Ghosts T) (how : StreamSettings) (old new : T) (bytes : List ℕ) (r : Result Summary Fault)
    → how.policy.settle ≡ 0 → Ended g how old new bytes r → r ≡ streamed how bytes
ended-plain g how old new bytes (Ok summary) zero e = sym e.streams
ended-plain g how old new bytes (Err fault) zero (inl e) = sym e.0
ended-plain g how old new bytes (Err fault) zero (inr e) =
    absurd (none-broken e.1.front e.1.back e.1.some (sym (none-is how (words_of bytes) zero) ∙ e.1.adds))

-- its answer, where no line is left to write
pub ends-listed : (how : StreamSettings) (bytes : List ℕ) (a : SinkState) (r : Result Summary Fault) (done : Result (Unit {0}) Fault) → r ≡ streamed how bytes → fault_in done ≡ fault_in r → WritesEnd (lists how) bytes a a done
ends-listed how bytes a r done is same = search (rules, arith)

-- ## No bytes

none-delivered : (zero : Bool) (k : ℕ) (mode : Mode) → (if zero then marked mode [] else each (settles k) (ordered mode [])) ≡ []
unfolding marked
none-delivered zero k mode = search (rules, arith)

pub lines_of-none : (how : StreamSettings) → lines_of how [] ≡ []
unfolding given events delivered
lines_of-none how = ap events_text (none-delivered (how.policy.settle == 0) how.policy.settle how.mode)

-- Counting a piece, and the end of the counts.

-- records that were not refused aren't too many
within_limit : (bytes : List ℕ) → (IsErr {T = Unit {0}} {E = Fault} (Ok tt) ↔ (record_limit < length (words_of bytes))) → length (words_of bytes) ≤ record_limit
within_limit bytes limit = elim (cases_lt record_limit (length (words_of bytes))) [ inr within ↦ within | inl many ↦ let bad = limit.1 many in cc ]

pub writes-piece : (header : Header) (bytes piece : List ℕ) (a : SinkState) (r : Result (Unit {0}) Fault) → (IsErr r ↔ (record_limit < length (words_of (bytes ++ piece)))) → IfErr r (λ fault. fault ≡ RecordLimit record_limit) → WritesPiece (counts header) bytes piece a a r
writes-piece header bytes piece a (Ok done) limit fault =
    (counts-clear (bytes ++ piece) (within_limit (bytes ++ piece) limit), WroteText-none [] a)
writes-piece header bytes piece a (Err own) limit fault = search (rules, arith)

pub takes-piece : (old new : Counter) (record_type : RecordType) (piece : List ℕ) (r : Result (Unit {0}) Fault)
    → ((record_type : RecordType) (bytes : List ℕ) → HasCounted old record_type bytes → HasCounted new record_type (bytes ++ piece))
    → ((record_type : RecordType) (bytes : List ℕ) → HasCounted old record_type bytes → (IsErr r ↔ (record_limit < length (words_of (bytes ++ piece))))) → OnOk r ((bytes : List ℕ) → CountsBytes old record_type bytes → CountsBytes new record_type (bytes ++ piece))
takes-piece old new record_type piece r taken limit = search (rules, arith, within_limit)

-- ## The end

module _ (header : Header) (bytes : List ℕ) where
  ends-is : (r : Result KindCounts Fault) → r ≡ counted header.record_type bytes → (counts header).ends bytes ≡ counted_end header r
  ends-is r is = ap (counted_end header) (sym is)

  pub ends-refused : (fault : Fault) (a : SinkState)
      → Err fault ≡ counted header.record_type bytes → WritesEnd (counts header) bytes a a (Err fault)
  ends-refused fault a is = rw (ends-is (Err fault) is) (inl (refl, WroteText-none [] a))

  pub ends-written : (kinds : KindCounts) (r : Result (Unit {0}) Fault) (old new : SinkState) → Ok kinds ≡ counted header.record_type bytes
      → OnOk r (Wrote old new (counts_text header kinds)) → OnErr r (WroteShort old new (counts_text header kinds)) → IfErr r (λ fault. fault ≡ WriteFault)
      → WritesEnd (counts header) bytes old new r
  ends-written kinds r old new is text short write = search (rules, arith, ends-is)

-- What a printer stands for.

-- no list that ends in an item is empty
pub no_items : {A : Type 0} (items : List Item) (item : Item) → items ++ item ∷ [] ≡ [] → A
no_items [] item e = cc
no_items (x ∷ xs) item e = cc

pub seen-nil : seen [] ≡ []
unfolding seen
seen-nil = refl

-- the last item of a list
pub last_item : (xs ys : List Item) (x y : Item) → xs ++ x ∷ [] ≡ ys ++ y ∷ [] → x ≡ y
last_item [] [] x y e = cc
last_item [] (b ∷ ys) x y e = no_items ys y (let tail : [] ≡ ys ++ y ∷ [] = cc in sym tail)
last_item (a ∷ xs) [] x y e = no_items xs x (let tail : xs ++ x ∷ [] ≡ [] = cc in tail)
last_item (a ∷ xs) (b ∷ ys) x y e = last_item xs ys x y (let tail : xs ++ x ∷ [] ≡ ys ++ y ∷ [] = cc in tail)
