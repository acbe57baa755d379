-- What is made of bytes that are refused or not, what opening writes, and streams that refuse nothing.
use Rattle.std.proofs.Common.{◌≡◌, ◌∙◌, ℕ, List, [], None, Some, Ok, Err, refl, sym, ap, inl, inr, length, arith, false, Result, rules, ◌≢◌, ◌+◌, ◌<◌, OnOk}
use Rattle.{std.specs.declared.option.Option.Option, tally_base.specs.declared.{fault.Fault.{Fault, TheVariants.WriteFault}, header.Header.Header}}
use Rattle.{tally_base.specs.{Faults.{is_outside, fault_in}, RecordTypes.mode_of}, bench_io.specs.Sinks.{SinkState, Wrote, WroteShort}}
use Rattle.{bench_io.proofs.{Bytes.WroteShort-none, Texts.WroteText-none}, command_work.specs.{Outcomes.Outcome, Behaviours.{piece_limit, AtEnd, AsItReads}}}
use Rattle.command_work.specs.{Endings.Cuts, Works.WantsNone, RecordsWork.{RecordsWork, RefusalStays, IsText, Opens, unless_declined, if_suited, headed_end}}
use Rattle.command_work.{specs.RecordsWork.{headed_text, headed_work, headed_so_far, IsAllOrNothing, Suits}, proofs.PlanTold.misfit-inside}
use Rattle.{plan_text.{specs.{Plan.PlanView, Fits.fits}, proofs.Misfits.misfit_named}, ptu_definitions.specs.{Headers.header_answer, Streams.StreamSettings}}
use Rattle.{ptu_definitions.specs.Streams.{record_refusal, refusals}, record_stream.specs.{declared.stream.RecordStream.RecordStream, Standing.refused_with}}
use Rattle.record_stream.specs.{Standing.bytes_in, Pieces.StaysOpen}

-- What is made of bytes that are refused or not.

abbrev pub end_with : List ℕ → Option Fault → Outcome
end_with text fault = record { text = text; fault = fault }

pub same-end : (end : Outcome) (text : List ℕ) (fault : Option Fault) → end.text ≡ text → end.fault ≡ fault → end ≡ end_with text fault
same-end end text fault p q = ap (λ l. end_with l end.fault) p ∙ ap (λ f. end_with text f) q

pub declined-law : (declined : Option Fault) (t : RecordsWork)
    → ((fault : Fault) → declined ≡ Some fault → is_outside fault ≡ false) → IsText t → IsText (unless_declined declined t)
declined-law None t inside is = is
declined-law (Some why) t inside is = search (rules, arith, end_with)

err-from : (r : Result (Unit {0}) Fault) (fault : Fault) → fault_in r ≡ Some fault → r ≡ Err fault
err-from r fault h = search (rules, arith)

-- where a plan's parts suit a file
pub suited-law : (plan : PlanView) (tells : Header → RecordsWork) → ((header : Header) → IsText (tells header)) → (header : Header) → IsText (if_suited plan tells header)
suited-law plan tells is header =
    let mode = mode_of header.record_type in
    declined-law _ (tells header) (λ fault h. misfit-inside mode plan fault (misfit_named mode plan fault (err-from (fits mode plan) fault h))) (is header)

-- ## The work on a file with a header

-- a header that is declined, and else what is made of the bytes after it
pub declined-stays : (declined : Option Fault) (t : RecordsWork) → RefusalStays t → RefusalStays (unless_declined declined t)
declined-stays None t stays = stays
declined-stays (Some why) t stays = λ bytes more fault is. ap (end_with []) is

pub declined-late : (declined : Option Fault) (t : RecordsWork) (bytes : List ℕ) → (t.text bytes ≡ []) × IsAllOrNothing (t.ends bytes)
    → ((unless_declined declined t).text bytes ≡ []) × IsAllOrNothing ((unless_declined declined t).ends bytes)
declined-late None t bytes late = late
declined-late (Some why) t bytes late = (refl, inl refl)

cuts-late : (end : Outcome) (old new : SinkState) → IsAllOrNothing end → WroteShort old new end.text → Cuts {A = List ℕ → List ℕ} AtEnd end old new
cuts-late end old new (inl empty) short = absurd (WroteShort-none old new (rw empty at short))
cuts-late end old new (inr none) short = (none, short)

module _ (tells : Header → RecordsWork) (good : List ℕ → Type 0) (is : (header : Header) → IsText (tells header)) where
  -- where the text is written as it reads
  pub suits-as_it_reads : Suits (headed_work tells good) (AsItReads (headed_so_far tells)) WantsNone tells (λ header. ⊥)
  suits-as_it_reads = record {
    ends = λ bytes. refl;
    text = λ bytes. refl;
    cuts = λ bytes old new short. short;
    goes = λ bytes goes. goes;
    wanting = λ bytes behind header answer wants few. wants;
    is = is;
  }

  -- where it is written at the end, and only at a good one
  pub suits-at_end : (memory : List ℕ → Type 0) (wants : Header → Type 0)
      → ((header : Header) (bytes : List ℕ) → ((tells header).text bytes ≡ []) × IsAllOrNothing ((tells header).ends bytes))
      → ((bytes behind : List ℕ) (header : Header) → header_answer bytes ≡ Ok (header, behind) → wants header → length behind < piece_limit → memory bytes)
      → Suits (headed_work tells good) AtEnd memory tells wants
  suits-at_end memory wants late wanting = record {
    ends = λ bytes. refl;
    text = λ bytes. (by (header_answer bytes)).0;
    cuts = λ bytes old new. cuts-late (headed_end tells (header_answer bytes)) old new (by (header_answer bytes)).1;
    goes = λ bytes goes. goes;
    wanting = wanting;
    is = is;
  }
    where
      by : (answer : Result (Header × List ℕ) Fault) → ([] ≡ headed_text tells answer) × IsAllOrNothing (headed_end tells answer)
      by (Ok it) = let it_is = late it.0 it.1 in (sym it_is.0, it_is.1)
      by (Err fault) = (refl, inl refl)

-- ## What opening wrote

module _ (X : Type 0) (t : RecordsWork) (wants : Type 0) (old new : SinkState) where
  -- a part that doesn't suit
  pub opens-misfit : (fit : Result (Unit {0}) Fault) (fault : Fault) → fit ≡ Err fault
      → Opens {X = X} (unless_declined (fault_in fit) t) wants old old (Err fault)
  opens-misfit fit fault is = rw is (inl (inl (refl, WroteText-none [] old)))

  -- the text of no byte was written
  pub opens-wrote : (x : X) (head : List ℕ) → t.text [] ≡ head → t.refuses [] ≡ None
      → Wrote old new head → Opens t wants old new (Ok x)
  opens-wrote x head is none wrote = (none, record { more = head; adds = is; wrote = wrote })

  -- or was cut short
  pub opens-cut : (fault : Fault) (head : List ℕ) → t.text [] ≡ head → fault ≡ WriteFault
      → WroteShort old new head → Opens {X = X} t wants old new (Err fault)
  opens-cut fault head is write short = inl (inr (write, record { more = head; adds = is; cut = short }))

-- Streams of records that have refused nothing.

pub not_written : (refused : Option Fault) → refused ≡ None → refused ≢ Some WriteFault
not_written refused none = search (rules, arith)

-- a stream that refused nothing took the whole piece
pub stays-open : {A : Type 0} (old new : RecordStream) (piece : List ℕ) (r : Result A Fault)
    → refused_with new ≡ fault_in r → OnOk r (bytes_in new ≡ bytes_in old + length piece) → OnOk r (StaysOpen old new piece)
stays-open old new piece r refused counted = search (rules, arith)

-- no words are refused
pub refused-none : (how : StreamSettings) → record_refusal how [] ≡ None
unfolding refusals
refused-none how = refl
