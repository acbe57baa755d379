-- What a command makes of the bytes after a header.
use Rattle.std.specs.{Prelude.{ℕ, ◌≡◌, ◌⊎◌, ◌<◌, List, [], ◌++◌, length, false, None, Some, Result, Ok, Err}, declared.option.Option.Option}
use Rattle.{tally_base.specs.{declared.{fault.Fault.{Fault, TheVariants.OutOfMemory}, header.Header.Header}, Faults.{is_outside, fault_in}, RecordTypes.mode_of}, bench_io.specs.Sinks.SinkState}
use Rattle.{bench_io.specs.{Sinks.{WroteNone, WroteShort}, Texts.WritesText}, ptu_definitions.specs.Headers.header_answer, plan_text.specs.{Plan.PlanView, Fits.fits}}
use Rattle.command_work.specs.{Outcomes.{Outcome, refused, MayChange}, Behaviours.{piece_limit, Work, Writing, so_far}, Endings.Cuts}

-- the text of bytes while more may come, what they end with if they are all, and why they are refused
pub record RecordsWork : Type 0 where
  pub text : List ℕ → List ℕ
  pub ends : List ℕ → Outcome
  pub refuses : List ℕ → Option Fault

-- A refusal of bytes is the end of all that begin with them.
abbrev pub RefusalStays : RecordsWork → Type 0
RefusalStays t = (bytes more : List ℕ) (fault : Fault) → t.refuses bytes ≡ Some fault → t.ends (bytes ++ more) ≡ record { text = t.text bytes; fault = Some fault }

-- The end of bytes that are refused stays, the text of bytes is in front of what they end with, with more of them, and no refusal is from outside.
pub record IsText (t : RecordsWork) : Type 0 where
  pub refused : RefusalStays t
  pub front : (bytes more : List ℕ) → (tail : List ℕ) × ((t.ends (bytes ++ more)).text ≡ t.text bytes ++ tail)
  pub inside : (bytes : List ℕ) (fault : Fault) → t.refuses bytes ≡ Some fault → is_outside fault ≡ false
  pub end_inside : (bytes : List ℕ) (fault : Fault) → (t.ends bytes).fault ≡ Some fault → is_outside fault ≡ false

-- what a piece after these bytes wrote, by the answer
abbrev pub WritesPiece : RecordsWork → List ℕ → List ℕ → SinkState → SinkState → Result (Unit {0}) Fault → Type 0
WritesPiece t bytes piece old new result = WritesText (t.text bytes) (t.text (bytes ++ piece)) (t.refuses (bytes ++ piece)) old new result

-- what the end of these bytes wrote after their text, by the answer
abbrev pub WritesEnd : RecordsWork → List ℕ → SinkState → SinkState → Result (Unit {0}) Fault → Type 0
WritesEnd t bytes old new result = WritesText (t.text bytes) (t.ends bytes).text (t.ends bytes).fault old new result

-- what opening wrote, by the answer: the text of no byte; where memory was refused nothing is written
abbrev pub Opens : {X : Type 0} → RecordsWork → Type 0 → SinkState → SinkState → Result X Fault → Type 0
Opens t wants old new (Ok x) = WritesText [] (t.text []) (t.refuses []) old new (Ok x)
Opens t wants old new (Err fault) = WritesText {X = Unit {0}} [] (t.text []) (t.refuses []) old new (Err fault) ⊎ ((fault ≡ OutOfMemory) × wants × WroteNone old new)

-- what is made of bytes whose header is refused or not
abbrev pub unless_declined : Option Fault → RecordsWork → RecordsWork
unless_declined None t = t
unless_declined (Some fault) t = record {
  text = λ bytes. [];
  ends = λ bytes. refused fault;
  refuses = λ bytes. Some fault;
}

-- the same of a header that each part of a plan suits, and else the refusal for the first that doesn't
abbrev pub if_suited : PlanView → (Header → RecordsWork) → Header → RecordsWork
if_suited plan tells header = unless_declined (fault_in (fits (mode_of header.record_type) plan)) (tells header)

-- ## A header, and the bytes after it

-- what they end with
abbrev pub headed_end : (Header → RecordsWork) → Result (Header × List ℕ) Fault → Outcome
headed_end tells (Ok found) = (tells found.0).ends found.1
headed_end tells (Err fault) = refused fault

-- what is written of them while more may come
abbrev pub headed_text : (Header → RecordsWork) → Result (Header × List ℕ) Fault → List ℕ
headed_text tells (Ok found) = (tells found.0).text found.1
headed_text tells (Err fault) = []

-- They are not refused.
abbrev pub HeadedGoes : (Header → RecordsWork) → Result (Header × List ℕ) Fault → Type 0
HeadedGoes tells (Ok found) = (tells found.0).refuses found.1 ≡ None
HeadedGoes tells (Err fault) = MayChange (Some fault)

-- the work on a file that makes this of the bytes after its header, where these files are good ones
abbrev pub headed_work : (Header → RecordsWork) → (List ℕ → Type 0) → Work
headed_work tells good = record {
  outcome = λ bytes. headed_end tells (header_answer bytes);
  goes_on = λ bytes. HeadedGoes tells (header_answer bytes);
  good = good;
}

-- what is written of a file while more may come
abbrev pub headed_so_far : (Header → RecordsWork) → List ℕ → List ℕ
headed_so_far tells bytes = headed_text tells (header_answer bytes)

-- A text is written whole, or nothing of it where there is a fault.
abbrev pub IsAllOrNothing : Outcome → Type 0
IsAllOrNothing end = (end.text ≡ []) ⊎ (end.fault ≡ None)

-- This work on a file is what is made of the bytes after its header.
pub record Suits (work : Work) (writing : Writing (List ℕ → List ℕ)) (memory : List ℕ → Type 0) (tells : Header → RecordsWork) (wants : Header → Type 0) : Type 0 where
  pub ends : (bytes : List ℕ) → work.outcome bytes ≡ headed_end tells (header_answer bytes)
  pub text : (bytes : List ℕ) → so_far writing bytes ≡ headed_text tells (header_answer bytes)
  pub cuts : (bytes : List ℕ) (old new : SinkState) → WroteShort old new (work.outcome bytes).text → Cuts writing (work.outcome bytes) old new
  pub goes : (bytes : List ℕ) → HeadedGoes tells (header_answer bytes) → work.goes_on bytes
  pub wanting : (bytes behind : List ℕ) (header : Header) → header_answer bytes ≡ Ok (header, behind) → wants header → length behind < piece_limit → memory bytes
  pub is : (header : Header) → IsText (tells header)
