-- What a stream of records gives: its refusal, its events and its summary.
use Rattle.std.specs.Prelude.{ℕ, ◌+◌, ◌&&◌, ◌==◌, nat_le, List, [], ◌∷◌, ◌++◌, length, count_by, map, None, Some, Result, Ok, Err, if◌then◌else◌, ◌≡◌, ◌<◌, take, get_or}
use Rattle.std.specs.declared.option.Option.{Option}
use Rattle.tally_base.specs.declared.{event.{Event.Event, Policy.Policy}, fault.Fault.{Fault, TheVariants.{TruncatedRecord, RecordLimit, ReservedRecord, BackwardTime, TimeLimit}}, header.Mode.Mode}
use Rattle.{tally_base.specs.{declared.header.RecordType.RecordType, RecordTypes.mode_of, Events.{stops_late, stops_reserved}}, ptu_definitions.specs.declared.records.{Summary.Summary, Raw.Raw}}
use Rattle.ptu_definitions.specs.{Kinds.{is_photon, is_marker, is_wrap, is_reserved}, Layouts.meaning_of, Prefixes.{each, listed, first, last}, Times.{event_after, events, passes}, Kept.Marked}
use Rattle.ptu_definitions.specs.{Kept.greatest, Settled.{is_late_by, late_by, kept_by, delivered, delivered_last}, Words.{words_of, rest_of}}

-- how words are read
pub record StreamSettings : Type 0 where
  pub mode : Mode
  pub meaning : ℕ → Raw
  pub policy : Policy

-- how the words of a file of this type are read
abbrev pub reading : RecordType → Policy → StreamSettings
reading record_type policy = record { mode = mode_of record_type; meaning = meaning_of record_type; policy = policy }

-- the late event that is refused, among the events of one record
abbrev pub late_refusal : ℕ → Mode → List Event → List Event → Option Fault
late_refusal k mode before [] = None
late_refusal k mode before (e ∷ es) = if is_late_by k mode before e then Some (BackwardTime e.place e.time (greatest mode before)) else None

-- why a record is refused after these records, by the first cause that stands
abbrev pub refusal_in : StreamSettings → List Raw → Raw → ℕ → Option Fault
refusal_in how before raw word =
    if nat_le how.policy.records (length before) then Some (RecordLimit how.policy.records)
    else if is_reserved raw && stops_reserved how.policy.reserved then Some (ReservedRecord (length before + 1) word)
    else if passes before raw then Some (TimeLimit (length before + 1))
    else if stops_late how.policy.order then late_refusal how.policy.settle how.mode (events before) (event_after before raw)
    else None

-- Why the word after these is refused, or None where it is not.
unfoldable pub refusal : StreamSettings → List ℕ → ℕ → Option Fault
refusal how before word = refusal_in how (map how.meaning before) (how.meaning word) word

-- The refusals of all words, in order: the first is the stream's.
unfoldable pub refusals : StreamSettings → List ℕ → List Fault
refusals how words = each (λ before word. listed (refusal how before word)) words

-- Why a stream of these words is refused, or None where it is not.
abbrev pub record_refusal : StreamSettings → List ℕ → Option Fault
record_refusal how words = first (refusals how words)

-- the words before the first that is refused
abbrev pub unless_refused : ℕ → List ℕ → Option Fault → List ℕ
unless_refused word more None = word ∷ more
unless_refused word more (Some fault) = []

abbrev pub unrefused_after : StreamSettings → List ℕ → List ℕ → List ℕ
unrefused_after how before [] = []
unrefused_after how before (word ∷ more) = unless_refused word (unrefused_after how (before ++ word ∷ []) more) (refusal how before word)

-- What is delivered after these words: the late events, marked, and of the others those that are settled.
abbrev pub events_in : StreamSettings → List ℕ → Marked
events_in how words = delivered how.policy.settle how.mode (events (map how.meaning words))

-- what is delivered at their end
abbrev pub last_in : StreamSettings → List ℕ → Marked
last_in how words = delivered_last how.policy.settle how.mode (events (map how.meaning words))

-- What a taker is given: the events delivered before the first refusal, each with its mark.
unfoldable pub given : StreamSettings → List ℕ → Marked
given how words = events_in how (unrefused_after how [] words)

abbrev pub time_of : Option Event → Option ℕ
time_of None = None
time_of (Some e) = Some e.time

-- the summary of these records and their events
abbrev pub summary_of : ℕ → Mode → List Raw → List Event → Summary
summary_of k mode records es = record {
  records = length records;
  photons = count_by is_photon records;
  markers = count_by is_marker records;
  wraps = count_by is_wrap records;
  reserved = count_by is_reserved records;
  late = length (late_by k mode es);
  first = time_of (first (kept_by k mode es));
  last = time_of (last (kept_by k mode es));
}

unfoldable pub summary : StreamSettings → List ℕ → Summary
summary how words = summary_of how.policy.settle how.mode (map how.meaning words) (events (map how.meaning words))

abbrev pub or_refusal : Option Fault → Result Summary Fault → Result Summary Fault
or_refusal None answer = answer
or_refusal (Some fault) answer = Err fault

-- what the bytes after a header answer
unfoldable pub streamed : StreamSettings → List ℕ → Result Summary Fault
streamed how bytes =
    or_refusal (record_refusal how (words_of bytes))
    (if length (rest_of bytes) == 0 then Ok (summary how (words_of bytes)) else Err (TruncatedRecord (length (rest_of bytes))))

-- The least record that is refused.

-- Some words are refused so, and none of those before the first of these.
pub record IsFirst (how : StreamSettings) (fault : Fault) (before words : List ℕ) : Type 0 where
  pub front : List ℕ
  pub word : ℕ
  pub more : List ℕ
  pub parts : words ≡ front ++ word ∷ more
  pub refused : refusal how (before ++ front) word ≡ Some fault
  pub unrefused : (k : ℕ) (d : ℕ) → k < length front → refusal how (before ++ take k front) (get_or front k d) ≡ None
