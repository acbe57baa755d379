-- What the words of a file write of the photons that are chosen.
use Rattle.std.specs.{Prelude.{ℕ, ◌≡◌, Bool, List, [], None, Some, Result, Ok, Err}, List.filter, declared.option.Option.Option}
use Rattle.{tally_base.specs.declared.{event.Event.Event, fault.Fault.{Fault, TheVariants.PickTime}}, ptu_definitions.specs.{Prefixes.first, Settled.not_marked, Streams.StreamSettings}}
use Rattle.{ptu_definitions.specs.Streams.{record_refusal, given}, minimal_file.specs.ShortFiles.bytes_in, record_write.specs.{declared.picker.Picker.Picker, Picked.picked_words, Picker.HasPicked}}
use Rattle.photon_pick.specs.Late.{too_late, writable}

-- the photons that are chosen of those given by the words before the first that is refused, but for the late ones
abbrev pub photons_in : (Event → Bool) → StreamSettings → List ℕ → List Event
photons_in chooses how words = filter chooses (not_marked (given how words))

-- the bytes of their words, up to the first photon that is too late
abbrev pub text_in : (Event → Bool) → StreamSettings → List ℕ → List ℕ
text_in chooses how words = bytes_in (picked_words how.mode (writable how.mode (photons_in chooses how words)))

-- the fault of the first photon that is too late, or else another
abbrev pub late_or : Option Event → Option Fault → Option Fault
late_or None other = other
late_or (Some e) other = Some (PickTime e.place)

-- Why words are refused: a photon that is chosen is too late, and stands before a record that is refused; or such a record.
abbrev pub refusal_in : (Event → Bool) → StreamSettings → List ℕ → Option Fault
refusal_in chooses how words = late_or (first (too_late how.mode (photons_in chooses how words))) (record_refusal how words)

-- the answer of a stream, with the fault that its taker met in place of its own
abbrev pub answer_by : {X : Type 0} → Option Fault → Result X Fault → Result (Unit {0}) Fault
answer_by (Some kept) r = Err kept
answer_by None (Ok done) = Ok tt
answer_by None (Err fault) = Err fault

-- The picker has picked the photons of these words, and none of them is too late.
pub record HasPickedIn (chooses : Event → Bool) (how : StreamSettings) (picker : Picker) (words : List ℕ) : Type 0 where
  pub picked : HasPicked picker (photons_in chooses how words)
  pub in_time : too_late how.mode (photons_in chooses how words) ≡ []
