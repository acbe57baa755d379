-- What all bytes after a header write of the photons that are chosen.
use Rattle.std.specs.{Prelude.{ℕ, ◌≡◌, Bool, List, [], map, Result, Ok, Err}, List.filter, declared.option.Option.Option}
use Rattle.{tally_base.specs.{declared.{event.Event.Event, fault.Fault.Fault, header.Mode.Mode}, Faults.fault_in}, ptu_definitions.specs.{declared.records.Summary.Summary, Prefixes.first}}
use Rattle.{ptu_definitions.specs.{Settled.kept_by, Streams.{StreamSettings, streamed}, Times.events, Words.words_of}, bench_io.specs.{Sinks.SinkState, Texts.WritesText}}
use Rattle.{minimal_file.specs.ShortFiles.bytes_in, record_write.specs.Picked.{picked_words, CanBePicked}, photon_pick.specs.{Late.{too_late, writable}, Texts.{photons_in, text_in, late_or}}}

-- the photons that are chosen of the kept list
abbrev pub photons_kept : (Event → Bool) → StreamSettings → List ℕ → List Event
photons_kept chooses how words = filter chooses (kept_by how.policy.settle how.mode (events (map how.meaning words)))

-- these where the bytes are read to their end, or else those that are given by the words before the first that is refused, or before a cut record
abbrev pub photons_by : (Event → Bool) → StreamSettings → List ℕ → Result Summary Fault → List Event
photons_by chooses how words (Ok summary) = photons_kept chooses how words
photons_by chooses how words (Err fault) = photons_in chooses how words

abbrev pub photons_of : (Event → Bool) → StreamSettings → List ℕ → List Event
photons_of chooses how bytes = photons_by chooses how (words_of bytes) (streamed how bytes)

-- What is written of them: the bytes of their words, up to the first photon that is too late.
abbrev pub end_text : (Event → Bool) → StreamSettings → List ℕ → List ℕ
end_text chooses how bytes = bytes_in (picked_words how.mode (writable how.mode (photons_of chooses how bytes)))

-- Why the bytes are refused: by the first photon that is too late, or else by their records.
abbrev pub end_fault : (Event → Bool) → StreamSettings → List ℕ → Option Fault
end_fault chooses how bytes = late_or (first (too_late how.mode (photons_of chooses how bytes))) (fault_in (streamed how bytes))

-- What the end of the bytes wrote after what their words wrote while more might come, by the answer.
abbrev pub WritesEnd : (Event → Bool) → StreamSettings → SinkState → SinkState → List ℕ → Result (Unit {0}) Fault → Type 0
WritesEnd chooses how old new bytes result =
    WritesText (text_in chooses how (words_of bytes)) (end_text chooses how bytes) (end_fault chooses how bytes) old new result

-- The photons that are chosen can be written: all of the kept list where none of them is too late, and always those before the first that is, of all bytes after a header and of what words settle while more may come.
pub record CanBeWritten (mode : Mode) (chooses : Event → Bool) (how : StreamSettings) : Type 0 where
  pub kept : (words : List ℕ) → too_late mode (photons_kept chooses how words) ≡ [] → CanBePicked mode (photons_kept chooses how words)
  pub written : (bytes : List ℕ) → CanBePicked mode (writable mode (photons_of chooses how bytes))
  pub settled : (words : List ℕ) → CanBePicked mode (writable mode (photons_in chooses how words))
