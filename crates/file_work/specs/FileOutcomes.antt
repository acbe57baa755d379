-- What `count`, `header` and `events` do with the bytes of FILE, and what they end with where nothing outside fails.
use Rattle.std.specs.{Prelude.{ℕ, List, [], ◌++◌, length, nat_lt, codes, decimal, None, Some, Result, Ok, Err, if◌then◌else◌}, declared.option.Option.Option}
use Rattle.tally_base.specs.declared.{fault.Fault.{Fault, TheVariants.RecordLimit}, header.Header.Header, event.{Policy.Policy, Order.TheVariants.Drop, OnReserved.TheVariants.Skip}}
use Rattle.{tally_base.specs.{RecordTypes.name_of, Faults.fault_in}, ptu_definitions.specs.{declared.records.KindCounts.KindCounts, Headers.header_answer, Words.{counted, record_limit, words_of}}}
use Rattle.{ptu_definitions.specs.Streams.{StreamSettings, reading, record_refusal, streamed}, list_out.specs.{Lines.{lines_of, line, announced}, HeaderText.header_text}}
use Rattle.command_work.specs.{Outcomes.{Outcome, refused, written, IsCut}, Behaviours.{Work, AreWhole, AreRead, IsHeaded}, RecordsWork.{RecordsWork, headed_work, headed_so_far}}

-- what `count` prints
unfoldable pub counts_text : Header → KindCounts → List ℕ
counts_text header counts =
    line (codes "type") (name_of header.record_type)
    ++ line (codes "announced") (announced header.count)
    ++ line (codes "records") (decimal counts.records)
    ++ line (codes "photons") (decimal counts.photons)
    ++ line (codes "markers") (decimal counts.markers)
    ++ line (codes "wraps") (decimal counts.wraps)
    ++ line (codes "reserved") (decimal counts.reserved)

-- what the records after a header end with, by their counts
abbrev pub counted_end : Header → Result KindCounts Fault → Outcome
counted_end header (Ok counts) = written (counts_text header counts)
counted_end header (Err fault) = refused fault

-- the fault of too many records
abbrev pub too_many : List ℕ → Option Fault
too_many bytes = if nat_lt record_limit (length (words_of bytes)) then Some (RecordLimit record_limit) else None

-- the counts of the records, at their end
abbrev pub counts : Header → RecordsWork
counts header = record {
  text = λ bytes. [];
  ends = λ bytes. counted_end header (counted header.record_type bytes);
  refuses = too_many;
}

-- A header is printed as far as it goes.
abbrev pub header_outcome : List ℕ → Outcome
header_outcome file = record { text = header_text file; fault = fault_in (header_answer file) }

-- late events are marked where they stand, and reserved records are left out
abbrev pub listing_policy : Policy
listing_policy = record { order = Drop; reserved = Skip; records = record_limit; settle = 0 }

abbrev pub listing : Header → StreamSettings
listing header = reading header.record_type listing_policy

-- the lines of the events, and the fault of the records
abbrev pub listed : StreamSettings → List ℕ → Outcome
listed how bytes = record { text = lines_of how (words_of bytes); fault = fault_in (streamed how bytes) }

-- the lines of events, as they are read
abbrev pub lists : StreamSettings → RecordsWork
lists how = record {
  text = λ bytes. lines_of how (words_of bytes);
  ends = listed how;
  refuses = λ bytes. record_refusal how (words_of bytes);
}

-- those of a file with this header
abbrev pub lists_by : Header → RecordsWork
lists_by header = lists (listing header)

-- ## What they do

abbrev pub counting : Work
counting = headed_work counts (IsHeaded (λ header behind. AreWhole behind))

abbrev pub printing : Work
printing = record {
  outcome = header_outcome;
  goes_on = IsCut;
  good = IsHeaded (λ header behind. Unit {0});
}

-- the lines of the events of these bytes
abbrev pub events_so_far : List ℕ → List ℕ
events_so_far = headed_so_far lists_by

abbrev pub listing_all : Work
listing_all = headed_work lists_by (IsHeaded (λ header behind. AreRead (listing header) behind))
