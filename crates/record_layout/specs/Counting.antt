-- What a counter stands for.
use Rattle.std.specs.Prelude.{ℕ, ◌≡◌, ◌+◌, ◌-◌, ◌*◌, ◌<◌, ◌≤◌, List, Bool, true, false, length}
use Rattle.{tally_base.specs.declared.header.RecordType.RecordType, ptu_definitions.specs.{declared.records.KindCounts.KindCounts, Words.{words_of, rest_of, records_of, record_limit}}}
use Rattle.{ptu_definitions.specs.Kinds.counts_of, record_layout.specs.declared.{counter.Counter.Counter, begun.BegunWord.BegunWord}}

-- The bytes of a begun word.

-- the bytes that it begins with, 0 to 3
abbrev pub begun_in : BegunWord → List ℕ
begun_in word = word.bytes.items

-- What a counter stands for.

-- the counts of the whole words of these bytes, and what is left over
pub record AreCounts (record_type : RecordType) (carried : List ℕ) (counts : KindCounts) (bytes : List ℕ) : Type 0 where
  pub rest : carried ≡ rest_of bytes
  pub kinds : counts ≡ counts_of (records_of record_type bytes)
  pub few : length (words_of bytes) ≤ record_limit

-- After a refusal nothing more is taken: the bytes are any with too many words.
abbrev pub Counts : RecordType → List ℕ → KindCounts → Bool → List ℕ → Type 0
Counts record_type carried counts true bytes = record_limit < length (words_of bytes)
Counts record_type carried counts false bytes = AreCounts record_type carried counts bytes

-- The counter was made for this record type, and was given these bytes.
pub record HasCounted (counter : Counter) (record_type : RecordType) (bytes : List ℕ) : Type 0 where
  pub same_type : counter.record_type ≡ record_type
  pub counts : Counts record_type (begun_in counter.carried) counter.counts counter.refused bytes

-- whether a piece was refused
abbrev pub was_refused : Counter → Bool
was_refused counter = counter.refused

-- how many more bytes the counter takes at most
abbrev pub room : Counter → ℕ
room counter = 4 * (record_limit - counter.counts.records) + 3 - length (begun_in counter.carried)
