-- What a counter stands for.
use Rattle.std.specs.Prelude.{ℕ, ◌≤◌, List, length}
use Rattle.{tally_base.specs.declared.header.RecordType.RecordType, ptu_definitions.specs.Words.{words_of, record_limit}, record_layout.specs.{declared.counter.Counter.Counter, Counting.HasCounted}}

-- The counter was given these bytes, and their records are few enough.
pub record CountsBytes (counter : Counter) (record_type : RecordType) (bytes : List ℕ) : Type 0 where
  pub counted : HasCounted counter record_type bytes
  pub few : length (words_of bytes) ≤ record_limit
