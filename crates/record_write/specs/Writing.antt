-- What a call says of the words that it puts into a block or writes.
use Rattle.std.specs.{Prelude.{ℕ, ◌≡◌, ◌≤◌, ◌⊎◌, Err, List, [], ◌++◌, OnOk, IfErr}, declared.result.Result.Result}
use Rattle.{tally_base.specs.{declared.fault.Fault.{Fault, TheVariants.{PickTime, WriteFault}}, FaultCounts.Rose}, bench_io.specs.Sinks.{SinkState, Wrote, WroteShort, PassesOn}}
use Rattle.minimal_file.specs.ShortFiles.{bytes_in}

-- The bytes of the words come after those that a block held, and what it passed on and what it holds are all of these.
abbrev pub PutsWords : SinkState → SinkState → List ℕ → List ℕ → List ℕ → Type 0
PutsWords old new held now words = PassesOn old new (held ++ bytes_in words) now

-- A front of these bytes was written that is not the whole, and the block holds none.
pub record CutsWords (old new : SinkState) (held now words : List ℕ) : Type 0 where
  pub short : WroteShort old new (held ++ bytes_in words)
  pub empty : now ≡ []

-- What a photon's words left in a block, by the answer.
pub record PutsOrCuts {T : Type 0} (old new : SinkState) (held now words : List ℕ) (result : Result T Fault) : Type 0 where
  pub puts : OnOk result (PutsWords old new held now words)
  pub cuts : result ≡ Err WriteFault → CutsWords old new held now words

-- What they left in a sink, by the answer.
pub record WritesOrCuts {T : Type 0} (old new : SinkState) (words : List ℕ) (result : Result T Fault) : Type 0 where
  pub writes : OnOk result (Wrote old new (bytes_in words))
  pub cuts : result ≡ Err WriteFault → WroteShort old new (bytes_in words)

-- A photon is refused since its time is too late to be written, and the sink's count of faults stays, or since a write failed and the
-- count rose.
pub record PickCause {T : Type 0} (place : ℕ) (old new : SinkState) (result : Result T Fault) : Type 0 where
  pub later : old.faults ≤ new.faults
  pub failed : IfErr result (λ fault. ((fault ≡ PickTime place) × (new.faults ≡ old.faults)) ⊎ ((fault ≡ WriteFault) × Rose old.faults new.faults))
  pub kept : OnOk result (new.faults ≡ old.faults)
