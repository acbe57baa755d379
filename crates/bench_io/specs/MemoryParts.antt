-- Calls that are numbered.
use Rattle.std.specs.{Prelude.{ℕ, List, ◌+◌, Contains, ◌%◌, [], ◌∷◌, None, Some, length, max, min}, declared.option.Option.Option}

-- Calls are numbered from 1. After so many calls the number of the next is in the list.
abbrev pub FailsNext : List ℕ → ℕ → Type 0
FailsNext failing calls = Contains failing (calls + 1)

-- A file in memory.

pub record NamedBytes : Type 0 where
  pub name : List ℕ
  pub bytes : List ℕ

-- Entries that are taken round and round.

-- the place after, or the first where there is none after
abbrev pub next_turn : List ℕ → ℕ → ℕ
next_turn [] turn = turn
next_turn (entry ∷ entries) turn = (turn + 1) % length (entry ∷ entries)

-- An entry 0 counts as 1. With no entry there is no limit.
abbrev pub limited : Option ℕ → ℕ → ℕ
limited None wanted = wanted
limited (Some entry) wanted = min (max entry 1) wanted
