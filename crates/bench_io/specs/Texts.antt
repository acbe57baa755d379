-- What was written of a text that has grown.
use Rattle.std.specs.{Prelude.{◌≡◌, ◌⊎◌, ℕ, List, ◌++◌, [], None, Some, Result, Ok, Err}, declared.option.Option.Option}
use Rattle.{tally_base.specs.declared.fault.Fault.{Fault, TheVariants.WriteFault}, bench_io.specs.Sinks.{SinkState, Wrote, WroteShort, PassesOn}}

-- What the text has grown by was written, and no write failed.
pub record WroteText (shown grown : List ℕ) (old new : SinkState) : Type 0 where
  pub more : List ℕ
  pub adds : grown ≡ shown ++ more
  pub wrote : Wrote old new more

-- It was put after what a block held, and the block holds the end of it.
pub record PutText (shown grown : List ℕ) (old new : SinkState) (held now : List ℕ) : Type 0 where
  pub more : List ℕ
  pub adds : grown ≡ shown ++ more
  pub put : PassesOn old new (held ++ more) now

-- It was cut short, after what a block held, since a write failed.
pub record LostText (shown grown : List ℕ) (old new : SinkState) (held : List ℕ) : Type 0 where
  pub more : List ℕ
  pub adds : grown ≡ shown ++ more
  pub cut : WroteShort old new (held ++ more)

-- the same with no block
abbrev pub CutText : List ℕ → List ℕ → SinkState → SinkState → Type 0
CutText shown grown old new = LostText shown grown old new []

-- What a call wrote of it, by its answer: it is the refusal that is called for, and else a write failed.
abbrev pub WritesText : {X : Type 0} → List ℕ → List ℕ → Option Fault → SinkState → SinkState → Result X Fault → Type 0
WritesText shown grown refused old new (Ok x) = (refused ≡ None) × WroteText shown grown old new
WritesText shown grown refused old new (Err fault) = ((refused ≡ Some fault) × WroteText shown grown old new) ⊎ ((fault ≡ WriteFault) × CutText shown grown old new)
