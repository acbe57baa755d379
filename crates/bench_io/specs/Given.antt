-- What the reads of a slot have given so far.
use Rattle.std.specs.{Prelude.{ℕ, ◌≡◌, ◌<◌, ◌⊎◌, ◌↔◌, Bool, true, false, List, [], ◌∷◌, ◌++◌, length, take, MatchResult}, declared.result.Result.Result}

-- All bytes that reads have handed out, and whether one said that there are no more.
pub record Given : Type 0 where
  pub bytes : List ℕ
  pub ended : Bool

abbrev pub gave : List ℕ → Bool → Given
gave bytes ended = record { bytes = bytes; ended = ended }

-- nothing yet
abbrev pub no_bytes : Given
no_bytes = gave [] false

-- These bytes were handed out between.
pub record Consumes (old new : Given) (piece : List ℕ) : Type 0 where
  pub adds : new.bytes ≡ old.bytes ++ piece

-- A read has said the end.
abbrev pub IsAtEnd : Given → Type 0
IsAtEnd given = given.ended ≡ true

-- A read says the end by giving nothing where there is room.
abbrev pub SaysEnd : ℕ → List ℕ → Type 0
SaysEnd count into = (count ≡ 0) × (0 < length into)

-- So many bytes at the front of the buffer were handed out. The end was said where it was said before or is now.
abbrev pub GivesCount : Given → Given → ℕ → List ℕ → Type 0
GivesCount old new count into = Consumes old new (take count into) × (IsAtEnd new ↔ (IsAtEnd old ⊎ SaysEnd count into))

-- A read hands out the front of the buffer, and nothing where it fails.
abbrev pub ReadGives : {E : Type 0} → Given → Given → Result ℕ E → List ℕ → Type 0
ReadGives old new result into = MatchResult result (λ count. GivesCount old new count into) (λ _. new ≡ old)

-- These bytes may stand in the file after those that were given: none, where the end was said.
abbrev pub MayFollow : Given → List ℕ → Type 0
MayFollow given more = IsAtEnd given → more ≡ []

-- The reads gave what those of a file of these bytes would.
pub record IsOf (given : Given) (file : List ℕ) : Type 0 where
  pub more : List ℕ
  pub parts : file ≡ given.bytes ++ more
  pub may_follow : MayFollow given more

-- the end was said, and nothing is left
abbrev pub is_over : List ℕ → Bool → Bool
is_over [] ended = ended
is_over (x ∷ xs) ended = false
