-- The bytes that are still to come of a made file, and those that its reads gave.
use Rattle.std.specs.{Prelude.{ℕ, List, [], ◌++◌, None, Some, slice_range, ◌≡◌}, declared.option.Option.Option}
use Rattle.{bench_io.specs.Given.{Given, gave, no_bytes, is_over}, minimal_file.specs.ShortFiles.bytes_in, ptu_made.specs.declared.{unread.Unread.Unread, slot.Begun.Begun, photons.Photons.Photons}}
use Rattle.ptu_made.specs.Generator.{states, words_behind}

-- What is still to come of a made file.

-- the words of the photons that are still to come
abbrev pub words_left : Photons → List ℕ
words_left photons = words_behind photons.time (states photons.left photons.state)

-- the bytes that are held
abbrev pub held_in : Unread → List ℕ
held_in unread = slice_range unread.held unread.next unread.end

-- These bytes are held after those before, and the same photons are still to come.
pub record HoldsMore (old new : Unread) (more : List ℕ) : Type 0 where
  pub bytes : held_in new ≡ held_in old ++ more
  pub photons : new.photons ≡ old.photons

abbrev pub bytes_left : Unread → List ℕ
bytes_left unread = held_in unread ++ bytes_in (words_left unread.photons)

-- the bytes that are left to read in a slot
abbrev pub rest_in : Option Begun → List ℕ
rest_in None = []
rest_in (Some begun) = bytes_left begun.unread

-- the whole file of a slot: what was given of it and what is left
abbrev pub told_in : Option Begun → Option (List ℕ)
told_in None = None
told_in (Some begun) = Some (begun.given.items ++ bytes_left begun.unread)

-- what the reads of a slot have given
abbrev pub given_in : Option Begun → Given
given_in None = no_bytes
given_in (Some begun) = gave begun.given.items (is_over (bytes_left begun.unread) begun.ended)
