-- What feeding a piece writes of the photons that are chosen.
use Rattle.std.specs.Prelude.{ℕ, ◌≡◌, ◌+◌, ◌≤◌, Bool, true, List, ◌++◌, length, OnOk, None, Result}
use Rattle.{tally_base.specs.declared.{event.Event.Event, fault.Fault.Fault}, bench_io.specs.{declared.sink.Sink.Ghosts, Texts.WritesText}, ptu_definitions.specs.Words.words_of}
use Rattle.{record_stream.specs.{declared.stream.RecordStream.RecordStream, Standing.{how_of, greatest_of, bytes_in, refused_with, HasStreamed}}, record_write.specs.declared.picker.Picker.Picker}
use Rattle.{record_write.specs.Picker.{mode_of, last_by, is_going}, photon_pick.specs.{Texts.{text_in, refusal_in, HasPickedIn}, Ends.WritesEnd}}

-- The picker has written its header and refused nothing, in the mode of the stream, and is no further on than it.
pub record IsNoFurther (stream : RecordStream) (picker : Picker) : Type 0 where
  pub going : is_going picker ≡ true
  pub same_mode : mode_of picker ≡ (how_of stream).mode
  pub before : last_by picker ≤ greatest_of stream

-- The stream took a piece and refused nothing, and the picker is no further on.
pub record GoesOn (old new : RecordStream) (picker : Picker) (piece : List ℕ) : Type 0 where
  pub unrefused : refused_with new ≡ None
  pub counted : bytes_in new ≡ bytes_in old + length piece
  pub behind : IsNoFurther new picker

-- What a piece wrote, where the picker has picked the photons before it, by the answer.
abbrev pub PicksPiece : {O : Type 0} → Ghosts O → (Event → Bool) → RecordStream → List ℕ → Picker → Picker → O → O → Result (Unit {0}) Fault → Type 0
PicksPiece o chooses stream piece picker now old new result =
    (bytes : List ℕ) → HasStreamed stream bytes → HasPickedIn chooses (how_of stream) picker (words_of bytes)
    → WritesText (text_in chooses (how_of stream) (words_of bytes)) (text_in chooses (how_of stream) (words_of (bytes ++ piece))) (refusal_in chooses (how_of stream) (words_of (bytes ++ piece))) (o.state old) (o.state new) result
    × OnOk result (HasPickedIn chooses (how_of stream) now (words_of (bytes ++ piece)))

-- What the end of the bytes wrote, where the picker has picked the photons that their words give, by the answer.
abbrev pub PicksEnd : {O : Type 0} → Ghosts O → (Event → Bool) → RecordStream → Picker → O → O → Result (Unit {0}) Fault → Type 0
PicksEnd o chooses stream picker old new result =
    (bytes : List ℕ) → HasStreamed stream bytes → HasPickedIn chooses (how_of stream) picker (words_of bytes)
    → WritesEnd chooses (how_of stream) (o.state old) (o.state new) bytes result
