-- A made file as inputs.
use Rattle.std.{specs.{Prelude.{ℕ, List, ◌++◌, ◌≡◌, true, false, None, Some, is_some, IsOk, OnOk, OnErr, Result}, declared.option.Option.Option}, proofs.{Common.sym, lemmas.Option.none-some}}
use Rattle.std.proofs.lemmas.Option.{same_Some}
use Rattle.{tally_base.specs.{declared.slot.Slot.{Slot, TheVariants.{Plan, Data}}, FaultCounts.FailsOnce}, bench_io.specs.{Inputs.{InputState, IsOpened, Keeps, KeepsOther}, Given.{IsOf, no_bytes}}}
use Rattle.{bench_io.proofs.States.IsOf-left, ptu_made.specs.{declared.{made.Made.Made, slot.Begun.Begun}, Records.made_file, Unread.{bytes_left, told_in, given_in}}}

-- one slot of the two
abbrev pub slot_of : Made → Slot → Option Begun
slot_of made Plan = made.plan
slot_of made Data = made.data

-- Every name is that of the made file, and nothing ever fails.
unfoldable pub made_state : Made → InputState
made_state made = record {
  contents = λ name. Some (Some (made_file made.seed made.count));
  told = λ slot. told_in (slot_of made slot);
  given = λ slot. given_in (slot_of made slot);
  open_faults = λ slot. 0;
  read_faults = λ slot. 0;
  asked = λ slot. is_some (slot_of made slot);
  opened = λ slot. is_some (slot_of made slot);
  meant = λ slot name. true;
}

pub made_asked_first : (made : Made) (slot : Slot) → (made_state made).opened slot ≡ true → (made_state made).asked slot ≡ true
unfolding made_state
made_asked_first made slot opened = opened

agrees_in : (slot : Option Begun) (file : List ℕ) → told_in slot ≡ Some file → IsOf (given_in slot) file
agrees_in None file told = absurd (none-some file told)
agrees_in (Some begun) file told = IsOf-left file begun.given.items _ begun.ended (sym (same_Some (begun.given.items ++ bytes_left begun.unread) file told))

pub made_agrees : (made : Made) (slot : Slot) (file : List ℕ) → (made_state made).told slot ≡ Some file → IsOf ((made_state made).given slot) file
unfolding made_state
made_agrees made slot file told = agrees_in (slot_of made slot) file told

-- Each name is that of this file, neither slot was asked for or opened, and no call has failed.
pub record IsUnopened (file : List ℕ) (state : InputState) : Type 0 where
  pub contents : (name : List ℕ) → state.contents name ≡ Some (Some file)
  pub asked : (slot : Slot) → state.asked slot ≡ false
  pub opened : (slot : Slot) → state.opened slot ≡ false
  pub given : (slot : Slot) → state.given slot ≡ no_bytes
  pub open_faults : (slot : Slot) → state.open_faults slot ≡ 0
  pub read_faults : (slot : Slot) → state.read_faults slot ≡ 0
  pub meant : (slot : Slot) (name : List ℕ) → state.meant slot name ≡ true

-- The file of a name was opened in a slot, which was asked for by that; or it failed, and the count of that rose.
pub record OpensSlot {X E : Type 0} (slot : Slot) (name : List ℕ) (old new : InputState) (answer : Result X E) : Type 0 where
  pub file : OnOk answer (IsOpened (old.contents name) (new.told slot))
  pub given : OnOk answer (new.given slot ≡ no_bytes)
  pub opened : OnOk answer (new.opened slot ≡ true)
  pub unopened : OnErr answer (new.opened slot ≡ old.opened slot)
  pub asked : new.asked slot ≡ true
  pub cause : FailsOnce (old.open_faults slot) (new.open_faults slot) answer
  pub reads : new.read_faults slot ≡ old.read_faults slot

-- No call fails, and each leaves the names, and the other slot, as they are.
pub record ServesSlot {X E : Type 0} (slot : Slot) (old new : InputState) (answer : Result X E) : Type 0 where
  pub keeps : Keeps old new
  pub keeps_other : KeepsOther slot old new
  pub succeeds : IsOk answer
