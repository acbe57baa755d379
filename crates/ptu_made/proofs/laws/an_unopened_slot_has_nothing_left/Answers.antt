use Rattle.std.{proofs.Common.{◌≡◌, false, [], drop, length, refl}, specs.{declared.option.Option.Option, Prelude.{None, Some, is_some, unwrap_or}}}
use Rattle.ptu_made.specs.{declared.slot.Begun.Begun, Made.{made_state, slot_of}, Unread.{told_in, given_in}}
use Rattle.ptu_made.proofs.laws.an_unopened_slot_has_nothing_left.Goals as goal

left_in : (slot : Option Begun) → is_some slot ≡ false → drop (length (given_in slot).bytes) (unwrap_or (told_in slot) []) ≡ []
left_in None unopened = refl
left_in (Some begun) unopened = cc

pub returns : goal.returns
unfolding made_state
returns c = λ made slot unopened. left_in (slot_of made slot) unopened
