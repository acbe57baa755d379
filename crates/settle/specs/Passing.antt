-- Events that come in order after all that are kept back.
use Rattle.std.specs.{Prelude.{ℕ, ◌+◌, ◌≡◌, ◌<◌, ◌≤◌, ◌++◌, false, List, [], ◌∷◌, length, ◌&&◌, not, nat_lt, true, None, IfSome, is_some}, List.AllByRecursion, declared.option.Option.Option}
use Rattle.std.specs.Option.{option_to_list}
use Rattle.{tally_base.specs.declared.event.Event.Event, ptu_definitions.specs.{Prefixes.each_after, Settled.{marked_as, settles, is_overtaken, put_in}}, settle.specs.Standing.{HasSettled, kept_back}}
use Rattle.settle.specs.{Standing.{next_place, last_time, reach_of, was_popped}, declared.settle.{Settle.Settle, Settled.Settled}, Settling.{Precedes, told}}

-- no place and no time falls: each place is greater than the one before it and the first no less than this, and no
-- time is less than the one before it or than this
abbrev pub ComesOn : ℕ → ℕ → List Event → Type 0
ComesOn next time [] = Unit {0}
ComesOn next time (e ∷ es) = (next ≤ e.place) × (time ≤ e.time) × ComesOn (e.place + 1) e.time es

-- the place of the last of these events, or this one
abbrev pub place_after : ℕ → List Event → ℕ
place_after place [] = place
place_after place (e ∷ es) = place_after e.place es

-- the least place after them
abbrev pub next_after : ℕ → List Event → ℕ
next_after next [] = next
next_after next (e ∷ es) = next_after (e.place + 1) es

-- the time of the last of them
abbrev pub time_after : ℕ → List Event → ℕ
time_after time [] = time
time_after time (e ∷ es) = time_after e.time es

-- These events come in order after all that are kept back, which are as many as may be. Of both together the first go,
-- up to this time, and the last stay. The last that came has this place.
pub record ComesBehind (s : Settle) (came went stay : List Event) (time place : ℕ) : Type 0 where
  pub unpopped : was_popped s ≡ false
  pub some : 0 < reach_of s
  pub full : length (kept_back s) ≡ reach_of s
  pub greatest : ℕ
  pub low : last_time s ≤ greatest
  pub below : AllByRecursion (λ x. x.time ≤ greatest) (kept_back s)
  pub comes : ComesOn (next_place s) greatest came
  pub joined : kept_back s ++ came ≡ went ++ stay
  pub time_is : time ≡ time_after (last_time s) went
  pub place_is : place + 1 ≡ next_after (next_place s) came

-- After some events these came, and with them these were let go, none of them late.
pub record HasPassed (old new : Settle) (pushed given came went : List Event) : Type 0 where
  pub settled : HasSettled new (pushed ++ came) (given ++ went)
  pub tells : each_after (settles (reach_of old)) pushed came ≡ marked_as false went

-- What a push of an event does.

-- After some events this one came. If it is late it tells so, and else the least of all, if one is emitted.
pub record HasPushed (old new : Settle) (pushed given : List Event) (event : Event) (answer : Settled) : Type 0 where
  pub settled : HasSettled new (pushed ++ event ∷ []) (given ++ option_to_list answer.emitted)
  pub overtaken : answer.late ≡ is_overtaken (reach_of old) pushed event
  pub tells : settles (reach_of old) pushed event ≡ told event answer.late answer.emitted
  pub least : IfSome answer.emitted (λ x. AllByRecursion (λ y. Precedes x y) (kept_back new))

-- A late event is left out. Another one is kept back with the others, but for the least of them, which is emitted where
-- as many are kept back as may be.
pub record KeepsOrEmits (old new : Settle) (event : Event) (answer : Settled) : Type 0 where
  pub left_out : answer.late ≡ true → kept_back new ≡ kept_back old
  pub kept : answer.late ≡ false → option_to_list answer.emitted ++ kept_back new ≡ put_in event (kept_back old)
  pub emits : is_some answer.emitted ≡ (not answer.late && not (nat_lt (length (kept_back old)) (reach_of old)))

-- The time of the last event that was let go becomes that of the one emitted, if there is one.
pub record MovesTo (old new : Settle) (emitted : Option Event) : Type 0 where
  pub time : IfSome emitted (λ x. last_time new ≡ x.time)
  pub same_time : emitted ≡ None → last_time new ≡ last_time old
  pub rises : IfSome emitted (λ x. last_time old ≤ x.time)

-- The last event has this place, and all else that it was made with or forbidden is as before.
pub record StandsBehind (old new : Settle) (last : ℕ) : Type 0 where
  pub place : next_place new ≡ last + 1
  pub same_reach : reach_of new ≡ reach_of old
  pub same_popped : was_popped new ≡ was_popped old
