-- What giving photons to a picker writes.
use Rattle.std.specs.{Prelude.{ℕ, ◌≡◌, ◌<◌, ◌≤◌, ◌⊎◌, All, slice_index, true, false, List, [], ◌∷◌, ◌++◌, ◌+◌, max, Bool, Some, length, refl}, declared.option.Option.Option, List.filter}
use Rattle.std.proofs.Common.{append-nil, arith}
use Rattle.tally_base.specs.{declared.{event.Event.Event, fault.Fault.{Fault, TheVariants.{PickTime, WriteFault}}, block.Block.Block, header.Mode.Mode}, Tally.InOrder, Events.is_photon, Columns.count}
use Rattle.{tally_base.specs.Columns.{event_at, rows}, record_stream.specs.Blocks.AllFit, bench_io.{specs.{declared.sink.Sink.Ghosts, Sinks.SinkState}, proofs.Bytes.PassesOn-held}}
use Rattle.{ptu_definitions.specs.{Prefixes.each_after, Kept.{Marked, floor_of}, Settled.not_marked}, record_write.specs.{declared.picker.Picker.Picker, Picked.{is_too_late, photon_words}}}
use Rattle.{record_write.specs.{Picker.{mode_of, last_by, is_going, HasPicked}, Writing.{PutsWords, CutsWords}}, photon_pick.specs.Late.too_late}

-- A picker, what its sink tells, and the bytes that its block holds.
pub record Pen : Type 0 where
  pub picker : Picker
  pub sink : SinkState
  pub held : List ℕ

abbrev pub pen : Picker → SinkState → List ℕ → Pen
pen picker sink held = record { picker = picker; sink = sink; held = held }

-- the words of photons after others
abbrev pub words_behind : Pen → List Event → List Event → List ℕ
words_behind p behind photons = each_after (photon_words (mode_of p.picker)) behind photons

-- The first so many of these places are places of the block.
pub record ArePlaces {N : ℕ} (events : Block N) (places : List ℕ) (many : ℕ) : Type 0 where
  pub few : many ≤ 1024
  pub inside : (k : ℕ) → k < many → slice_index places k < count events

-- The header was written and no call refused, and the events are photons that fit the picker's mode and come in order, no earlier than its last.
pub record CanBeGiven (picker : Picker) (photons : List Event) : Type 0 where
  pub going : is_going picker ≡ true
  pub are_photons : All (λ e. is_photon e ≡ true) photons
  pub fit : AllFit (mode_of picker) photons
  pub in_order : InOrder true (last_by picker) photons

-- These photons were given to the picker, which refused none.
pub record Gave (p q : Pen) (photons : List Event) : Type 0 where
  pub in_time : too_late (mode_of p.picker) photons ≡ []
  pub picked : (behind : List Event) → HasPicked p.picker behind → HasPicked q.picker (behind ++ photons)
  pub text : (behind : List Event) → HasPicked p.picker behind → PutsWords p.sink q.sink p.held q.held (words_behind p behind photons)
  pub same_mode : mode_of q.picker ≡ mode_of p.picker

pub Gave-none : (p : Pen) → Gave p p []
Gave-none p = record {
  in_time = refl;
  picked = λ behind h. rw (append-nil behind) h;
  text = λ behind h. rw (append-nil p.held) (PassesOn-held p.sink p.held);
  same_mode = refl;
}

-- A photon was too late: those before it were put.
pub record TooLate (p q : Pen) (front : List Event) (e : Event) (fault : Fault) : Type 0 where
  pub late : is_too_late (mode_of p.picker) e.time ≡ true
  pub is : fault ≡ PickTime e.place
  pub text : (behind : List Event) → HasPicked p.picker behind → PutsWords p.sink q.sink p.held q.held (words_behind p behind front)

-- A write failed at a photon: of the bytes with its words a front was written that is not the whole.
pub record WriteFailed (p q : Pen) (front : List Event) (e : Event) (fault : Fault) : Type 0 where
  pub soon : is_too_late (mode_of p.picker) e.time ≡ false
  pub is : fault ≡ WriteFault
  pub text : (behind : List Event) → HasPicked p.picker behind → CutsWords p.sink q.sink p.held q.held (words_behind p behind (front ++ e ∷ []))

-- The picker refused one of these photons.
pub record Stopped (p q : Pen) (photons : List Event) (fault : Fault) : Type 0 where
  pub front : List Event
  pub e : Event
  pub back : List Event
  pub are : photons ≡ front ++ e ∷ back
  pub in_time : too_late (mode_of p.picker) front ≡ []
  pub why : TooLate p q front e fault ⊎ WriteFailed p q front e fault

-- a picker with its sink, and what its block holds
abbrev pub pen_on : {O : Type 0} → Ghosts O → Picker → O → List ℕ → Pen
pen_on o picker out held = pen picker (o.state out) held

-- Events of a block by their places.

-- the events at the first so many of these places
abbrev pub events_at : {N : ℕ} → Block N → List ℕ → ℕ → List Event
events_at b places n = rows (λ k. event_at b (slice_index places k)) n

-- What a taker that gives photons to a picker got.

-- Where such a taker stands.
pub record Stand : Type 0 where
  -- which events it gives
  pub chooses : Event → Bool
  -- the picker, what the sink tells, and the bytes that the block holds
  pub pen : Pen
  pub mode : Mode
  pub taken : ℕ
  pub floor : ℕ
  -- why the last photon was refused
  pub fault : Option Fault

abbrev pub stand : (Event → Bool) → Pen → Mode → ℕ → ℕ → Option Fault → Stand
stand chooses pen mode taken floor fault = record {
  chooses = chooses;
  pen = pen;
  mode = mode;
  taken = taken;
  floor = floor;
  fault = fault;
}

-- the events that it chooses among these, but for the late ones
abbrev pub chosen_of : Stand → Marked → List Event
chosen_of s l = filter s.chooses (not_marked l)

-- The photons that are chosen among these were given to the picker, which refused none.
pub record TookPhotons (s t : Stand) (l : Marked) : Type 0 where
  pub same_choice : t.chooses ≡ s.chooses
  pub same_mode : t.mode ≡ s.mode
  pub counted : t.taken ≡ s.taken + length l
  pub moved : t.floor ≡ max s.floor (floor_of s.mode l)
  pub same_fault : t.fault ≡ s.fault
  pub gave : Gave s.pen t.pen (chosen_of s l)

-- The picker refused one of them.
pub record Refused (s t : Stand) (l : Marked) : Type 0 where
  pub fault : Fault
  pub told : t.fault ≡ Some fault
  pub stopped : Stopped s.pen t.pen (chosen_of s l) fault

pub took_none : (s : Stand) → TookPhotons s s []
took_none s = record {
  same_choice = refl;
  same_mode = refl;
  counted = omega arith;
  moved = omega arith;
  same_fault = refl;
  gave = Gave-none s.pen;
}
