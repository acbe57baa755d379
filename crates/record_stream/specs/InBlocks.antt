-- A taker with the events that it is given next.
use Rattle.std.{specs.Prelude.{ℕ, ◌≡◌, ◌+◌, ◌<◌, ◌≤◌, ◌⊎◌, List, [], ◌++◌, length, max, Result, OnOk, OnErr, refl}, proofs.Common.{inl, append-nil, arith}}
use Rattle.tally_base.specs.{declared.{event.Event.Event, block.Block.Block}, Columns.{sorted, gathered}, FaultCounts.FailsOnce, Limits.record_limit, Tally.{floor_after, InOrder}}
use Rattle.{ptu_definitions.specs.Kept.{Marked, floor_of}, abs_time.specs.Floors.orders_markers, record_stream.specs.Blocks.{on_time, AllFit, AreAlike, LetsLatePass}}
use Rattle.record_stream.specs.declared.taker.EventTaker.{Ghosts}

module _ {T : Type 0} (g : Ghosts T) where
  -- how many events it was given, with those that wait
  abbrev pub taken_with : T → List Event → ℕ
  taken_with taker es = g.taken taker + length es

  -- the greatest time with them
  abbrev pub floor_with : T → List Event → ℕ
  floor_with taker es = floor_after (orders_markers (g.mode taker)) (g.floor taker) es

  -- The events of a block wait for the taker: it can be given them.
  pub record Waits {N : ℕ} (taker : T) (block : Block N) : Type 0 where
    pub in_order : InOrder (orders_markers (g.mode taker)) (g.floor taker) (gathered block)
    pub fit : AllFit (g.mode taker) (gathered block)
    pub few : 0 < length (gathered block) → taken_with taker (gathered block) ≤ record_limit
    pub unsorted : sorted block ≡ 0

  -- The taker may be given the first list in place of the second.
  pub record MayStandFor (l m : Marked) : Type 0 where
    pub alike : AreAlike l m
    pub but : (l ≡ m) ⊎ LetsLatePass g.got g.broke

  pub stands-same : (l : Marked) → MayStandFor l l
  stands-same l = record { alike = record { count = refl; on_time = refl; floor = λ mode. refl }; but = inl refl }

  -- After the events that wait these came: the first of all are given, and the others wait now.
  pub record GoesOn (old new : T) (es now : List Event) (l : Marked) : Type 0 where
    pub front : Marked
    pub parts : MayStandFor (front ++ on_time now) (on_time es ++ l)
    pub follows : (start : T) (m : Marked) → g.got start old m → g.got start new (m ++ front)
    pub counted : taken_with new now ≡ taken_with old es + length l
    pub moved : floor_with new now ≡ max (floor_with old es) (floor_of (g.mode old) l)
    pub same_mode : g.mode new ≡ g.mode old

  -- A late event may come next: no event waits, or it may pass those that do, which are no more than before.
  pub record MakesWay {N : ℕ} (old new : Block N) : Type 0 where
    pub free : (gathered new ≡ []) ⊎ LetsLatePass g.got g.broke
    pub few : length (gathered new) ≤ length (gathered old)

  -- It broke at one of them.
  pub record Breaks (old new : T) (es : List Event) (l : Marked) : Type 0 where
    pub front : Marked
    pub back : Marked
    pub some : 0 < length front
    pub strict : LetsLatePass g.got g.broke → ⊥
    pub parts : on_time es ++ l ≡ front ++ back
    pub broken : (start : T) (m : Marked) → g.got start old m → g.broke start new (m ++ front)

  -- It was given these, or some of them while the others wait, or it broke at one of them.
  pub record Gives {X E : Type 0} (old new : T) (es now : List Event) (answer : Result X E) : Type 0 where
    pub gave : OnOk answer (GoesOn old new es now [])
    pub broken : OnErr answer (Breaks old new es [])
    pub cause : FailsOnce (g.faults old) (g.faults new) answer
    pub same : g.same old new

  -- The events that wait were given before a late one, or that may pass them, and those that still wait can be given.
  pub record GivesWay {N : ℕ} {X E : Type 0} (old new : T) (block block' : Block N) (answer : Result X E) : Type 0 where
    pub gives : Gives old new (gathered block) (gathered block') answer
    pub waits : Waits new block'
    pub passed : MakesWay block block'

  pub goes_on-none : (t : T) (es : List Event) → GoesOn t t es es []
  goes_on-none t es = record { front = []; parts = rw append-nil (stands-same (on_time es)); follows = λ start m got. rw append-nil got; counted = omega arith; moved = omega arith; same_mode = refl }
