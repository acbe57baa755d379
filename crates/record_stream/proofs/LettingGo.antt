-- Events in order, of which none is late, and those that are let go with them.
use Rattle.std.proofs.Common.{rules, ◌≡◌, ◌≢◌, ◌+◌, ◌<◌, ◌≤◌, ℕ, List, [], ◌∷◌, ◌++◌, Bool, true, false, None, Some, length, map, refl, ap, subst, ◌∙◌}
use Rattle.std.proofs.{Common.{append_assoc, append-nil, arith, length-append, ◌&&◌, not, is_some, nat_lt, IfSome, IsTrue}, lemmas.Bool.ne_eqb}
use Rattle.std.{proofs.lemmas.{Bool.Decides.nat_tests, List.{map-append, Elements.filter-append}}, specs.{Option.option_to_list, List.All}}
use Rattle.{std.specs.declared.option.Option.Option, tally_base.specs.{declared.{event.Event.Event, header.Mode.Mode}, Events.is_ordered, Tally.moves_floor}}
use Rattle.tally_base.{specs.{Tally.{floor_after, InOrder}, Columns.rows}, proofs.{Floors.{order-at, order-parts}, BlockRows.rows-split}}
use Rattle.ptu_definitions.specs.{Kept.{Marked, floor_of, greatest}, Settled.{delivered, is_overtaken, not_marked, ordered, put_in, settles}}
use Rattle.ptu_definitions.{specs.{Streams.{StreamSettings, events_in}, Times.events}, proofs.DeliveredLaws.{delivered-append, delivered_after}}
use Rattle.ptu_definitions.proofs.{DeliveredLaws.{delivered_after-ordered, not_marked-append, not_marked-false}, StreamLemmas.later}
use Rattle.{abs_time.{specs.{Placing.IsSmall, Floors.orders_markers}, proofs.Floors.moves_by}, record_stream.specs.Blocks.{on_time, IsInLine, PlacesRise}}
use Rattle.record_stream.{specs.{Keeping.{CanWait, HasCome}, LettingGo.{LetsGo, IsDelivered}}, proofs.{Steps.{on_time-push, in_line-event}, Gathering.not_late}}
use Rattle.record_stream.proofs.{Gathering.{rows-at, floor_of-block}, Placed.not_late as not_late_by, Settles.{ordered-on, that_goes, those_waiting}}
use Rattle.{record_stream.proofs.Settles.count_waiting, settle.specs.{Settling.told, Standing.{HasSettled, kept_back, next_place, last_time, reach_of}}}
use Rattle.settle.specs.{Standing.was_popped, declared.settle.Settle.Settle, Passing.place_after}

-- The greatest time of events in order.
greatest-is : (mode : Mode) (es : List Event) → greatest mode es ≡ floor_of mode (on_time es)
greatest-is mode [] = refl
greatest-is mode (e ∷ es) = search (rules, arith, not_late, greatest-is mode es)

floor-line : (mode : Mode) (l : Marked) (es : List Event) → InOrder (orders_markers mode) (floor_of mode l) es
    → floor_of mode (l ++ on_time es) ≡ floor_after (orders_markers mode) (floor_of mode l) es
floor-line mode l es line = let is = floor_of-block mode l es 0 (floor_of mode l) (omega arith) line in omega (arith, is)

greatest-line : (mode : Mode) (before es : List Event) → InOrder (orders_markers mode) (greatest mode before) es
    → greatest mode (before ++ es) ≡ floor_after (orders_markers mode) (greatest mode before) es
greatest-line mode before es line = search (rules, arith, greatest-is, map-append, floor-line)

-- none that comes after them is late
pub early : (k : ℕ) (mode : Mode) (before es : List Event) (e : Event) → InOrder (orders_markers mode) (greatest mode before) es
    → floor_after (orders_markers mode) (greatest mode before) es ≤ e.time → is_ordered mode e ≡ true
    → is_overtaken k (ordered mode (before ++ es)) e ≡ false
early k mode before es e line time on =
    let top = greatest-line mode before es line in
    let below : nat_lt e.time (greatest mode (before ++ es)) ≡ false = grind (arith, nat_tests, top, time) in
    rw on at (not_late_by _ k mode (before ++ es) e refl (rw on (later mode (before ++ es) e.time ∙ below)))

pub early-row : (k : ℕ) (mode : Mode) (before : List Event) (f : ℕ → Event) (n i : ℕ) (top : ℕ) (e : Event) → i < n
    → top ≡ greatest mode before → InOrder (orders_markers mode) top (rows f n) → e ≡ f i → is_ordered mode e ≡ true
    → is_overtaken k (ordered mode (before ++ rows f i)) e ≡ false
early-row k mode before f n i top e lt top_is line is on =
    let strict = orders_markers mode in
    let split = rows-split f i n (omega (arith, lt)) in
    let front = (order-parts strict top (rows f i) split.0 (rw split.1 at line)).0 in
    let moves : IsTrue (moves_floor strict (f i)) = rw (moves_by mode (f i)) (rw is at on) in
    let below : floor_after strict top (rows f i) ≤ e.time = rw is ((order-at strict top f n i lt line).1 moves) in
    early k mode before (rows f i) e (rw top_is at front) (rw top_is at below) on

-- The places of the rows of a block.
pub place-push : (low : ℕ) (es : List Event) (e : Event) → place_after low (es ++ e ∷ []) ≡ e.place
place-push low [] e = refl
place-push low (x ∷ es) e = place-push x.place es e

places-mid : (low : ℕ) (es back : List Event) (e : Event) → PlacesRise low (es ++ e ∷ back) → place_after low es < e.place
places-mid low [] back e all = all.0
places-mid low (x ∷ es) back e all = places-mid x.place es back e all.1

pub places-at : (low : ℕ) (f : ℕ → Event) (n i : ℕ) → i < n → PlacesRise low (rows f n) → place_after low (rows f i) < (f i).place
places-at low f n i lt all = let at = rows-at f n i lt in places-mid low (rows f i) at.0 (f i) (subst (λ l. PlacesRise low l) at.1 all)

-- One event more.
module _ (mode : Mode) (low : ℕ) (from old new : Settle) (came went : List Event) (e : Event) (l : LetsGo mode low from old came went) where
  module _ (went' : List Event) (on : is_ordered mode e ≡ true) (small : IsSmall mode e)
      (place : next_place new ≡ e.place + 1) (reach : reach_of new ≡ reach_of old) (unpopped : was_popped new ≡ false) where
    lets_none : went' ≡ went ++ [] → All (CanWait mode) (kept_back new) → length (kept_back new) ≤ length (kept_back old) + 1
        → last_time new ≡ last_time old → LetsGo mode low from new (came ++ e ∷ []) went'
    lets_none outs fit few same = search (rules, arith, append-nil, place-push, length-append)

    lets_some : (x : Event) → went' ≡ went ++ x ∷ [] → CanWait mode x → All (CanWait mode) (kept_back new)
        → length (kept_back new) ≤ length (kept_back old) → last_time new ≡ x.time → last_time old ≤ x.time
        → LetsGo mode low from new (came ++ e ∷ []) went'
    lets_some x outs goes fit few time rises =
        let line = rw goes.ordered at (in_line-event mode (last_time from) (last_time old) went x l.line goes.small.in_time goes.small.kind (λ is. rises)) in
        search (rules, arith, place-push, length-append, line)

    -- which is in order
    pub lets_on : (o : Option Event) (late more : Bool) → went' ≡ went ++ option_to_list o → is_some o ≡ (not late && more)
        → (late ≡ true → kept_back new ≡ kept_back old) → (late ≡ false → option_to_list o ++ kept_back new ≡ put_in e (kept_back old))
        → IfSome o (λ x. last_time new ≡ x.time) → (o ≡ None → last_time new ≡ last_time old) → IfSome o (λ x. last_time old ≤ x.time)
        → LetsGo mode low from new (came ++ e ∷ []) went'
    lets_on None true more outs emits left kept time same rises = search (rules, arith, lets_none)
    lets_on None false more outs emits left kept time same rises =
        let waits : CanWait mode e = record { small = small; ordered = on } in
        lets_none outs (those_waiting (CanWait mode) None (kept_back old) (kept_back new) e (kept refl) waits l.fit)
        (omega (arith, count_waiting None (kept_back old) (kept_back new) e (kept refl))) (same refl)
    lets_on (Some x) true more outs emits left kept time same rises = let h : true ≡ false = emits in cc
    lets_on (Some x) false more outs emits left kept time same rises =
        let waits : CanWait mode e = record { small = small; ordered = on } in
        lets_some x outs (that_goes (CanWait mode) (Some x) x (kept_back old) (kept_back new) e refl (kept refl) waits l.fit)
        (those_waiting (CanWait mode) (Some x) (kept_back old) (kept_back new) e (kept refl) waits l.fit)
        (omega (arith, count_waiting (Some x) (kept_back old) (kept_back new) e (kept refl))) time rises

-- the events of these words
abbrev came_before : StreamSettings → List ℕ → List Event
came_before how words = events (map how.meaning words)

module _ (how : StreamSettings) (old new : Settle) (words : List ℕ) (came went : List Event)
    (e : Event) (some : how.policy.settle ≢ 0) (d : IsDelivered how old words came went) where
  ordered-more : ordered how.mode (came_before how words ++ (came ++ e ∷ [])) ≡ ordered how.mode (came_before how words ++ came) ++ ordered how.mode (e ∷ [])
  ordered-more = search (rules, arith, append_assoc, came_before, filter-append)

  delivered-more : (went' more : List Event) → went' ≡ went ++ more
      → delivered_after how.policy.settle how.mode (came_before how words ++ came) (e ∷ []) ≡ on_time more
      → delivered how.policy.settle how.mode (came_before how words ++ (came ++ e ∷ [])) ≡ events_in how words ++ on_time went'
  delivered-more went' more outs is = search (rules, arith, append_assoc, came_before, delivered-append, delivered_after, on_time-push)

  pub delivers_on : (went' : List Event) (o : Option Event) (late : Bool) (reach : ℕ)
      → reach ≡ how.policy.settle → is_ordered how.mode e ≡ true → went' ≡ went ++ option_to_list o
      → is_overtaken how.policy.settle (ordered how.mode (came_before how words ++ came)) e ≡ false
      → late ≡ is_overtaken reach (ordered how.mode (came_before how words ++ came)) e
      → settles reach (ordered how.mode (came_before how words ++ came)) e ≡ told e late o
      → HasSettled new (ordered how.mode (came_before how words ++ came) ++ e ∷ []) ((not_marked (events_in how words) ++ went) ++ option_to_list o)
      → IsDelivered how new words (came ++ e ∷ []) went'
  delivers_on went' o late reach same on outs first late_is tells settled =
      let off : late ≡ false = late_is ∙ rw (same, first) refl in
      let adds = delivered_after-ordered how.policy.settle how.mode (came_before how words ++ came) e (ne_eqb how.policy.settle 0 some) on
      ∙ rw (← same, tells, off) refl in
      record {
        settled = rw (ordered-more, ordered-on how.mode e on, outs, ← append_assoc) settled;
        delivers = delivered-more went' (option_to_list o) outs adds;
      }

-- After the words of a block.
module _ (how : StreamSettings) (settle : Settle) (words now : List ℕ) (came went : List Event)
    (adds : events (map how.meaning now) ≡ events (map how.meaning words) ++ came) (d : IsDelivered how settle words came went) where
  pub block_delivers : events_in how now ≡ events_in how words ++ on_time went
  block_delivers = ap (delivered how.policy.settle how.mode) adds ∙ d.delivers

  pub come_block : (from : Settle) → HasCome how from words → IsInLine how.mode (last_time from) (last_time settle) went → HasCome how settle now
  come_block from come line = record {
    settled = rw (block_delivers, not_marked-append, not_marked-false, adds) d.settled;
    greatest = search (rules, arith, block_delivers, floor-line);
  }
