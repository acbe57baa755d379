-- One word more in a block.
use Rattle.std.proofs.Common.{rules, ◌≡◌, ◌+◌, ◌*◌, ◌<◌, ◌≤◌, le-leb, ℕ, List, [], ◌∷◌, ◌++◌, Bool, true, false, length, map, get_or, refl, sym, ap, ◌∙◌}
use Rattle.std.proofs.Common.{add-zero, append-nil, append_assoc, arith, ◌&&◌, nat_le, count_by, nat_lt, if◌then◌else◌, ◌^◌, take, length-take-le, subst, All}
use Rattle.std.proofs.{Common.{not, IsTrue, max}, lemmas.{Bool.{cases_Bool, cases_lt, leb-true}, List.Sums.{get_or-le-sum_by, sum_by-cons}}}
use Rattle.std.{proofs.{lemmas.List.{Elements.filter-append, map_push, map-append}, Math.Seq.get_or-append_seam}, specs.Int.{from_le_bytes, w32}}
use Rattle.tally_base.specs.{declared.{event.Event.Event, header.Mode.Mode}, Events.{stops_reserved, is_ordered}, Limits.wrap_limit, Columns.{event_by, rows}}
use Rattle.tally_base.{specs.{Columns.count, Tally.{moves_floor, floor_after, InOrder}}, proofs.BlockRows.{length-rows, more_rows, rows-split}}
use Rattle.{tally_base.proofs.Floors.floor-more, ptu_definitions.specs.{declared.records.Raw.Raw, Kinds.is_reserved, Times.{event_of, amount}, Layouts.Fits}}
use Rattle.ptu_definitions.{specs.{Words.numbers, Streams.StreamSettings, Kept.{Marked, floor_of}}, proofs.WordsLemmas.meaning-fits}
use Rattle.abs_time.{specs.{Placing.{base_of, placed_by, IsClock, LeadsOn}, Floors.orders_markers}, proofs.Floors.{moves_by, moved_floor-push}}
use Rattle.{record_layout.specs.{declared.row.Row.Row, Rowed.raw_of}, lane_decode.specs.InColumns.IsRow, record_stream.specs.Blocks.{chosen, Adds, IsInLine}}
use Rattle.record_stream.specs.{Blocks.{greatest_with, IsOnTime, on_time}, Rows.{ordered_below, greatest_with_row, gathered_below, event_below}, Walking.how_of}
use Rattle.record_stream.{specs.{Walking.{greatest_of, clock_in, AddsBehind, Gathers, LetsPass}, declared.walk.Walk.Walk}, proofs.Steps.{adds-push, clock-push}}
use Rattle.record_stream.proofs.{Steps.{in_line-push, places-push}, Wraps.{numbers-more, amount-small}}

-- The event of a record, by its code.

module _ (place base unit : ℕ) (row : Row) where
  -- the event in its row, if it is one
  pub event-row : event_of place base (raw_of unit row) ≡ (if nat_lt row.code 512 then event_by place row.code row.dtime (base + row.time) ∷ [] else [])
  event-row = search (rules, arith, cases_lt)

  -- the greatest time with it
  pub greatest-row : (mode : Mode) (top : ℕ) → greatest_with mode top (event_of place base (raw_of unit row)) ≡ greatest_with_row (ordered_below mode) top base row
  greatest-row mode top = search (rules, arith, event-row, cases_lt)

  -- the event that is gathered: any, or only one in order
  pub chosen-row : (only : Bool) (mode : Mode) → event_below (gathered_below only mode) place base row ≡ chosen only mode (event_of place base (raw_of unit row))
  chosen-row only mode = search (rules, arith, event-row, cases_lt)

  -- It is not late where the greatest time does not fall.
  pub on_time-row : (mode : Mode) (top : ℕ) → nat_le top (greatest_with_row (ordered_below mode) top base row) ≡ true
      → IsOnTime mode top (event_of place base (raw_of unit row))
  on_time-row mode top on = search (rules, arith, event-row, leb-true, cases_lt)

-- What words mean, and one row more.

-- counting by a test of what words mean, over their bytes
pub count_by-meanings : (p : Raw → Bool) (meaning : ℕ → Raw) (words : List (List ℕ))
    → count_by (λ bytes. p (meaning (from_le_bytes w32 bytes))) words ≡ count_by p (map meaning (numbers words))
count_by-meanings p meaning [] = refl
count_by-meanings p meaning (bytes ∷ words) = search (rules, arith, sum_by-cons, count_by-meanings p meaning words)

-- where none is counted none passes
none-at : {X : Type 0} (p : X → Bool) (xs : List X) (i : ℕ) (d : X) → count_by p xs ≡ 0 → i < length xs → p (get_or xs i d) ≡ false
none-at p xs i d none lt = search (rules, arith, get_or-le-sum_by, cases_Bool)

and_false : (a b : Bool) → (b ≡ true → a ≡ false) → (a && b) ≡ false
and_false a b unless = search (rules, arith)

-- no word is refused as reserved
pub none-reserved : (how : StreamSettings) (meaning : ℕ → Raw) (words : List (List ℕ)) (i : ℕ) (d : List ℕ) (w : ℕ)
    → meaning ≡ how.meaning → i < length words → w ≡ from_le_bytes w32 (get_or words i d)
    → (stops_reserved how.policy.reserved ≡ true → count_by is_reserved (map meaning (numbers words)) ≡ 0)
    → (is_reserved (how.meaning w) && stops_reserved how.policy.reserved) ≡ false
none-reserved how meaning words i d w same lt is none = search (rules, arith, and_false, none-at, count_by-meanings)

module _ (how : StreamSettings) (low base top base' top' n unit : ℕ) (es es' : List Event) (row : Row) (w : ℕ)
    (base_is : base' ≡ base + unit * row.wraps) (top_is : top' ≡ greatest_with_row (ordered_below how.mode) top base row) (rises : top ≤ top')
    (events_are : es' ≡ es ++ event_of (n + 1) base (raw_of unit row)) (means : raw_of unit row ≡ how.meaning w) where
  on : IsOnTime how.mode top (event_of (n + 1) base (raw_of unit row))
  on = on_time-row (n + 1) base unit row how.mode top (rw top_is at (le-leb top top' rises))

  pub in_line-more : Fits how.mode (how.meaning w) → base ≤ wrap_limit → IsInLine how.mode low top es → IsInLine how.mode low top' es'
  in_line-more fits few line =
      rw (top_is, events_are, ← (greatest-row (n + 1) base unit row how.mode top))
      (in_line-push how.mode low top (n + 1) base es (raw_of unit row) line (rw means fits) few on)

  module _ (next : ℕ) (ws : List ℕ) (counted : next ≡ n + 1) (amounts : unit * row.wraps ≡ amount (how.meaning w)) where
    pub adds-more : (before : List ℕ) → n < how.policy.records → base + unit * row.wraps ≤ wrap_limit
        → (is_reserved (how.meaning w) && stops_reserved how.policy.reserved) ≡ false → Adds how n base top before ws es
        → Adds how next base' top' before (ws ++ w ∷ []) es'
    adds-more before room few go adds =
        let same : unit * row.wraps ≡ amount (raw_of unit row) = amounts ∙ ap amount (sym means) in
        let pushed = adds-push how n base top before ws w es adds room (raw_of unit row) means (rw means go) (rw (← same) few) on in
        rw (counted, base_is, same, top_is, ← greatest-row (n + 1) base unit row how.mode top, events_are) pushed

    pub leads-more : (records : List Raw) → IsClock how.mode n base top (records ++ map how.meaning ws)
        → IsClock how.mode next base' top' (records ++ map how.meaning (ws ++ w ∷ []))
    leads-more records clock =
        let pushed = clock-push how.mode n base top (records ++ map how.meaning ws) (raw_of unit row) clock on in
        rw (counted, base_is, amounts, top_is, map_push how.meaning ws w) (rw (greatest-row (n + 1) base unit row how.mode top, means, append_assoc) at pushed)

-- All events of a list, or those in order alone.
pub chosen-append : (only : Bool) (mode : Mode) (xs ys : List Event) → chosen only mode (xs ++ ys) ≡ chosen only mode xs ++ chosen only mode ys
chosen-append only mode xs ys = search (rules, arith, filter-append)

-- nothing is gathered of no words
pub gathers-none : (walk : Walk) (words : List (List ℕ)) (only : Bool) (sum greatest : ℕ) (es : List Event) → words ≡ [] → es ≡ []
    → sum ≡ base_of (clock_in walk) → sum ≤ wrap_limit → greatest ≡ greatest_of walk → Gathers walk words only sum greatest es
gathers-none walk words only sum greatest es no_words none sum_is low greatest_is = search (rules, arith, append-nil, add-zero)

-- where all events are gathered
pub gathers-all : (walk : Walk) (words : List (List ℕ)) (sum greatest : ℕ) (es : List Event)
    → Gathers walk words false sum greatest es → IsInLine (how_of walk).mode (greatest_of walk) greatest es × AddsBehind walk words sum greatest es
gathers-all walk words sum greatest es g = search (rules, arith)

-- they lead the clock on
pub gathers-lead : {walk : Walk} {words : List (List ℕ)} {only : Bool} {sum greatest : ℕ} {es : List Event} (n : ℕ)
    → Gathers walk words only sum greatest es → n ≡ placed_by (clock_in walk) + length words
    → ∥ ((more : List Raw) × LeadsOn (clock_in walk) n sum greatest more) ∥₁
gathers-lead {walk = walk} {words = words} n g count = ∣ (map (how_of walk).meaning (numbers words), rw count g.leads) ∣₁

-- What is gathered of one word more.

module _ (walk : Walk) (words : List (List ℕ)) (meaning : ℕ → Raw) (same : meaning ≡ (how_of walk).meaning) (passes : LetsPass walk meaning words)
    (only : Bool) (i : ℕ) (lt : i < length words) (unit : ℕ) (row : Row) (is : IsRow meaning unit row (from_le_bytes w32 (get_or words i []))) where
  w : ℕ
  w = from_le_bytes w32 (get_or words i [])

  now : IsRow (how_of walk).meaning unit row w
  unfolding w
  now = rw (← same) is

  pub small : unit * row.wraps < 2 ^ 50
  small = rw now.amounts (amount-small walk.record_type w)

  -- one word more
  pub gathers-row : (base base' top top' : ℕ) (es es' : List Event) → base + unit * row.wraps ≤ wrap_limit → base' ≡ base + unit * row.wraps
      → top' ≡ greatest_with_row (ordered_below (how_of walk).mode) top base row → top ≤ top'
      → es' ≡ es ++ event_below (gathered_below only (how_of walk).mode) (placed_by (clock_in walk) + i + 1) base row
      → Gathers walk (take i words) only base top es → Gathers walk (take (i + 1) words) only base' top' es'
  unfolding w
  gathers-row base base' top top' es es' few base_is top_is rises es_are old =
      let how = how_of walk in
      let n = placed_by (clock_in walk) + i in
      let more = event_of (n + 1) base (raw_of unit row) in
      let came = old.came ++ more in
      let chosen_is : es' ≡ chosen only how.mode came =
      rw (es_are, chosen-row (n + 1) base unit row only how.mode, old.chosen) (sym (chosen-append only how.mode old.came more)) in
      let count : length (take i words) ≡ i = length-take-le i words (omega (arith, lt)) in
      let next : length (take (i + 1) words) ≡ i + 1 = length-take-le (i + 1) words (omega (arith, lt)) in
      let room : n < how.policy.records = omega (arith, passes.room, walk.few_placed, lt) in
      let go = none-reserved how meaning words i [] w same lt refl passes.reserved in
      let places = places-push (placed_by (clock_in walk)) n base old.came (raw_of unit row) (rw count at old.places) in
      let k = placed_by (clock_in walk) + length (take (i + 1) words) in
      record {
        limit = omega (arith, few, base_is);
        came = came;
        chosen = chosen_is;
        places = record { rises = places.rises; last = omega (arith, places.last, next) };
        in_line = in_line-more how (greatest_of walk) base top base' top' n unit old.came came row w base_is top_is rises refl now.raw
            (meaning-fits walk.record_type w) (omega (arith, few)) old.in_line;
        leads = λ records h.
            let so_far = subst (λ m. IsClock m n base top (records ++ map how.meaning (numbers (take i words)))) walk.same_mode (rw count at (old.leads records h)) in
            subst (λ m. IsClock m k base' top' (records ++ map how.meaning (numbers (take (i + 1) words)))) (sym walk.same_mode)
            (rw (numbers-more words i [] lt) (leads-more how (greatest_of walk) base top base' top' n unit old.came came row w base_is top_is rises refl now.raw
            k (numbers (take i words)) (omega (arith, next)) now.amounts records so_far));
        adds = λ before h. rw (numbers-more words i [] lt, ← append_assoc)
            (adds-more how (greatest_of walk) base top base' top' n unit old.came came row w base_is top_is rises refl now.raw
            k (before ++ numbers (take i words)) (omega (arith, next)) now.amounts before room few go (rw count at (old.adds before h)));
      }

-- The events of a block, one by one.

-- the rows around one of them
pub rows-at : {X : Type 0} (f : ℕ → X) (n i : ℕ) → i < n → (back : List X) × (rows f n ≡ rows f i ++ f i ∷ back)
rows-at f n i lt =
    let split = rows-split f (i + 1) n (omega (arith, lt)) in
    (split.0, split.1 ∙ ap (λ l. l ++ split.0) (more_rows f i) ∙ append_assoc (rows f i) (f i ∷ []) split.0)

-- what holds of all rows holds of each
pub all-rows : {X : Type 0} (P : X → Type 0) (f : ℕ → X) (n i : ℕ) → i < n → All P (rows f n) → P (f i)
all-rows P f n i lt all =
    let at = rows-at f n i lt in
    subst P (ap (λ l. get_or l i (f i)) at.1 ∙ ap (λ k. get_or (rows f i ++ f i ∷ at.0) k (f i)) (sym (length-rows f i))
    ∙ get_or-append_seam (rows f i) (f i) at.0 (f i)) (all i (f i) (omega (arith, lt, length-rows f n)))

pub on_time-rows : (l : Marked) (f : ℕ → Event) (i : ℕ) → (l ++ on_time (rows f i)) ++ (f i, false) ∷ [] ≡ l ++ on_time (rows f (i + 1))
on_time-rows l f i = search (rules, arith, append_assoc, more_rows, map-append)

pub not_late : (b : Bool) (x y : ℕ) → (if b && not false then x else y) ≡ (if b then x else y)
not_late b x y = search (rules, arith)

-- an event in order moves the floor
pub ordered-moves : (mode : Mode) (e : Event) → IsTrue (is_ordered mode e && not false) → IsTrue (moves_floor (orders_markers mode) e)
ordered-moves mode e is = search (rules, arith, moves_by)

-- and so does one event more
pub floor-step : (mode mode' : Mode) (low floor now : ℕ) (f : ℕ → Event) (i : ℕ) (e : Event)
    → mode' ≡ mode → e ≡ f i → floor ≡ floor_after (orders_markers mode) low (rows f i)
    → now ≡ (if is_ordered mode' e && not false then e.time else floor) → now ≡ floor_after (orders_markers mode) low (rows f (i + 1))
floor-step mode mode' low floor now f i e mode_is e_is floor_is moved = search (rules, arith, not_late, floor-more, moves_by)

-- the greatest time with a block
pub floor_of-block : (mode : Mode) (l : Marked) (es : List Event) (first now : ℕ) → now ≡ max first (floor_of mode l) → InOrder (orders_markers mode) now es
    → floor_after (orders_markers mode) now es ≡ max first (floor_of mode (l ++ on_time es))
floor_of-block mode l [] first now is all = rw (append-nil l) is
floor_of-block mode l (e ∷ es) first now is all =
    let next = moved_floor-push mode first now l e false is (λ o. all.1 (ordered-moves mode e o)) in
    floor_of-block mode (l ++ (e, false) ∷ []) es first (if moves_floor (orders_markers mode) e then e.time else now)
    (rw (moves_by mode e, ← not_late (is_ordered mode e) e.time now) next) all.2 ∙ rw append_assoc refl
