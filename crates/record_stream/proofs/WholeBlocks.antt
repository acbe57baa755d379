-- What is gathered of a whole block.
use Rattle.std.proofs.Common.{rules, ◌≡◌, ◌+◌, ◌*◌, ◌-◌, ◌^◌, ◌<◌, ◌≤◌, ◌++◌, [], ◌∷◌, ℕ, zero, suc, Bool, true, false, List, Option, Some, None, length, map}
use Rattle.std.proofs.Common.{take, get_or, cond, nat_lt, unwrap_or, count_by, IfSome, refl, sym, ap, subst, ◌∙◌, append-nil, length-append, arith, slice_index}
use Rattle.std.proofs.{Common.{⊎_elim, inl, inr, ◌⊎◌}, lemmas.{Grind.common_steps, Bool.{cases_Bool, ltb-true, Decides.nat_tests}, List.map-append}}
use Rattle.std.{proofs.lemmas.List.{length-map, take_all}, specs.{Option.option_or, Prelude.if◌then◌else◌, Int.{from_le_bytes, w32}}}
use Rattle.ptu_definitions.specs.{declared.records.{Raw.Raw, KindCounts.KindCounts}, Kinds.{is_photon, is_marker, counts_of}, Times.amount, Words.numbers}
use Rattle.tally_base.specs.{declared.{event.Event.Event, header.Mode.{Mode, TheVariants.{T2, T3}}}, Limits.wrap_limit, Tally.{moves_floor, floor_after}}
use Rattle.{tally_base.proofs.Floors.floor-push, abs_time.specs.{declared.clock.Clock.Clock, Placing.{placed_by, base_of}, Floors.orders_markers}}
use Rattle.{record_layout.{specs.{declared.row.Row.Row, Rowed.raw_of}, proofs.KindLemmas.count-more}, lane_decode.specs.declared.columns.Columns.Columns}
use Rattle.lane_decode.specs.{InColumns.{HasRows, row_at, wraps_at, sum_to, time_in, before, Rises}, Staying.{stays, staying, event_in}}
use Rattle.{lane_decode.proofs.{Chosen.{place-more, few-staying as few-stay}, Added.sum-more}, record_stream.specs.OneMore.{first_with, last_with, or_time}}
use Rattle.record_stream.specs.{OneMore.time_if, Whole.{events_below, last_below, last_time}, Rows.{ordered_below, gathered_below, event_below}}
use Rattle.record_stream.specs.{Rows.greatest_with_row, Walking.{how_of, greatest_of, clock_in, Gathers, LetsPass}, declared.walk.Walk.Walk}
use Rattle.record_stream.proofs.{Gathering.{gathers-none, small, gathers-row, count_by-meanings}, Summaries.last_with-push}

-- the codes below which events in order are, and events are
below-few : (only : Bool) (mode : Mode) → (ordered_below mode ≤ gathered_below only mode) × (gathered_below only mode ≤ 512)
below-few false T2 = (omega arith, omega arith)
below-few false T3 = (omega arith, omega arith)
below-few true T2 = (omega arith, omega arith)
below-few true T3 = (omega arith, omega arith)

module _ (walk : Walk) (words : List (List ℕ)) (meaning : ℕ → Raw) (same : meaning ≡ (how_of walk).meaning) (passes : LetsPass walk meaning words)
    (unit : ℕ) (columns : Columns) (rows : HasRows meaning unit columns words) (whole : length words ≡ 64)
    (rises : Rises (greatest_of walk) (time_in (base_of (clock_in walk)) unit columns) 64) where
  abbrev ordered : ℕ
  ordered = ordered_below (how_of walk).mode

  abbrev low : ℕ
  low = greatest_of walk

  abbrev start : ℕ
  start = base_of (clock_in walk)

  abbrev time : ℕ → ℕ
  time = time_in (base_of (clock_in walk)) unit columns

  abbrev row : ℕ → Row
  row = row_at columns

  abbrev code : ℕ → ℕ
  code i = (row_at columns i).code

  -- the sum of the wraps before a record
  base_at : ℕ → ℕ
  base_at n = start + unit * sum_to (wraps_at columns) n

  top_at : ℕ → ℕ
  top_at n = unwrap_or (last_below ordered code time n) low

  events_at : Bool → ℕ → List Event
  events_at only n = map (event_in (placed_by (clock_in walk)) start unit columns) (staying (gathered_below only (how_of walk).mode) columns n)

  base-more : (n : ℕ) → base_at (suc n) ≡ base_at n + unit * (row n).wraps
  unfolding base_at sum_to
  base-more n = omega arith

  base-few : (n : ℕ) → n ≤ 64 → base_at n ≤ start + n * 2 ^ 50
  unfolding base_at sum_to
  base-few zero le = omega arith
  base-few (suc n) le =
      let one = small walk words meaning same passes false n (omega (arith, whole, le)) unit (row n) (rows n (omega (arith, whole, le))) in
      omega (arith, base-few n (omega (arith, le)), base-more n, one)

  -- the time of an event, by the wraps before it
  value : (n : ℕ) → n < 64 → code n < 512 → time n ≡ base_at n + (row n).time
  unfolding base_at
  value n lt event =
      let is = rows n (omega (arith, whole, lt)) in
      let none : unit * wraps_at columns n ≡ 0 = is.amounts ∙ ap amount (sym is.raw) ∙ grind (arith, common_steps, nat_tests, event) in
      ap (λ s. start + unit * s + slice_index columns.times n) (sum-more (wraps_at columns) n) ∙ omega (arith, none)

  few-ordered : (n : ℕ) → nat_lt (code n) ordered ≡ true → code n < 512
  few-ordered n is = omega (arith, ltb-true (code n) ordered is, below-few false (how_of walk).mode)

  top-more : (n : ℕ) → n < 64 → top_at (suc n) ≡ greatest_with_row ordered (top_at n) (base_at n) (row n)
  unfolding top_at last_below
  top-more n lt = by_case (nat_lt (code n) ordered) refl
    where
      by_case : (b : Bool) → nat_lt (code n) ordered ≡ b → unwrap_or (if nat_lt (code n) ordered then Some (time n) else last_below ordered code time n) low ≡ (if nat_lt (code n) ordered then base_at n + (row n).time else unwrap_or (last_below ordered code time n) low)
      by_case true is = rw is (value n lt (few-ordered n is))
      by_case false is = rw is refl

  top-step : (n : ℕ) → n < 64 → (top_at (suc n) ≡ time n) ⊎ (top_at (suc n) ≡ top_at n)
  top-step n lt = ⊎_elim
      (λ (is : nat_lt (code n) ordered ≡ true). inl (top-more n lt ∙ rw is (sym (value n lt (few-ordered n is)))))
      (λ (is : nat_lt (code n) ordered ≡ false). inr (top-more n lt ∙ rw is refl)) (cases_Bool (nat_lt (code n) ordered))

  top-low : (n : ℕ) → n ≤ 64 → top_at n ≤ before low time n
  unfolding top_at last_below
  top-low zero le = omega arith
  top-low (suc n) le = grind (arith, top-step n (omega (arith, le)), top-low n (omega (arith, le)), rises n (omega (arith, le)))

  top-rises : (n : ℕ) → n < 64 → top_at n ≤ top_at (suc n)
  top-rises n lt = grind (arith, top-step n lt, top-low n (omega (arith, lt)), rises n lt)

  events-more : (only : Bool) (n : ℕ) → n < 64 → events_at only (n + 1) ≡ events_at only n ++ event_below (gathered_below only (how_of walk).mode) (placed_by (clock_in walk) + n + 1) (base_at n) (row n)
  unfolding events_at staying
  events-more only n lt = search (rules, arith, place-more, map-append, value, ltb-true, below-few)

  gathers-upto : (only : Bool) (n : ℕ) → n ≤ 64 → Gathers walk (take n words) only (base_at n) (top_at n) (events_at only n)
  unfolding base_at top_at events_at staying sum_to last_below
  gathers-upto only zero le = gathers-none walk (take 0 words) only (start + unit * 0) low [] refl refl (omega arith) (omega (arith, passes.base)) refl
  gathers-upto only (suc n) le =
      let next : n + 1 ≡ suc n = omega arith in
      let lt : n < 64 = omega (arith, le) in
      let is = rows n (omega (arith, whole, le)) in
      let one = small walk words meaning same passes only n (omega (arith, whole, le)) unit (row n) is in
      let few : base_at n + unit * (row n).wraps ≤ wrap_limit = omega (arith, base-few n (omega (arith, le)), one, passes.base, le) in
      let events_are : events_at only (suc n) ≡ events_at only n ++ event_below (gathered_below only (how_of walk).mode) (placed_by (clock_in walk) + n + 1) (base_at n) (row n) =
      ap (events_at only) (sym next) ∙ events-more only n lt in
      subst (λ k. Gathers walk (take k words) only (base_at (suc n)) (top_at (suc n)) (events_at only (suc n))) next
      (gathers-row walk words meaning same passes only n (omega (arith, whole, le)) unit (row n) is (base_at n) (base_at (suc n)) (top_at n) (top_at (suc n)) (events_at only n) (events_at only (suc n))
      few (base-more n) (top-more n lt) (top-rises n lt) events_are (gathers-upto only n (omega (arith, le))))

  -- what is gathered of the whole block
  pub gathers-whole : (only : Bool) (sum : ℕ) (top : Option ℕ) → sum ≡ start + unit * sum_to (wraps_at columns) 64 → top ≡ last_time ordered start unit columns
      → Gathers walk words only sum (unwrap_or top low) (events_below (gathered_below only (how_of walk).mode) (clock_in walk) unit columns)
  unfolding base_at top_at events_at
  gathers-whole only sum top sum_is top_is =
      rw (sum_is, top_is) (subst (λ l. Gathers walk l only (base_at 64) (top_at 64) (events_at only 64)) (take_all 64 words (omega (arith, whole))) (gathers-upto only 64 (omega arith)))

-- Events of columns.

module _ (columns : Columns) (f : ℕ → Event) where
  abbrev evs : ℕ → ℕ → List Event
  evs below n = map f (staying below columns n)

  evs-more : (below n : ℕ) → evs below (n + 1) ≡ evs below n ++ (if nat_lt (row_at columns n).code below then f n ∷ [] else [])
  unfolding staying
  evs-more below n = search (rules, arith, place-more, map-append)

  -- the last one
  pub last-is : (below : ℕ) (times : ℕ → ℕ) → ((i : ℕ) → (f i).time ≡ times i) → (o : Option ℕ) (n : ℕ)
      → last_with o (evs below n) ≡ option_or (last_below below (λ i. (row_at columns i).code) times n) o
  unfolding last_below staying
  last-is below times same o zero = refl
  last-is below times same o (suc n) =
      let next : n + 1 ≡ suc n = omega arith in
      ap (λ k. last_with o (evs below k)) (sym next) ∙ ap (last_with o) (evs-more below n) ∙ by_case (nat_lt (row_at columns n).code below) refl (last-is below times same o n)
    where
      by_case : (b : Bool) → nat_lt (row_at columns n).code below ≡ b
          → last_with o (evs below n) ≡ option_or (last_below below (λ i. (row_at columns i).code) times n) o
          → last_with o (evs below n ++ (if nat_lt (row_at columns n).code below then f n ∷ [] else [])) ≡ option_or (if nat_lt (row_at columns n).code below then Some (times n) else last_below below (λ i. (row_at columns i).code) times n) o
      by_case true is so_far = rw is (last_with-push o (evs below n) (f n) ∙ ap Some (same n))
      by_case false is so_far = rw (is, append-nil) so_far

-- the greatest time with them
module _ (columns : Columns) (placed base unit : ℕ) where
  event : ℕ → Event
  event = event_in placed base unit columns

  ordered-code : (mode : Mode) (n : ℕ) → nat_lt (row_at columns n).code 512 ≡ true → moves_floor (orders_markers mode) (event_in placed base unit columns n) ≡ nat_lt (row_at columns n).code (ordered_below mode)
  ordered-code mode n event = search (rules, arith, event)

  low-code : (mode : Mode) (n : ℕ) → nat_lt (row_at columns n).code 512 ≡ false → nat_lt (row_at columns n).code (ordered_below mode) ≡ false
  low-code mode n none = search (rules, arith)

  pub floor-is : (mode : Mode) (floor n : ℕ) → floor_after (orders_markers mode) floor (evs columns (event_in placed base unit columns) 512 n) ≡ unwrap_or (last_below (ordered_below mode) (λ i. (row_at columns i).code) (time_in base unit columns) n) floor
  unfolding last_below staying
  floor-is mode floor zero = refl
  floor-is mode floor (suc n) =
      let next : n + 1 ≡ suc n = omega arith in
      ap (λ k. floor_after (orders_markers mode) floor (evs columns (event_in placed base unit columns) 512 k)) (sym next)
      ∙ ap (floor_after (orders_markers mode) floor) (evs-more columns (event_in placed base unit columns) 512 n) ∙ by_case (nat_lt (row_at columns n).code 512) refl (floor-is mode floor n)
    where
      codes : ℕ → ℕ
      codes i = (row_at columns i).code

      by_case : (b : Bool) → nat_lt (row_at columns n).code 512 ≡ b
          → floor_after (orders_markers mode) floor (evs columns (event_in placed base unit columns) 512 n) ≡ unwrap_or (last_below (ordered_below mode) (λ i. (row_at columns i).code) (time_in base unit columns) n) floor
          → floor_after (orders_markers mode) floor (evs columns (event_in placed base unit columns) 512 n ++ (if nat_lt (row_at columns n).code 512 then event_in placed base unit columns n ∷ [] else [])) ≡ unwrap_or (if nat_lt (row_at columns n).code (ordered_below mode) then Some (time_in base unit columns n) else last_below (ordered_below mode) (λ i. (row_at columns i).code) (time_in base unit columns) n) floor
      by_case true is so_far =
          rw is (floor-push (orders_markers mode) floor (evs columns (event_in placed base unit columns) 512 n) (event_in placed base unit columns n) ∙ rw (ordered-code mode n is, so_far) (picked (nat_lt (row_at columns n).code (ordered_below mode))))
        where
          picked : (b : Bool) → (if b then time_in base unit columns n else unwrap_or (last_below (ordered_below mode) (λ i. (row_at columns i).code) (time_in base unit columns) n) floor) ≡ unwrap_or (if b then Some (time_in base unit columns n) else last_below (ordered_below mode) (λ i. (row_at columns i).code) (time_in base unit columns) n) floor
          picked true = refl
          picked false = refl
      by_case false is so_far = rw (is, append-nil, low-code mode n is) so_far

-- How many they are.
one-kind : (unit n : ℕ) (row : Row) → length (if nat_lt row.code 512 then n ∷ [] else []) ≡ cond (is_photon (raw_of unit row)) 1 0 + cond (is_marker (raw_of unit row)) 1 0
one-kind unit n row = grind (arith, common_steps, nat_tests)

module _ (meaning : ℕ → Raw) (unit : ℕ) (columns : Columns) (words : List (List ℕ)) (rows : HasRows meaning unit columns words) where
  many-upto : (n : ℕ) → n ≤ length words → length (staying 512 columns n)
      ≡ count_by (λ bytes. is_photon (meaning (from_le_bytes w32 bytes))) (take n words) + count_by (λ bytes. is_marker (meaning (from_le_bytes w32 bytes))) (take n words)
  unfolding staying
  many-upto zero le = refl
  many-upto (suc n) le =
      let next : n + 1 ≡ suc n = omega arith in
      let lt : n < length words = omega (arith, le) in
      let photons = count-more (λ bytes. is_photon (meaning (from_le_bytes w32 bytes))) words n [] lt in
      let markers = count-more (λ bytes. is_marker (meaning (from_le_bytes w32 bytes))) words n [] lt in
      let one = rw (rows n lt).raw at (one-kind unit n (row_at columns n)) in
      let more = ap length (place-more (stays 512 columns) n) ∙ length-append (staying 512 columns n) (if nat_lt (row_at columns n).code 512 then n ∷ [] else []) in
      subst (λ k. length (staying 512 columns k) ≡ count_by (λ bytes. is_photon (meaning (from_le_bytes w32 bytes))) (take k words) + count_by (λ bytes. is_marker (meaning (from_le_bytes w32 bytes))) (take k words)) next
      (omega (arith, more, one, photons, markers, many-upto n (omega (arith, le))))

  pub many-events : (k : KindCounts) → length words ≡ 64 → k ≡ counts_of (map meaning (numbers words)) → k.photons + k.markers ≡ length (staying 512 columns 64)
  many-events k whole is =
      let all = take_all 64 words (omega (arith, whole)) in
      rw is (sym (rw (all, count_by-meanings is_photon meaning words, count_by-meanings is_marker meaning words) at (many-upto 64 (omega (arith, whole)))))

pub few-staying : (below : ℕ) (columns : Columns) (n : ℕ) → length (staying below columns n) ≤ n
unfolding staying
few-staying below columns n = few-stay (stays below columns) n

-- Sums of wraps, and the first and the last of some records.

pub product-more : (unit : ℕ) (f : ℕ → ℕ) (n : ℕ) → unit * sum_to f (n + 1) ≡ unit * sum_to f n + unit * f n
product-more unit f n = rw (sum-more f n) (omega arith)

-- one step back
pub last-step : (below : ℕ) (codes times : ℕ → ℕ) (n : ℕ) (b : Bool) → 0 < n → nat_lt (codes (n - 1)) below ≡ b
    → last_below below codes times n ≡ (if b then Some (times (n - 1)) else last_below below codes times (n - 1))
unfolding last_below
last-step below codes times n b some is = search (rules, arith)

pub none-more : (below : ℕ) (columns : Columns) (n : ℕ) → staying below columns n ≡ [] → nat_lt (row_at columns n).code below ≡ false → staying below columns (n + 1) ≡ []
unfolding staying
none-more below columns n none is = place-more (stays below columns) n ∙ rw (none, is) refl

first-stays : (below : ℕ) (columns : Columns) (n d : ℕ) → staying below columns n ≡ [] → nat_lt (row_at columns n).code below ≡ true
    → (rest : List ℕ) × (staying below columns (n + 1 + d) ≡ n ∷ rest)
unfolding staying
first-stays below columns n zero none is =
    let next : n + 1 + 0 ≡ n + 1 = omega arith in
    ([], ap (staying below columns) next ∙ place-more (stays below columns) n ∙ rw (none, is) refl)
first-stays below columns n (suc d) none is =
    let so_far = first-stays below columns n d none is in
    let next : n + 1 + suc d ≡ n + 1 + d + 1 = omega arith in
    (so_far.0 ++ cond (stays below columns (n + 1 + d)) ((n + 1 + d) ∷ []) [], ap (staying below columns) next ∙ place-more (stays below columns) (n + 1 + d) ∙ ap (λ l. l ++ cond (stays below columns (n + 1 + d)) ((n + 1 + d) ∷ []) []) so_far.1)

pub first-is : (below : ℕ) (columns : Columns) (n : ℕ) (k : ℕ) (ks : List ℕ) → n < 64 → staying below columns n ≡ [] → nat_lt (row_at columns n).code below ≡ true
    → staying below columns 64 ≡ k ∷ ks → k ≡ n
first-is below columns n k ks lt none is are =
    let all = first-stays below columns n (63 - n) none is in
    let whole : n + 1 + (63 - n) ≡ 64 = omega (arith, lt) in
    ap (λ l. get_or l 0 0) (sym are ∙ ap (staying below columns) (sym whole) ∙ all.1)

or_none : (o : Option ℕ) → option_or o None ≡ o
or_none o = search (rules, arith)

if_some : {P : Type 0} (o : Option ℕ) → P → IfSome o (λ t. P)
if_some o p = search (rules, arith)

module _ (clock : Clock) (unit : ℕ) (columns : Columns) where
  pub few-events : (below : ℕ) → length (events_below below clock unit columns) ≤ 64
  few-events below = search (rules, arith, length-map, few-staying)

  pub last-event : last_with None (events_below 512 clock unit columns) ≡ last_time 512 (base_of clock) unit columns
  last-event = last-is columns (event_in (placed_by clock) (base_of clock) unit columns) 512 (time_in (base_of clock) unit columns) (λ i. refl) None 64 ∙ or_none (last_time 512 (base_of clock) unit columns)

  pub first-event : (kept : Bool) (before first : ℕ) (last : Option ℕ) → last_with None (events_below 512 clock unit columns) ≡ last
      → ((at : ℕ) (more : List ℕ) → staying 512 columns 64 ≡ at ∷ more → first ≡ (if kept then before else time_in (base_of clock) unit columns at))
      → IfSome last (λ time. Some first ≡ first_with (time_if kept before) (events_below 512 clock unit columns))
  first-event kept before first last last_is first_is = by_case (staying 512 columns 64) refl
    where
      f : ℕ → Event
      f = event_in (placed_by clock) (base_of clock) unit columns

      picked : (kept : Bool) (time : ℕ) → Some (if kept then before else time) ≡ or_time (time_if kept before) time
      picked true time = refl
      picked false time = refl

      by_case : (ks : List ℕ) → staying 512 columns 64 ≡ ks → IfSome last (λ time. Some first ≡ first_with (time_if kept before) (events_below 512 clock unit columns))
      by_case [] is = subst (λ (o : Option ℕ). IfSome o (λ time. Some first ≡ first_with (time_if kept before) (events_below 512 clock unit columns))) (ap (λ l. last_with None (map (event_in (placed_by clock) (base_of clock) unit columns) l)) (sym is) ∙ last_is) tt
      by_case (k ∷ ks) is = if_some last (ap Some (first_is k ks is) ∙ picked kept (time_in (base_of clock) unit columns k) ∙ ap (λ l. first_with (time_if kept before) (map (event_in (placed_by clock) (base_of clock) unit columns) l)) (sym is))
