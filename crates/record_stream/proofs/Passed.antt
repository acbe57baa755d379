-- Events in order after all that are kept back, and those that are let go with them.
use Rattle.std.proofs.Common.{rules, ◌≡◌, ◌≢◌, ◌+◌, ◌-◌, ◌<◌, ◌≤◌, ℕ, suc, List, [], ◌∷◌, ◌++◌, true, false, drop, get_or, length, map, refl, sym, ap, subst}
use Rattle.std.proofs.{Common.{◌∙◌, append_assoc, append-nil, arith, length-append}, Math.Seq.drop-append_seam, lemmas.{Bool.ne_eqb, List.Elements.All-tail}}
use Rattle.std.{proofs.lemmas.List.Elements.{All-from_recursion, filter-append, recursion_from_All}, specs.List.{All, AllByRecursion, Sorted.IsNonDecreasingBy}}
use Rattle.tally_base.specs.{declared.{event.{Event.Event, EventKind.TheVariants.Marker as MarkerEvent}, header.Mode.Mode}, Events.is_ordered}
use Rattle.tally_base.{specs.{Tally.{moves_floor, floor_after, InOrder}, Columns.rows}, proofs.Floors.{order-lower, order-append, order-parts}}
use Rattle.{tally_base.proofs.BlockRows.{length-rows, rows-split}, ptu_definitions.specs.{Layouts.KindFits, Settled.{not_marked, ordered, Rises}}}
use Rattle.ptu_definitions.{specs.{Streams.{StreamSettings, events_in}, Times.events}, proofs.DeliveredLaws.delivered-append}
use Rattle.{ptu_definitions.proofs.{SettledLemmas.IsNonDecreasingBy-Rises, SettlingLemmas.each-weaker}, abs_time.specs.Placing.placed_by}
use Rattle.{abs_time.{specs.Floors.orders_markers, proofs.Floors.moves_by}, record_stream.specs.{Blocks.PlacesRise, Keeping.{CanWait, IsKeeping}}}
use Rattle.record_stream.specs.{LettingGo.{AreOrdered, ComesNext, IsFull, LetsGo, IsDelivered}, Walking.{how_of, greatest_of, clock_in}}
use Rattle.{record_stream.{specs.declared.walk.Walk.Walk, proofs.LettingGo.place-push}, settle.specs.Passing.{ComesBehind, ComesOn, HasPassed, next_after}}
use Rattle.settle.specs.{Passing.{place_after, time_after}, Standing.{kept_back, next_place, last_time, reach_of, was_popped}, declared.settle.Settle.Settle}

-- Lists of which each event is in order.
pub ordered-same : (mode : Mode) (es : List Event) → AreOrdered mode es → ordered mode es ≡ es
ordered-same mode [] all = refl
ordered-same mode (e ∷ es) all = rw (all.0, ordered-same mode es all.1) refl

pub each-append : (P : Event → Type 0) (xs ys : List Event) → AllByRecursion P xs → AllByRecursion P ys → AllByRecursion P (xs ++ ys)
each-append P [] ys first second = second
each-append P (x ∷ xs) ys first second = (first.0, each-append P xs ys first.1 second)

pub each-parts : (P : Event → Type 0) (xs ys : List Event) → AllByRecursion P (xs ++ ys) → AllByRecursion P xs × AllByRecursion P ys
each-parts P [] ys all = (tt, all)
each-parts P (x ∷ xs) ys all = let rest = each-parts P xs ys all.1 in ((all.0, rest.0), rest.1)

-- Their order.
moves-on : (mode : Mode) (e : Event) → is_ordered mode e ≡ true → moves_floor (orders_markers mode) e ≡ true
moves-on mode e on = moves_by mode e ∙ on

line-on : (mode : Mode) (t : ℕ) (e : Event) (es : List Event) → is_ordered mode e ≡ true
    → InOrder (orders_markers mode) t (e ∷ es) → (t ≤ e.time) × InOrder (orders_markers mode) e.time es
line-on mode t e es on line = let moves = moves-on mode e on in (line.1 moves, rw moves at line.2)

floor-all : (mode : Mode) (t : ℕ) (es : List Event) → AreOrdered mode es → floor_after (orders_markers mode) t es ≡ time_after t es
floor-all mode t [] all = refl
floor-all mode t (e ∷ es) all = search (rules, arith, mode, moves-on, floor-all mode e.time es all.1)

comes-line : (mode : Mode) (next low t : ℕ) (es : List Event) → next ≤ low + 1 → PlacesRise low es
    → InOrder (orders_markers mode) t es → AreOrdered mode es → ComesOn next t es
comes-line mode next low t [] below places line all = tt
comes-line mode next low t (e ∷ es) below places line all =
    let h : low < e.place = places.0 in
    let step = line-on mode t e es all.0 line in
    (omega (arith, below, h), step.0, comes-line mode (e.place + 1) e.place e.time es (omega arith) places.1 step.1 all.1)

line-waiting : (mode : Mode) (t : ℕ) (w : List Event) → All (λ (x : Event). t ≤ x.time) w
    → IsNonDecreasingBy (λ (x : Event). x.time) w → All (CanWait mode) w → InOrder (orders_markers mode) t w
line-waiting mode t [] low up fit = tt
line-waiting mode t (x ∷ w) low up fit =
    let here : CanWait mode x = fit 0 x (omega arith) in
    let rest = line-waiting mode x.time w (λ k d lt. up 0 (suc k) d (omega arith) (omega (arith, lt)))
    (λ i j d le lt. up (suc i) (suc j) d (omega (arith, le)) (omega (arith, lt))) (All-tail (CanWait mode) x w fit) in
    (here.small.in_time, (λ _. low 0 x (omega arith)), rw (moves-on mode x here.ordered) rest)

rises-line : (mode : Mode) (t : ℕ) (es : List Event) → InOrder (orders_markers mode) t es → AreOrdered mode es → Rises t es
rises-line mode t [] line all = tt
rises-line mode t (e ∷ es) line all = let step = line-on mode t e es all.0 line in (step.0, rises-line mode e.time es step.1 all.1)

low-rises : (t : ℕ) (es : List Event) → Rises t es → AllByRecursion (λ (x : Event). t ≤ x.time) es
low-rises t [] up = tt
low-rises t (e ∷ es) up = search (rules, arith, each-weaker, low-rises e.time es up.1)

wait-line : (mode : Mode) (t : ℕ) (es : List Event) → InOrder (orders_markers mode) t es
    → AllByRecursion (λ (e : Event). KindFits mode e.kind) es → AreOrdered mode es → AllByRecursion (CanWait mode) es
wait-line mode t [] line fit all = tt
wait-line mode t (e ∷ es) line fit all = search (rules, arith, mode, line, wait-line mode e.time es (line-on mode t e es all.0 line).1 fit.1 all.1)

time-most : (t top : ℕ) (w : List Event) → t ≤ top → AllByRecursion (λ (x : Event). x.time ≤ top) w → time_after t w ≤ top
time-most t top [] most all = most
time-most t top (x ∷ w) most all = time-most x.time top w all.0 all.1

pub time-push : (t : ℕ) (es : List Event) (e : Event) → time_after t (es ++ e ∷ []) ≡ e.time
time-push t [] e = refl
time-push t (x ∷ es) e = time-push x.time es e

-- Of all that are kept back and all that came, the first go and the last stay.
pub joins : (w came gone rest front back : List Event) → w ≡ gone ++ rest → came ≡ front ++ back
    → (0 < length rest → length front ≡ 0) → w ++ came ≡ (gone ++ front) ++ (rest ++ back)
joins w came gone [] front back held parts one = ap (λ l. l ++ came) (held ∙ append-nil gone) ∙ ap (λ l. gone ++ l) parts ∙ sym (append_assoc gone front back)
joins w came gone (x ∷ rest) [] back held parts one = search (rules, arith, append_assoc, append-nil)
joins w came gone (x ∷ rest) (y ∷ front) back held parts one = let h : suc (length front) ≡ 0 = one (omega arith) in absurd (omega (arith, h))

pub rows-parts : (f : ℕ → Event) (from n : ℕ) → from ≤ n → rows f n ≡ rows f from ++ drop from (rows f n)
rows-parts f from n within =
    let split = rows-split f from n within in
    let back = ap (λ k. drop k (rows f from ++ split.0)) (sym (length-rows f from)) ∙ drop-append_seam (rows f from) split.0 in
    rw (split.1, back) refl

pub block-joins : (f : ℕ → Event) (from n : ℕ) (w gone rest went stay : List Event) → w ≡ gone ++ rest
    → went ≡ gone ++ rows f from → stay ≡ rest ++ drop from (rows f n) → from ≤ n → (0 < length rest → from ≡ 0)
    → w ++ rows f n ≡ went ++ stay
block-joins f from n w gone rest went stay held goes stays within one = search (rules, arith, joins, rows-parts, length-rows)

pub time-rows : (t : ℕ) (f : ℕ → Event) (n : ℕ) → 0 < n → time_after t (rows f n) ≡ (f (n - 1)).time
time-rows t f n some = search (rules, arith, some, time-push)

pub next-behind : (next place : ℕ) (es : List Event) → 0 < length es → next_after next es ≡ place_after place es + 1
next-behind next place [] some = absurd (omega (arith, some))
next-behind next place (e ∷ []) some = refl
next-behind next place (e ∷ x ∷ es) some = next-behind (e.place + 1) e.place (x ∷ es) (omega arith)

pub place-rows : (place : ℕ) (f : ℕ → Event) (n : ℕ) → 0 < n → place_after place (rows f n) ≡ (f (n - 1)).place
place-rows place f n some = search (rules, arith, some, place-push)

module _ (walk : Walk) (from : Settle) (came went stay : List Event) (settles : (how_of walk).policy.settle ≢ 0)
    (keeps : IsKeeping walk from) (is_full : IsFull walk from) (next : ComesNext walk came)
    (joined : kept_back from ++ came ≡ went ++ stay) where
  abbrev pub mode : Mode
  mode = (how_of walk).mode

  abbrev pub low : ℕ
  low = placed_by (clock_in walk)

  abbrev pub top : ℕ
  top = greatest_of walk

  low-top : last_time from ≤ top
  low-top =
      let e : Event = record { place = 0; kind = MarkerEvent 0; time = 0 } in
      let some : 0 < length (kept_back from) = omega (arith, is_full.full, keeps.reach, settles) in
      let low : last_time from ≤ (get_or (kept_back from) 0 e).time = from.low 0 e some in
      let high : (get_or (kept_back from) 0 e).time ≤ top = is_full.below 0 e some in omega (arith, low, high)

  waiting : AllByRecursion (CanWait mode) went × AllByRecursion (CanWait mode) stay
  waiting = each-parts (CanWait mode) went stay (subst (λ l. AllByRecursion (CanWait mode) l) joined
      (each-append (CanWait mode) (kept_back from) came (recursion_from_All (CanWait mode) (kept_back from) keeps.fit)
      (wait-line mode top came next.in_order (recursion_from_All (λ (e : Event). KindFits mode e.kind) came next.fit) next.ordered)))

  are_ordered : (es : List Event) → AllByRecursion (CanWait mode) es → AreOrdered mode es
  are_ordered es can = each-weaker (CanWait mode) (λ (e : Event). is_ordered mode e ≡ true) es (λ x c. c.ordered) can

  held-last : floor_after (orders_markers mode) (last_time from) (kept_back from) ≤ top
  held-last = search (rules, arith, floor-all, mode, are_ordered, recursion_from_All, keeps.fit, time-most, low-top, is_full.below)

  whole : InOrder (orders_markers mode) (last_time from) went × InOrder (orders_markers mode) (floor_after (orders_markers mode) (last_time from) went) stay
  whole =
      order-parts _ _ went stay (rw joined at (order-append (orders_markers mode) (last_time from) (kept_back from) came
      (line-waiting mode (last_time from) (kept_back from) from.low from.rising keeps.fit) (order-lower _ _ top came held-last next.in_order)))

  stay-rises : Rises (time_after (last_time from) went) stay
  stay-rises = rw (← floor-all mode (last_time from) went (are_ordered went waiting.0)) (rises-line mode _ stay whole.1 (are_ordered stay waiting.1))

  -- what stays is in order after what goes
  pub stays-low : All (λ (x : Event). time_after (last_time from) went ≤ x.time) stay
  stays-low = All-from_recursion _ stay (low-rises (time_after (last_time from) went) stay stay-rises)

  pub stays-rising : IsNonDecreasingBy (λ (x : Event). x.time) stay
  stays-rising = IsNonDecreasingBy-Rises (time_after (last_time from) went) stay stay-rises

  pub comes_behind : (time place : ℕ) → time ≡ time_after (last_time from) went
      → place + 1 ≡ next_after (next_place from) came → ComesBehind from came went stay time place
  comes_behind time place time_is place_is = record {
    unpopped = keeps.unpopped;
    some = omega (arith, keeps.reach, settles);
    full = is_full.full;
    greatest = top;
    low = low-top;
    below = recursion_from_All (λ (x : Event). x.time ≤ top) (kept_back from) is_full.below;
    comes = comes-line mode (next_place from) low top came keeps.behind next.places next.in_order next.ordered;
    joined = joined;
    time_is = time_is;
    place_is = place_is;
  }

  pub lets_passed : (new : Settle) → kept_back new ≡ stay → length stay ≡ length (kept_back from) → last_time new ≡ time_after (last_time from) went
      → next_place new ≡ place_after low came + 1 → reach_of new ≡ reach_of from → was_popped new ≡ false
      → LetsGo mode low from new came went
  lets_passed new kept as_many time place reach unpopped =
      let count = rw (length-append, length-append) at (ap length joined) in
      let kinds = each-weaker (CanWait mode) (λ (e : Event). KindFits mode e.kind) went (λ x c. c.small.kind) waiting.0 in
      search (rules, arith, count, kinds, floor-all, are_ordered, whole, waiting, All-from_recursion)

-- What is delivered then.
pub delivers_passed : (how : StreamSettings) (from new : Settle) (words : List ℕ) (came went : List Event)
    → how.policy.settle ≢ 0 → reach_of from ≡ how.policy.settle → AreOrdered how.mode came
    → HasPassed from new (ordered how.mode (events (map how.meaning words))) (not_marked (events_in how words)) came went → IsDelivered how new words came went
delivers_passed how from new words came went some reach all p = search (rules, arith, filter-append, ordered-same, delivered-append, ne_eqb)
