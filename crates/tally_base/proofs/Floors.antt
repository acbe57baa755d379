-- Events in order, one by one.
use Rattle.std.proofs.Common.{◌≡◌, ◌∙◌, ℕ, zero, suc, ◌+◌, ◌<◌, ◌≤◌, Bool, List, [], ◌∷◌, ◌++◌, ap, refl, arith, ◌⊎◌, ⊎_elim, IsTrue, if◌then◌else◌, rules, ◌-◌}
use Rattle.std.proofs.{Common.{◌||◌, nat_lt, slice_index, max, sym, append-nil, append_assoc}, Props.props, lemmas.List.Sums.fold-append}
use Rattle.tally_base.specs.{declared.{event.{Event.Event, EventKind.TheVariants.{Photon, Marker}}, block.Block.Block}, Tally.{moves_floor, floor_after}}
use Rattle.tally_base.specs.{Tally.{InOrder, History, greatest_time}, Limits.time_limit, Columns.{rows, event_at, code_at, dtime_at, gathered, events_in}}
use Rattle.tally_base.{specs.Events.is_photon_kind, proofs.BlockRows.more_rows}

pub floor-push : (strict : Bool) (floor : ℕ) (es : List Event) (e : Event)
    → floor_after strict floor (es ++ e ∷ []) ≡ (if moves_floor strict e then e.time else floor_after strict floor es)
floor-push strict floor [] e = refl
floor-push strict floor (x ∷ es) e = floor-push strict (if moves_floor strict x then x.time else floor) es e

pub floor-more : (strict : Bool) (floor : ℕ) (f : ℕ → Event) (n : ℕ)
    → floor_after strict floor (rows f (n + 1)) ≡ (if moves_floor strict (f n) then (f n).time else floor_after strict floor (rows f n))
floor-more strict floor f n = ap (floor_after strict floor) (more_rows f n) ∙ floor-push strict floor (rows f n) (f n)

-- what an event must be after others
abbrev pub Next : Bool → ℕ → List Event → Event → Type 0
Next strict floor es e = (e.time ≤ time_limit) × (IsTrue (moves_floor strict e) → floor_after strict floor es ≤ e.time)

pub order-push : (strict : Bool) (floor : ℕ) (es : List Event) (e : Event) → InOrder strict floor es → e.time ≤ time_limit
    → (IsTrue (moves_floor strict e) → floor_after strict floor es ≤ e.time) → InOrder strict floor (es ++ e ∷ [])
order-push strict floor [] e all time order = (time, order, tt)
order-push strict floor (x ∷ es) e all time order = (all.0, all.1, order-push strict (if moves_floor strict x then x.time else floor) es e all.2 time order)

-- all but the last are in order
pub order-front : (strict : Bool) (floor : ℕ) (es : List Event) (e : Event) → InOrder strict floor (es ++ e ∷ []) → InOrder strict floor es
order-front strict floor [] e all = tt
order-front strict floor (x ∷ es) e all = (all.0, all.1, order-front strict (if moves_floor strict x then x.time else floor) es e all.2)

pub order-last : (strict : Bool) (floor : ℕ) (es : List Event) (e : Event) → InOrder strict floor (es ++ e ∷ []) → Next strict floor es e
order-last strict floor [] e all = (all.0, all.1)
order-last strict floor (x ∷ es) e all = order-last strict (if moves_floor strict x then x.time else floor) es e all.2

last_or : (i n : ℕ) → i < suc n → (i ≡ n) ⊎ (i < n)
last_or i n lt = grind (arith, lt)

pub order-at : (strict : Bool) (floor : ℕ) (f : ℕ → Event) (n i : ℕ) → i < n → InOrder strict floor (rows f n) → Next strict floor (rows f i) (f i)
order-at strict floor f zero i lt all = absurd (omega (arith, lt))
order-at strict floor f (suc n) i lt all =
    ⊎_elim
    (λ (is : i ≡ n). rw is (order-last strict floor (rows f n) (f n) all))
    (λ (below : i < n). order-at strict floor f n i below (order-front strict floor (rows f n) (f n) all))
    (last_or i n lt)

pub floor-append : (strict : Bool) (floor : ℕ) (xs ys : List Event) → floor_after strict floor (xs ++ ys) ≡ floor_after strict (floor_after strict floor xs) ys
floor-append strict floor [] ys = refl
floor-append strict floor (x ∷ xs) ys = floor-append strict (if moves_floor strict x then x.time else floor) xs ys

pub order-append : (strict : Bool) (floor : ℕ) (xs ys : List Event) → InOrder strict floor xs
    → InOrder strict (floor_after strict floor xs) ys → InOrder strict floor (xs ++ ys)
order-append strict floor [] ys first second = second
order-append strict floor (x ∷ xs) ys first second =
    (first.0, first.1, order-append strict (if moves_floor strict x then x.time else floor) xs ys first.2 second)

pub order-parts : (strict : Bool) (floor : ℕ) (xs ys : List Event) → InOrder strict floor (xs ++ ys)
    → InOrder strict floor xs × InOrder strict (floor_after strict floor xs) ys
order-parts strict floor [] ys all = (tt, all)
order-parts strict floor (x ∷ xs) ys all = search (rules, arith, order-parts strict (if moves_floor strict x then x.time else floor) xs ys all.2)

-- That events are in order is a proposition.

pub in_order-prop : (strict : Bool) (floor : ℕ) (es : List Event) → IsProp (InOrder strict floor es)
in_order-prop strict floor [] = hlevel props
in_order-prop strict floor (e ∷ es) = let rest = in_order-prop strict (if moves_floor strict e then e.time else floor) es in hlevel (props, rest)

-- The last row of a block, and the floor.

photon_if : (b : Bool) (input dtime bits : ℕ) → is_photon_kind (if b then Photon input dtime else Marker bits) ≡ b
photon_if b input dtime bits = search (rules, arith)

pub moves_row : (strict : Bool) {N : ℕ} (b : Block N) (i : ℕ) → moves_floor strict (event_at b i) ≡ (strict || nat_lt (code_at b i) 256)
moves_row strict b i = ap (λ k. strict || k) (photon_if (nat_lt (code_at b i) 256) (code_at b i) (dtime_at b i) _)

pub back_step : (strict : Bool) (floor : ℕ) {N : ℕ} (b : Block N) (at : ℕ) (m : Bool) → 0 < at → (strict || nat_lt (code_at b (at - 1)) 256) ≡ m
    → floor_after strict floor (rows (event_at b) at) ≡ (if m then slice_index b.times (at - 1) else floor_after strict floor (rows (event_at b) (at - 1)))
back_step strict floor b at m some is = search (rules, arith, floor-more, moves_row)

-- The greatest time of events in order is that of the last.

later : (b : Bool) (floor time : ℕ) → (IsTrue b → floor ≤ time) → (if b then max floor time else floor) ≡ (if b then time else floor)
later b floor time order = search (rules, arith)

pub greatest-push : (strict : Bool) (h : History) (x : Event × ℕ)
    → greatest_time strict (h ++ x ∷ []) ≡ (if moves_floor strict x.0 then max (greatest_time strict h) x.0.time else greatest_time strict h)
greatest-push strict h x = fold-append (λ t (x : Event × ℕ). if moves_floor strict x.0 then max t x.0.time else t) 0 h (x ∷ [])

pub greatest-rows : (strict : Bool) (h : History) (f : ℕ → Event × ℕ) (n : ℕ) → InOrder strict (greatest_time strict h) (rows (λ i. (f i).0) n)
    → greatest_time strict (h ++ rows f n) ≡ floor_after strict (greatest_time strict h) (rows (λ i. (f i).0) n)
greatest-rows strict h f zero all = ap (greatest_time strict) (append-nil h)
greatest-rows strict h f (suc n) all =
    let floor = greatest_time strict h in
    let es = rows (λ i. (f i).0) n in
    let before = greatest-rows strict h f n (order-front strict floor es (f n).0 all) in
    ap (greatest_time strict) (sym (append_assoc h (rows f n) (f n ∷ [])))
    ∙ greatest-push strict (h ++ rows f n) (f n)
    ∙ ap (λ t. if moves_floor strict (f n).0 then max t (f n).0.time else t) before
    ∙ later (moves_floor strict (f n).0) (floor_after strict floor es) (f n).0.time (order-last strict floor es (f n).0 all).1
    ∙ sym (floor-push strict floor es (f n).0)

-- the greatest time after a block
pub greatest_block : (strict : Bool) (h : History) {N : ℕ} (b : Block N) (floor now : ℕ) → floor ≡ greatest_time strict h → InOrder strict floor (gathered b)
    → now ≡ floor_after strict floor (gathered b) → now ≡ greatest_time strict (h ++ events_in b)
greatest_block strict h b floor now is ordered after = search (rules, arith, greatest-rows)

-- Events in order after a floor are in order after a lower one.

lower : (b : Bool) (low floor time : ℕ) → low ≤ floor → (if b then time else low) ≤ (if b then time else floor)
lower b low floor time below = search (rules, arith)

pub order-lower : (strict : Bool) (low floor : ℕ) (es : List Event) → low ≤ floor → InOrder strict floor es → InOrder strict low es
order-lower strict low floor [] below all = tt
order-lower strict low floor (e ∷ es) below all =
    (all.0, (λ is. let h : floor ≤ e.time = all.1 is in omega (arith, below, h)), order-lower strict (if moves_floor strict e then e.time else low) (if moves_floor strict e then e.time else floor) es (lower (moves_floor strict e) low floor e.time below) all.2)

pub floor-lower : (strict : Bool) (low floor : ℕ) (es : List Event) → low ≤ floor → floor_after strict low es ≤ floor_after strict floor es
floor-lower strict low floor [] below = below
floor-lower strict low floor (e ∷ es) below = floor-lower strict (if moves_floor strict e then e.time else low)
    (if moves_floor strict e then e.time else floor) es (lower (moves_floor strict e) low floor e.time below)

-- The same where fewer events come in order.
looser : (b c : Bool) (low floor time : ℕ) → (IsTrue c → IsTrue b) → low ≤ floor
    → (IsTrue b → floor ≤ time) → (if c then time else low) ≤ (if b then time else floor)
looser b c low floor time fewer below order = search (rules, arith)

moves_fewer : (strict loose : Bool) (e : Event) → (IsTrue loose → IsTrue strict) → IsTrue (moves_floor loose e) → IsTrue (moves_floor strict e)
moves_fewer strict loose e fewer moves = search (rules, arith)

pub order-looser : (strict loose : Bool) (low floor : ℕ) (es : List Event) → (IsTrue loose → IsTrue strict) → low ≤ floor → InOrder strict floor es
    → InOrder loose low es × (floor_after loose low es ≤ floor_after strict floor es)
order-looser strict loose low floor [] fewer below all = (tt, below)
order-looser strict loose low floor (e ∷ es) fewer below all =
    let rest = order-looser strict loose (if moves_floor loose e then e.time else low) (if moves_floor strict e then e.time else floor) es fewer
    (looser (moves_floor strict e) (moves_floor loose e) low floor e.time (moves_fewer strict loose e fewer) below all.1) all.2 in
    ((all.0, (λ is. let h : floor ≤ e.time = all.1 (moves_fewer strict loose e fewer is) in omega (arith, below, h)), rest.0), rest.1)
