-- The list that tables count over, of more events, of none, and at the end.
use Rattle.std.proofs.Common.{◌≡◌, ℕ, List, [], ◌∷◌, ◌++◌, Bool, refl, sym, ap, ◌∙◌, map, if◌then◌else◌, ◌-◌, ◌==◌, arith, rules, ◌+◌, ◌<◌, zero, suc, length}
use Rattle.std.proofs.{Common.{get_or, set, ◌⊎◌, ◌≢◌, ◌≤◌}, lemmas.{List.{map-append, get_or-set_same, Elements.filter-append}, Grind.common_steps}}
use Rattle.{std.proofs.Math.Seq.take-nil, tally_base.specs.{declared.{event.{Event.Event, EventKind.EventKind}, header.Mode.Mode}, Settings.GroupView}}
use Rattle.{tally_base.specs.{Columns.rows, Events.is_photon_kind, Tally.{moves_floor, floor_after, InOrder}}, ptu_definitions.specs.Kept.{Marked, kept}}
use Rattle.ptu_definitions.specs.{Kept.marked, Settled.{not_marked, delivered, delivered_last, in_time, not_overtaken, ordered}, Times.events}
use Rattle.ptu_definitions.{specs.Streams.{StreamSettings, last_in}, proofs.DeliveredLaws.{delivered-settled, delivered-kept}}
use Rattle.gate_plan.specs.{Shifting.{Sorting, shifted, shifted_kind}, Taking.groups_by, Histories.{with_groups, history, settled_history, grouped}}

pub with_groups-more : (by : Sorting) (es more : List Event) → with_groups by (es ++ more) ≡ with_groups by es ++ with_groups by more
with_groups-more by es more = search (rules, arith, map-append)

kept-none : (none_settled : Bool) (k : ℕ) (mode : Mode) → (if none_settled then kept mode [] else in_time k (ordered mode [])) ≡ []
unfolding kept marked in_time not_overtaken
kept-none none_settled k mode = search (rules, arith)

pub history-none : (by : Sorting) (how : StreamSettings) → settled_history by how [] ≡ []
unfolding settled_history events
history-none by how = cc (kept-none (how.policy.settle == 0) how.policy.settle how.mode, take-nil (0 - how.policy.settle))

pub with_groups-append : (by : Sorting) (l m : Marked) → with_groups by (not_marked (l ++ m)) ≡ with_groups by (not_marked l) ++ with_groups by (not_marked m)
with_groups-append by l m = rw (filter-append, map-append, map-append, map-append) refl

-- the kept list is what is settled, and the rest that is given at the end
pub history-ends : (by : Sorting) (how : StreamSettings) (words : List ℕ)
    → history by how words ≡ settled_history by how words ++ with_groups by (not_marked (last_in how words))
unfolding history settled_history
history-ends by how words =
    let k = how.policy.settle in
    let es = events (map how.meaning words) in
    let last = delivered_last k how.mode es in
    ap (with_groups by) (sym (delivered-kept k how.mode es)) ∙ with_groups-append by (delivered k how.mode es) last
    ∙ ap (λ l. with_groups by l ++ with_groups by (not_marked last)) (delivered-settled k how.mode es)

-- Rows that are sorted.

pub sorted_rows : (groups : List GroupView) (f : ℕ → Event × ℕ) (e : ℕ → Event) (n : ℕ)
    → ((i : ℕ) → i < n → f i ≡ (e i, groups_by groups (e i))) → rows f n ≡ grouped groups (rows e n)
sorted_rows groups f e zero is = refl
sorted_rows groups f e (suc n) is = rw (map-append, ← sorted_rows groups f e n (λ i lt. is i (omega (arith, lt))), is n (omega arith)) refl

pub other : {X : Type 0} (xs : List X) (n k : ℕ) (v d : X) → k < n → get_or (set xs n v) k d ≡ get_or xs k d
other xs n k v d lt = grind (arith, common_steps)

pub last_or : (i n : ℕ) → i < n + 1 → (i ≡ n) ⊎ (i < n)
last_or i n lt = grind (arith, lt)

-- one place more that has what it is to have
pub set_more : (P : ℕ → ℕ → Type 0) (xs : List ℕ) (n v : ℕ) → n < length xs
    → ((i : ℕ) → i < n → P i (get_or xs i 0)) → P n v → (i : ℕ) → i < n + 1 → P i (get_or (set xs n v) i 0)
set_more P xs n v inside before here i lt = search (rules, arith, get_or-set_same, other)

-- Shifted events come in the order of the events.

photon_kind : (by : Sorting) (kind : EventKind) → is_photon_kind (shifted_kind by kind) ≡ is_photon_kind kind
photon_kind by kind = search (rules, arith)

moves_shifted : (strict : Bool) (by : Sorting) (e : Event) → moves_floor strict (shifted by e) ≡ moves_floor strict e
moves_shifted strict by e = search (rules, arith, photon_kind)

pub floor-shifted : (strict : Bool) (by : Sorting) (floor : ℕ) (es : List Event) → floor_after strict floor (map (shifted by) es) ≡ floor_after strict floor es
floor-shifted strict by floor [] = refl
floor-shifted strict by floor (e ∷ es) =
    floor-shifted strict by (if moves_floor strict (shifted by e) then e.time else floor) es
    ∙ ap (λ b. floor_after strict (if b then e.time else floor) es) (moves_shifted strict by e)

pub order-shifted : (strict : Bool) (by : Sorting) (floor : ℕ) (es : List Event) → InOrder strict floor es → InOrder strict floor (map (shifted by) es)
order-shifted strict by floor [] order = tt
order-shifted strict by floor (e ∷ es) order =
    (order.0, rw (moves_shifted strict by e) order.1, rw (moves_shifted strict by e) (order-shifted strict by (if moves_floor strict e then e.time else floor) es order.2))

same_kind : (by : Sorting) (kind : EventKind) → by.shifts ≡ [] → shifted_kind by kind ≡ kind
same_kind by kind none = search (rules, arith)

pub same_event : (by : Sorting) (e : Event) → by.shifts ≡ [] → shifted by e ≡ e
same_event by e none = ap (λ kind. record { place = e.place; kind = kind; time = e.time }) (same_kind by e.kind none)

-- Without shifts events stay as they are.
pub same_events : (by : Sorting) (es : List Event) → by.shifts ≡ [] → es ≡ map (shifted by) es
same_events by [] none = refl
same_events by (e ∷ es) none = ap (λ one. one ∷ es) (sym (same_event by e none)) ∙ ap (λ more. shifted by e ∷ more) (same_events by es none)

-- the events of rows, one by one
pub shifted_rows : (by : Sorting) (f e : ℕ → Event) (n : ℕ) → ((i : ℕ) → i < n → f i ≡ shifted by (e i)) → rows f n ≡ map (shifted by) (rows e n)
shifted_rows by f e zero is = refl
shifted_rows by f e (suc n) is = rw (map-append, ← shifted_rows by f e n (λ i lt. is i (omega (arith, lt))), is n (omega arith)) refl

-- one event more is shifted, and those after it are left
pub shifted_more : (by : Sorting) (old now next : ℕ → Event) (at : ℕ) → ((i : ℕ) → i < at → now i ≡ shifted by (old i))
    → ((i : ℕ) → at ≤ i → now i ≡ old i) → next at ≡ shifted by (now at) → ((i : ℕ) → i ≢ at → next i ≡ now i)
    → (i : ℕ) → i < at + 1 → next i ≡ shifted by (old i)
shifted_more by old now next at before left here others i lt = search (rules, arith, last_or)

pub left_behind : (old now next : ℕ → Event) (at : ℕ) → ((i : ℕ) → at ≤ i → now i ≡ old i)
    → ((i : ℕ) → i ≢ at → next i ≡ now i) → (i : ℕ) → at + 1 ≤ i → next i ≡ old i
left_behind old now next at left others i above = others i (λ is. omega (arith, above, is)) ∙ left i (omega (arith, above))
