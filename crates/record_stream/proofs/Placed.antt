-- What the clock's answer says of a word: its refusal and its event.
use Rattle.std.proofs.Common.{rules, append-nil, ◌≡◌, ◌+◌, ◌<◌, ℕ, List, [], ◌∷◌, Bool, true, false, None, Some, Ok, Err, length, map, refl, sym, ap, ◌⊎◌}
use Rattle.std.{proofs.Common.{⊎_elim, arith, ◌&&◌, ◌==◌, if◌then◌else◌}, specs.declared.{option.Option.Option, result.Result.Result}}
use Rattle.tally_base.specs.declared.{event.Event.Event, fault.Fault.{Fault, TheVariants.{RecordLimit, ReservedRecord, BackwardTime}}, header.Mode.Mode}
use Rattle.{tally_base.specs.Events.{is_ordered, stops_late, stops_reserved}, ptu_definitions.specs.declared.records.Raw.{Raw, TheVariants.{Photon, Marker}}}
use Rattle.ptu_definitions.specs.{declared.records.Raw.TheVariants.{Wrap, Reserved}, Kinds.is_reserved, Times.{event_after, events}, Kept.{is_late, greatest}}
use Rattle.ptu_definitions.{specs.{Kept.Marked, Settled.is_late_by, Streams.{StreamSettings, refusal, late_refusal}}, proofs.DeliveredLaws.delivered_after}
use Rattle.{ptu_definitions.proofs.{DeliveredLaws.is_late-by, StreamLemmas.fresh}, abs_time.specs.declared.clock.Placed.{Placed, TheVariants.Event as InOrder}}
use Rattle.abs_time.specs.{declared.clock.Placed.TheVariants.{Late, Wrap as WrapPlaced, Reserved as ReservedPlaced}, Placing.place_answer}
use Rattle.record_stream.specs.{Keeping.{tells, refused_for}, Rows.refused_late}

-- the event of a placed record with its mark
abbrev pub marks_of : Placed → Marked
marks_of (InOrder e) = (e, false) ∷ []
marks_of (Late e top) = (e, true) ∷ []
marks_of p = []

-- the event alone
abbrev pub event_in : Placed → List Event
event_in (InOrder e) = e ∷ []
event_in (Late e top) = e ∷ []
event_in p = []

-- what a placed record says of the events before it
abbrev pub IsSo : Mode → List Event → Placed → Type 0
IsSo mode before (InOrder e) = is_late mode before e ≡ false
IsSo mode before (Late e top) = (is_late mode before e ≡ true) × (top ≡ greatest mode before)
IsSo mode before p = Unit {0}

pub refusal-limit : (how : StreamSettings) (ws : List ℕ) (w n : ℕ) → n ≡ length (map how.meaning ws)
    → n ≡ how.policy.records → refusal how ws w ≡ Some (RecordLimit how.policy.records)
unfolding refusal
refusal-limit how ws w n is full = search (rules, arith)

pub refusal-reserved : (how : StreamSettings) (ws : List ℕ) (w n : ℕ) (raw : Raw) → n ≡ length (map how.meaning ws)
    → n < how.policy.records → raw ≡ how.meaning w → (is_reserved raw && stops_reserved how.policy.reserved) ≡ true
    → refusal how ws w ≡ Some (ReservedRecord (n + 1) w)
unfolding refusal
refusal-reserved how ws w n raw is room means stop = search (rules, arith)

-- the refusal of a word by the clock's answer
pub refusal-ok : (how : StreamSettings) (ws : List ℕ) (w n : ℕ) (raw : Raw) (p : Placed) → n ≡ length (map how.meaning ws)
    → n < how.policy.records → raw ≡ how.meaning w → (is_reserved raw && stops_reserved how.policy.reserved) ≡ false
    → place_answer how.mode (map how.meaning ws) raw ≡ Ok p → refusal how ws w ≡ refused_late how (map how.meaning ws) (how.meaning w)
unfolding refusal place_answer
refusal-ok how ws w n raw p is room means go answer = search (rules, arith)

pub refusal-err : (how : StreamSettings) (ws : List ℕ) (w n : ℕ) (raw : Raw) (fault : Fault) → n ≡ length (map how.meaning ws)
    → n < how.policy.records → raw ≡ how.meaning w → (is_reserved raw && stops_reserved how.policy.reserved) ≡ false
    → place_answer how.mode (map how.meaning ws) raw ≡ Err fault → refusal how ws w ≡ Some fault
unfolding refusal place_answer
refusal-err how ws w n raw fault is room means go answer = search (rules, arith)

-- what is known of a placed record by the definitions
abbrev Comes : Mode → List Event → List Event → Placed → Type 0
Comes mode before es p = (es ≡ event_in p) × IsSo mode before p

comes-event : (b : Bool) (mode : Mode) (before : List Event) (e : Event) → is_late mode before e ≡ b
    → Comes mode before (e ∷ []) (if b then Late e (greatest mode before) else InOrder e)
comes-event b mode before e is = search (rules, arith)

comes-ok : (mode : Mode) (before es : List Event) (q p : Placed) → Comes mode before es q → ◌≡◌ {A = Result Placed Fault} (Ok q) (Ok p) → Comes mode before es p
comes-ok mode before es q p h same = let e : q ≡ p = cc in rw e at h

pub comes : (mode : Mode) (before : List Raw) (raw : Raw) (p : Placed) → place_answer mode before raw ≡ Ok p
    → (event_after before raw ≡ event_in p) × IsSo mode (events before) p
unfolding place_answer
comes mode before (Photon input time dtime) p h = comes-ok mode (events before) _ _ p (comes-event _ mode (events before) _ refl) h
comes mode before (Marker bits time) p h = comes-ok mode (events before) _ _ p (comes-event _ mode (events before) _ refl) h
comes mode before (Wrap ticks) p h = search (rules, arith, comes-ok)
comes mode before Reserved p h = comes-ok mode (events before) [] ReservedPlaced p (refl, tt) h

pub nothing : {X : Type 0} {x : X} (s : Bool) → (if s then x else x) ≡ x
nothing s = search (rules, arith)

abbrev pub late_if : StreamSettings → Bool → Event → ℕ → Option Fault
late_if how b e top = if stops_late how.policy.order then (if b then Some (BackwardTime e.place e.time top) else None) else None

-- Where no event is put in its place.
fresh-so : (how : StreamSettings) (before : List Event) (p : Placed) → how.policy.settle ≡ 0
    → IsSo how.mode before p → delivered_after how.policy.settle how.mode before (event_in p) ≡ marks_of p
fresh-so how before p h1 so = search (rules, arith)

pub fresh-plain : (how : StreamSettings) (ws : List ℕ) (raw : Raw) (p : Placed) → how.policy.settle ≡ 0
    → place_answer how.mode (map how.meaning ws) raw ≡ Ok p → fresh how ws raw ≡ marks_of p
fresh-plain how ws raw p zero answer = let c = comes how.mode _ raw p answer in rw c.0 (fresh-so how (events (map how.meaning ws)) p zero c.1)

-- Where events are put in their places.
pub not_late : (b : Bool) (k : ℕ) (mode : Mode) (before : List Event) (e : Event)
    → is_late_by k mode before e ≡ b → is_late mode before e ≡ false → is_late_by k mode before e ≡ false
not_late true k mode before e is off = let on : is_late mode before e ≡ true = is_late-by k mode before e is in cc
not_late false k mode before e is off = is

-- it is no late event
abbrev pub IsEarly : Placed → Type 0
IsEarly (Late e top) = ⊥
IsEarly p = Unit {0}

early-so : (how : StreamSettings) (before : List Event) (p : Placed) → IsEarly p → IsSo how.mode before p
    → (if stops_late how.policy.order then late_refusal how.policy.settle how.mode before (event_in p) else None) ≡ None
early-so how before (InOrder e) early so = rw (not_late _ how.policy.settle how.mode before e refl so) (nothing (stops_late how.policy.order))
early-so how before (Late e top) early so = absurd early
early-so how before p early so = nothing (stops_late how.policy.order)

pub refused-early : (how : StreamSettings) (before : List Raw) (raw : Raw) (p : Placed) → IsEarly p
    → place_answer how.mode before raw ≡ Ok p → refused_late how before raw ≡ None
refused-early how before raw p early answer = let c = comes how.mode before raw p answer in rw c.0 (early-so how (events before) p early c.1)

-- the greatest time that a placed record was compared with
abbrev pub top_in : Placed → ℕ
top_in (InOrder e) = e.time
top_in (Late e top) = top
top_in p = 0

by_top : (how : StreamSettings) (before : List Event) (p : Placed) (e : Event) → event_in p ≡ e ∷ [] → IsSo how.mode before p → late_if how (is_late_by how.policy.settle how.mode before e) e (greatest how.mode before) ≡ late_if how (is_late_by how.policy.settle how.mode before e) e (top_in p)
by_top how before (InOrder x) e is so =
    let same : x ≡ e = cc in rw (not_late _ how.policy.settle how.mode before e refl (rw same at so)) refl
by_top how before (Late x top) e is so = ap (late_if how (is_late_by how.policy.settle how.mode before e) e) (sym so.1)
by_top how before p e is so = cc

pub refused-placed : (how : StreamSettings) (before : List Raw) (raw : Raw) (p : Placed) (e : Event) → place_answer how.mode before raw ≡ Ok p
    → event_in p ≡ e ∷ [] → refused_late how before raw ≡ refused_for how (events before) e (top_in p)
refused-placed how before raw p e answer is = let c = comes how.mode before raw p answer in rw (c.0, is) (by_top how (events before) p e is c.1)

tells-pick : (k : ℕ) (mode : Mode) (before : List Event) (e : Event) (z b : Bool) → (k == 0) ≡ z
    → is_ordered mode e ≡ b → delivered_after k mode before (e ∷ []) ≡ tells k mode before e
tells-pick k mode before e z b none is = search (rules, arith, append-nil)

pub fresh-placed : (how : StreamSettings) (ws : List ℕ) (raw : Raw) (p : Placed) (e : Event) → place_answer how.mode (map how.meaning ws) raw ≡ Ok p
    → event_in p ≡ e ∷ [] → fresh how ws raw ≡ tells how.policy.settle how.mode (events (map how.meaning ws)) e
fresh-placed how ws raw p e answer is =
    rw ((comes how.mode (map how.meaning ws) raw p answer).0, is) (tells-pick how.policy.settle how.mode (events (map how.meaning ws)) e _ _ refl refl)

-- a record that is no event
pub skipped-event : (p : Placed) → (p ≡ WrapPlaced) ⊎ (p ≡ ReservedPlaced) → event_in p ≡ []
skipped-event p is = ⊎_elim (λ (e : p ≡ WrapPlaced). rw e refl) (λ (e : p ≡ ReservedPlaced). rw e refl) is

pub skipped-refusal : (how : StreamSettings) (before : List Raw) (raw : Raw) (p : Placed)
    → place_answer how.mode before raw ≡ Ok p → event_in p ≡ [] → refused_late how before raw ≡ None
skipped-refusal how before raw p answer is = rw ((comes how.mode before raw p answer).0, is) (nothing (stops_late how.policy.order))

pub skipped-fresh : (how : StreamSettings) (ws : List ℕ) (raw : Raw) (p : Placed)
    → place_answer how.mode (map how.meaning ws) raw ≡ Ok p → event_in p ≡ [] → fresh how ws raw ≡ []
skipped-fresh how ws raw p answer is = rw ((comes how.mode (map how.meaning ws) raw p answer).0, is) (nothing (how.policy.settle == 0))
