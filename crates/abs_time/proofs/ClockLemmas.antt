-- One record more.
use Rattle.std.proofs.Common.{◌≡◌, ◌+◌, ◌-◌, ◌<◌, ◌≤◌, ℕ, List, [], ◌∷◌, ◌++◌, true, false, Ok, Err, max, refl, sym, ap, append-nil, arith, length-append}
use Rattle.{std.proofs.{Common.nat_lt, lemmas.{List.Sums.sum_by-append, Bool.Decides.nat_tests}}, tally_base.specs.declared.event.Event.Event}
use Rattle.tally_base.specs.declared.{event.EventKind.TheVariants.{Photon as PhotonEvent, Marker as MarkerEvent}, fault.Fault.TheVariants.TimeLimit}
use Rattle.{tally_base.specs.{declared.header.Mode.Mode, Limits.wrap_limit}, ptu_definitions.specs.declared.records.Raw.{Raw, TheVariants.{Photon, Marker}}}
use Rattle.ptu_definitions.specs.{declared.records.Raw.TheVariants.{Wrap, Reserved}, Times.{amount, base, events}, Kept.{greatest, ordered_time}}
use Rattle.{ptu_definitions.proofs.StreamLemmas.{events-push, later, greatest-push}, abs_time.specs.declared.clock.Placed.TheVariants.Wrap as WrapPlaced}
use Rattle.abs_time.specs.{declared.clock.Placed.TheVariants.Reserved as ReservedPlaced, Placing.{IsClock, against, placed_event, place_answer}}

base-push : (records : List Raw) (raw : Raw) → base (records ++ raw ∷ []) ≡ base records + amount raw
base-push records raw = let e = sum_by-append amount records (raw ∷ []) in omega (arith, e)

-- the greatest time kept decides which events are late
pub against-placed : (mode : Mode) (top : ℕ) (before : List Event) (e : Event) → top ≡ greatest mode before → against mode top e ≡ placed_event mode before e
against-placed mode top before e h = rw (h, later mode before e.time) refl

-- a record that is an event
pub IsClock-photon : (mode : Mode) (count sum top input time dtime : ℕ) (records : List Raw) → IsClock mode count sum top records
    → IsClock mode (count + 1) sum (max top (ordered_time mode (record { place = count + 1; kind = PhotonEvent input dtime; time = sum + time })))
    (records ++ Photon input time dtime ∷ [])
IsClock-photon mode count sum top input time dtime records h = record {
  placed = omega (arith, length-append records (Photon input time dtime ∷ []), h.placed);
  base = omega (arith, base-push records (Photon input time dtime), h.base);
  greatest = rw (h.placed, h.base, h.greatest, events-push records (Photon input time dtime)) (sym (greatest-push mode (events records) _));
}

pub IsClock-marker : (mode : Mode) (count sum top bits time : ℕ) (records : List Raw) → IsClock mode count sum top records
    → IsClock mode (count + 1) sum (max top (ordered_time mode (record { place = count + 1; kind = MarkerEvent bits; time = sum + time })))
    (records ++ Marker bits time ∷ [])
IsClock-marker mode count sum top bits time records h = record {
  placed = omega (arith, length-append records (Marker bits time ∷ []), h.placed);
  base = omega (arith, base-push records (Marker bits time), h.base);
  greatest = rw (h.placed, h.base, h.greatest, events-push records (Marker bits time)) (sym (greatest-push mode (events records) _));
}

pub IsClock-wrap : (mode : Mode) (count sum top ticks : ℕ) (records : List Raw) → IsClock mode count sum top records
    → IsClock mode (count + 1) (sum + ticks) top (records ++ Wrap ticks ∷ [])
IsClock-wrap mode count sum top ticks records h = record {
  placed = omega (arith, length-append records (Wrap ticks ∷ []), h.placed);
  base = omega (arith, base-push records (Wrap ticks), h.base);
  greatest = rw (h.greatest, events-push records (Wrap ticks), append-nil) refl;
}

pub IsClock-reserved : (mode : Mode) (count sum top : ℕ) (records : List Raw) → IsClock mode count sum top records
    → IsClock mode (count + 1) sum top (records ++ Reserved ∷ [])
IsClock-reserved mode count sum top records h = record {
  placed = omega (arith, length-append records (Reserved ∷ []), h.placed);
  base = omega (arith, base-push records Reserved, h.base);
  greatest = rw (h.greatest, events-push records Reserved, append-nil) refl;
}

-- the answers
pub answer-photon : (mode : Mode) (count sum top input time dtime : ℕ) (records : List Raw) → IsClock mode count sum top records
    → Ok (against mode top (record { place = count + 1; kind = PhotonEvent input dtime; time = sum + time })) ≡ place_answer mode records
    (Photon input time dtime)
unfolding place_answer
answer-photon mode count sum top input time dtime records h = rw (h.placed, h.base) (ap Ok (against-placed mode top (events records) _ h.greatest))

pub answer-marker : (mode : Mode) (count sum top bits time : ℕ) (records : List Raw) → IsClock mode count sum top records
    → Ok (against mode top (record { place = count + 1; kind = MarkerEvent bits; time = sum + time })) ≡ place_answer mode records (Marker bits time)
unfolding place_answer
answer-marker mode count sum top bits time records h = rw (h.placed, h.base) (ap Ok (against-placed mode top (events records) _ h.greatest))

pub answer-limit : (mode : Mode) (count sum top ticks : ℕ) (records : List Raw)
    → sum ≤ wrap_limit → wrap_limit - sum < ticks → IsClock mode count sum top records
    → Err (TimeLimit (count + 1)) ≡ place_answer mode records (Wrap ticks)
unfolding place_answer
answer-limit mode count sum top ticks records within more h =
    let e : nat_lt wrap_limit (base records + ticks) ≡ true = rw (← h.base) (grind (arith, nat_tests)) in
    rw (e, h.placed) refl

pub answer-wrap : (mode : Mode) (count sum top ticks : ℕ) (records : List Raw)
    → sum ≤ wrap_limit → ticks ≤ wrap_limit - sum → IsClock mode count sum top records
    → Ok WrapPlaced ≡ place_answer mode records (Wrap ticks)
unfolding place_answer
answer-wrap mode count sum top ticks records within few h =
    let e : nat_lt wrap_limit (base records + ticks) ≡ false = rw (← h.base) (grind (arith, nat_tests)) in
    rw e refl

pub answer-reserved : (mode : Mode) (records : List Raw) → Ok ReservedPlaced ≡ place_answer mode records Reserved
unfolding place_answer
answer-reserved mode records = refl
