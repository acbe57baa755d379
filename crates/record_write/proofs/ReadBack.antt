-- Photons are read back from their words.
use Rattle.std.proofs.Common.{◌≡◌, ◌∙◌, ◌+◌, ◌*◌, ◌/◌, ◌%◌, ◌^◌, ◌<◌, ◌≤◌, ℕ, Bool, false, None, List, [], ◌∷◌, ◌++◌, length, map, refl, ap, arith, nat_lt}
use Rattle.std.proofs.{Common.{nat_le, ◌&&◌, if◌then◌else◌, subst, append_assoc, append-nil, rules}, lemmas.List.{length-map, length_push, map_push}}
use Rattle.std.{proofs.lemmas.{List.{map-append, Sums.sum_by-append, Elements.recursion_from_All}, Bool.Decides.nat_tests}, specs.declared.option.Option.Option}
use Rattle.{std.specs.List.AllByRecursion, tally_base.specs.declared.event.{Event.Event, EventKind.TheVariants.Photon as PhotonEvent, Policy.Policy}}
use Rattle.tally_base.specs.{declared.{fault.Fault.Fault, header.Mode.Mode}, Events.is_ordered, Limits.wrap_limit}
use Rattle.ptu_definitions.specs.{declared.records.Raw.TheVariants.Photon, Kept.{mark, marked, kept, is_late, greatest, ordered_time}, Prefixes.each_after}
use Rattle.ptu_definitions.specs.{Prefixes.listed, Settled.{Rises, delivered, not_marked}, Streams.{StreamSettings, late_refusal, refusal, refusals}}
use Rattle.ptu_definitions.{specs.{Streams.{record_refusal, given}, Times.{amount, base, event_after, events}}, proofs.DeliveredLaws.is_late_by-0}
use Rattle.ptu_definitions.proofs.{DeliveredLaws.not_marked-false, Firsts.given-all, SettledLemmas.Rises-IsNonDecreasingBy, StreamLemmas.{later, greatest-push}}
use Rattle.{minimal_file.{specs.ShortFiles.{Timed, timed}, proofs.ShortHeaders.IsWord}, record_write.specs.Picked.{unit_of, wrap_word, photon_word}}
use Rattle.record_write.specs.Picked.{picked_words, picked_events, is_too_late, meaning_in, IsPhotonOf, IsPhotonOrWrap, CanBePicked, StaysWithin}
use Rattle.record_write.proofs.{Meanings.{wrap-meaning, photon-meaning, wrap-small, photon-small}, Walks.{Walks, IsAt, records_of, walk, at-wrap, at-photon}}

pub rising : (mode : Mode) (photons : List Event) → CanBePicked mode photons → Rises 0 photons
rising mode photons can = Rises-IsNonDecreasingBy 0 photons can.in_order (λ d some. omega arith)

start : (mode : Mode) → IsAt mode [] (0 / unit_of mode * unit_of mode) 0
unfolding events
start mode = search (rules, arith)

over : (mode : Mode) (C : List ℕ → List ℕ → List Event → Type 0) → Walks mode C
    → (photons : List Event) → CanBePicked mode photons → C [] (picked_words mode photons) photons
unfolding picked_words
over mode C walks photons can =
    walk mode C walks [] 0 [] photons refl (start mode) (rising mode photons can) (recursion_from_All (IsPhotonOf mode) photons can.fits)
    (recursion_from_All (λ e. is_too_late mode e.time ≡ false) photons can.in_time)

-- Each word has 32 bits.
pub small-words : (mode : Mode) (photons : List Event) → CanBePicked mode photons → AllByRecursion IsWord (picked_words mode photons)
small-words mode = over mode (λ before words photons. AllByRecursion IsWord words) (record {
  none = λ before. tt;
  wrap = λ before units words photons some few room rest. (wrap-small mode units few, rest);
  photon = λ before e input dtime words photons same fits here late rest. (photon-small mode input dtime e.time fits, rest);
})

-- Each is a photon or a wrap.
pub photons-and-wraps : (mode : Mode) (photons : List Event) → CanBePicked mode photons → AllByRecursion (IsPhotonOrWrap mode) (picked_words mode photons)
photons-and-wraps mode = over mode (λ before words photons. AllByRecursion (IsPhotonOrWrap mode) words) (record {
  none = λ before. tt;
  wrap = λ before units words photons some few room rest. (rw (wrap-meaning mode units some few) refl, rest);
  photon = λ before e input dtime words photons same fits here late rest. (rw (photon-meaning mode input dtime e.time fits) refl, rest);
})

-- No wrap passes the greatest time.
last-within : (mode : Mode) (photons : List Event) → CanBePicked mode photons → base (records_of mode (picked_words mode photons)) ≤ wrap_limit
unfolding events
last-within mode photons can =
    let walks = over mode (λ before words photons. base (records_of mode before) ≤ wrap_limit → base (records_of mode (before ++ words)) ≤ wrap_limit) (record {
      none = λ before low. rw (append-nil before) low;
      wrap = λ before units words photons some few room rest low.
          let now = (at-wrap mode before (base (records_of mode before)) (greatest mode (events (records_of mode before))) units
          (record { base = refl; greatest = omega arith }) some few).base in
          subst (λ l. base (records_of mode l) ≤ wrap_limit) (append_assoc before (wrap_word units ∷ []) words) (rest (omega (arith, now, room)));
      photon = λ before e input dtime words photons same fits here late rest low.
          let now = (at-photon mode before (base (records_of mode before)) (greatest mode (events (records_of mode before))) input dtime e.time
          (record { base = refl; greatest = omega arith }) fits here late).base in
          subst (λ l. base (records_of mode l) ≤ wrap_limit)
          (append_assoc before (photon_word mode input dtime e.time ∷ []) words) (rest (omega (arith, now, low)));
    }) in
    walks photons can (omega arith)

pub within : (mode : Mode) (photons : List Event) → CanBePicked mode photons → StaysWithin mode (picked_words mode photons)
within mode photons can = λ front back are.
    let all = last-within mode photons can in
    let parts : base (records_of mode (picked_words mode photons)) ≡ base (records_of mode front) + base (records_of mode back) =
    ap (λ l. base (records_of mode l)) are ∙ ap base (map-append (meaning_in mode) front back)
    ∙ sum_by-append amount (records_of mode front) (records_of mode back) in
    omega (arith, all, parts)

-- The events are the photons.
abbrev AreEvents : Mode → List ℕ → List ℕ → List Event → Type 0
AreEvents mode before words photons = map timed (each_after event_after (records_of mode before) (records_of mode words)) ≡ map timed photons

wrap-events : (mode : Mode) (before : List ℕ) (units : ℕ) (words : List ℕ) (photons : List Event) → 0 < units → units < unit_of mode
    → AreEvents mode (before ++ wrap_word units ∷ []) words photons → AreEvents mode before (wrap_word units ∷ words) photons
wrap-events mode before units words photons some few rest = search (rules, arith, wrap-meaning, map_push)

photon-events : (mode : Mode) (before : List ℕ) (e : Event) (input dtime : ℕ) (words : List ℕ) (photons : List Event) → e.kind ≡ PhotonEvent input dtime
    → meaning_in mode (photon_word mode input dtime e.time) ≡ Photon input (e.time % unit_of mode) dtime
    → base (records_of mode before) + e.time % unit_of mode ≡ e.time → AreEvents mode (before ++ photon_word mode input dtime e.time ∷ []) words photons → AreEvents mode before (photon_word mode input dtime e.time ∷ words) (e ∷ photons)
photon-events mode before e input dtime words photons same raw here rest = search (rules, arith, map_push)

pub events-photons : (mode : Mode) (photons : List Event) → CanBePicked mode photons → map timed (picked_events mode photons) ≡ map timed photons
unfolding events
events-photons mode = over mode (AreEvents mode) (record {
  none = λ before. refl;
  wrap = λ before units words photons some few room rest. wrap-events mode before units words photons some few rest;
  photon = λ before e input dtime words photons same fits here late rest. photon-events mode before e input dtime words photons same
      (photon-meaning mode input dtime e.time fits) here rest;
})

-- No record is refused.
abbrev how_in : Mode → Policy → StreamSettings
how_in mode policy = record { mode = mode; meaning = meaning_in mode; policy = policy }

abbrev AreUnrefused : Mode → Policy → List ℕ → List ℕ → List Event → Type 0
AreUnrefused mode policy before words photons = length before + length words ≤ policy.records
    → each_after (λ before word. listed (refusal (how_in mode policy) before word)) before words ≡ []

no-cause : (full reserved passing stops : Bool) (limit gap pass late : Option Fault) → full ≡ false → reserved ≡ false → passing ≡ false → late ≡ None
    → (if full then limit else if reserved then gap else if passing then pass else if stops then late else None) ≡ None
no-cause full reserved passing stops limit gap pass late f r p l = search (rules, arith)

is-room : (most : ℕ) (mode : Mode) (before : List ℕ) → length before < most → nat_le most (length (records_of mode before)) ≡ false
is-room most mode before few = let size : length (records_of mode before) ≡ length before = length-map before (meaning_in mode) in grind (arith, nat_tests)

refusal-wrap : (mode : Mode) (policy : Policy) (before : List ℕ) (units : ℕ) → 0 < units → units < unit_of mode → length before < policy.records
    → base (records_of mode before) + unit_of mode * units ≤ 2 ^ 62 → refusal (how_in mode policy) before (wrap_word units) ≡ None
unfolding refusal
refusal-wrap mode policy before units some few room low = search (rules, arith, wrap-meaning, records_of, no-cause, is-room)

not-late : (mode : Mode) (before : List Event) (e : Event) → greatest mode before ≤ e.time → is_late mode before e ≡ false
not-late mode before e low =
    let none : nat_lt e.time (greatest mode before) ≡ false = grind (arith, nat_tests) in
    rw (later mode before e.time, none) (and-false (is_ordered mode e))
  where
    and-false : (b : Bool) → (b && false) ≡ false
    and-false b = search (rules, arith)

none-late : (mode : Mode) (k : ℕ) (before : List Event) (e : Event) → k ≡ 0 → greatest mode before ≤ e.time → late_refusal k mode before (e ∷ []) ≡ None
none-late mode k before e first low = rw (first, is_late_by-0 mode before e, not-late mode before e low) refl

refusal-photon : (mode : Mode) (policy : Policy) (before : List ℕ) (e : Event) (input dtime : ℕ)
    → meaning_in mode (photon_word mode input dtime e.time) ≡ Photon input (e.time % unit_of mode) dtime → policy.settle ≡ 0 → length before < policy.records
    → base (records_of mode before) + e.time % unit_of mode ≡ e.time → greatest mode (events (records_of mode before)) ≤ e.time
    → refusal (how_in mode policy) before (photon_word mode input dtime e.time) ≡ None
unfolding refusal
refusal-photon mode policy before e input dtime raw first room here low = search (rules, arith, no-cause, records_of, is-room, none-late)

pub unrefused : (mode : Mode) (policy : Policy) (photons : List Event) → CanBePicked mode photons → policy.settle ≡ 0
    → length (picked_words mode photons) ≤ policy.records → record_refusal (how_in mode policy) (picked_words mode photons) ≡ None
unfolding refusals
unrefused mode policy photons can first room =
    let clear = over mode (AreUnrefused mode policy) (record {
      none = λ before room. refl;
      wrap = λ before units words photons some few low rest room.
          rw (refusal-wrap mode policy before units some few (omega (arith, room)) low) (rest (omega (arith, room, length_push before (wrap_word units))));
      photon = λ before e input dtime words photons same fits here late rest room.
          rw (refusal-photon mode policy before e input dtime (photon-meaning mode input dtime e.time fits) first (omega (arith, room)) here late) (rest (omega (arith, room, length_push before (photon_word mode input dtime e.time))));
    }) photons can in
    rw (clear (omega (arith, room))) refl

-- None is late.
rises-timed : (low : ℕ) (es photons : List Event) → map timed es ≡ map timed photons → Rises low photons → Rises low es
rises-timed low [] photons same up = tt
rises-timed low (e ∷ es) [] same up = cc
rises-timed low (e ∷ es) (p ∷ photons) same up =
    let first : timed e ≡ timed p = cc in
    let rest : map timed es ≡ map timed photons = cc in
    let time : e.time ≡ p.time = ap (λ (t : Timed). t.time) first in
    (omega (arith, up.0, time), rw time (rises-timed p.time es photons rest up.1))

ordered-le : (mode : Mode) (e : Event) → ordered_time mode e ≤ e.time
ordered-le mode e = search (rules, arith)

marked-rising : (mode : Mode) (low : ℕ) (before es : List Event) → greatest mode before ≤ low
    → Rises low es → each_after (mark mode) before es ≡ map (λ e. (e, false)) es
marked-rising mode low before [] below up = refl
marked-rising mode low before (e ∷ es) below up =
    let late : is_late mode before e ≡ false = not-late mode before e (omega (arith, below, up.0)) in
    let next : greatest mode (before ++ e ∷ []) ≤ e.time = omega (arith, greatest-push mode before e, ordered-le mode e, below, up.0) in
    rw (late, marked-rising mode e.time (before ++ e ∷ []) es next up.1) refl

picked-marked : (mode : Mode) (photons : List Event) → CanBePicked mode photons
    → each_after (mark mode) [] (picked_events mode photons) ≡ map (λ e. (e, false)) (picked_events mode photons)
picked-marked mode photons can =
    marked-rising mode 0 [] (picked_events mode photons) (omega arith)
    (rises-timed 0 (picked_events mode photons) photons (events-photons mode photons can) (rising mode photons can))

pub kept-events : (mode : Mode) (photons : List Event) → CanBePicked mode photons → kept mode (picked_events mode photons) ≡ picked_events mode photons
unfolding kept marked
kept-events mode photons can = ap not_marked (picked-marked mode photons can) ∙ not_marked-false (picked_events mode photons)

-- A stream of the words gives these events.
pub given-events : (mode : Mode) (policy : Policy) (photons : List Event) → CanBePicked mode photons
    → policy.settle ≡ 0 → length (picked_words mode photons) ≤ policy.records
    → given (how_in mode policy) (picked_words mode photons) ≡ map (λ e. (e, false)) (picked_events mode photons)
unfolding delivered marked
given-events mode policy photons can first room =
    given-all (how_in mode policy) (picked_words mode photons) (unrefused mode policy photons can first room)
    ∙ rw first (picked-marked mode photons can)
