-- An induction over the words of photons: wrap by wrap, and photon by photon.
use Rattle.std.proofs.Common.{◌≡◌, ◌+◌, ◌-◌, ◌*◌, ◌/◌, ◌%◌, ◌^◌, ◌<◌, ◌≤◌, ℕ, zero, suc, Bool, true, false, List, [], ◌∷◌, ◌++◌, length, map, replicate, refl}
use Rattle.std.proofs.{Common.{ap, ◌∙◌, arith, append_assoc, append-nil, ◌==◌, if◌then◌else◌, rules}, lemmas.{Nat.mod_below, Bool.eqb-true, List.map_push}}
use Rattle.{std.{proofs.lemmas.List.Sums.sum_by_push, specs.List.AllByRecursion}, tally_base.specs.declared.event.{Event.Event, EventKind.EventKind}}
use Rattle.tally_base.specs.{declared.{event.EventKind.TheVariants.{Photon as PhotonEvent, Marker as MarkerEvent}, header.Mode.Mode}, Events.is_photon_kind}
use Rattle.ptu_definitions.specs.{declared.records.Raw.{Raw, TheVariants.Photon}, Layouts.KindFits, Kept.{greatest, ordered_time}, Prefixes.each_after}
use Rattle.ptu_definitions.{specs.{Settled.Rises, Times.{amount, base, events}}, proofs.{PrefixLemmas.last_after-push, StreamLemmas.events-push}}
use Rattle.{ptu_definitions.proofs.StreamLemmas.greatest-push, record_write.specs.Picked.{unit_of, wrap_word, wraps, photon_word, own_word, time_or_none}}
use Rattle.record_write.{specs.Picked.{last_time, photon_words, is_too_late, IsPhotonOf, meaning_in}, proofs.Meanings.{wrap-meaning, photon-meaning}}
use Rattle.record_write.proofs.Meanings.{units-lead, unit-time, unit-in-time, unit-some}

abbrev pub records_of : Mode → List ℕ → List Raw
records_of mode words = map (meaning_in mode) words

-- what holds of the words after others and of their photons, word by word
pub record Walks (mode : Mode) (C : List ℕ → List ℕ → List Event → Type 0) : Type 0 where
  pub none : (before : List ℕ) → C before [] []
  pub wrap : (before : List ℕ) (units : ℕ) (words : List ℕ) (photons : List Event) → 0 < units → units < unit_of mode
      → base (records_of mode before) + unit_of mode * units ≤ 2 ^ 62
      → C (before ++ wrap_word units ∷ []) words photons → C before (wrap_word units ∷ words) photons
  pub photon : (before : List ℕ) (e : Event) (input dtime : ℕ) (words : List ℕ) (photons : List Event)
      → e.kind ≡ PhotonEvent input dtime → KindFits mode (PhotonEvent input dtime)
      → base (records_of mode before) + e.time % unit_of mode ≡ e.time → greatest mode (events (records_of mode before)) ≤ e.time
      → C (before ++ photon_word mode input dtime e.time ∷ []) words photons → C before (photon_word mode input dtime e.time ∷ words) (e ∷ photons)

-- the wraps and the greatest time of some words
pub record IsAt (mode : Mode) (before : List ℕ) (sum top : ℕ) : Type 0 where
  pub base : base (records_of mode before) ≡ sum
  pub greatest : greatest mode (events (records_of mode before)) ≤ top

pub at-wrap : (mode : Mode) (before : List ℕ) (sum top units : ℕ) → IsAt mode before sum top → 0 < units
    → units < unit_of mode → IsAt mode (before ++ wrap_word units ∷ []) (sum + unit_of mode * units) top
at-wrap mode before sum top units is some few = search (rules, arith, wrap-meaning, sum_by_push, events-push, append-nil, map_push)

ordered-photon : (mode : Mode) (place input dtime time : ℕ) → ordered_time mode (record { place = place; kind = PhotonEvent input dtime; time = time }) ≡ time
ordered-photon mode place input dtime time = search (rules, arith)

pub at-photon : (mode : Mode) (before : List ℕ) (sum top input dtime time : ℕ) → IsAt mode before sum top
    → KindFits mode (PhotonEvent input dtime) → sum + time % unit_of mode ≡ time → top ≤ time
    → IsAt mode (before ++ photon_word mode input dtime time ∷ []) sum time
at-photon mode before sum top input dtime time is fits here late =
    let raw = photon-meaning mode input dtime time fits in
    let records = records_of mode before in
    let photon = Photon input (time % unit_of mode) dtime in
    let more : base (records ++ photon ∷ []) ≡ base records + 0 = sum_by_push amount records photon in
    let is_base = is.base in
    let low = is.greatest in
    let at : base records + time % unit_of mode ≡ time = ap (λ n. n + time % unit_of mode) is_base ∙ here in
    let next = events-push records photon in
    let top_is = greatest-push mode (events records)
    (record { place = length records + 1; kind = PhotonEvent input dtime; time = base records + time % unit_of mode }) in
    let pushed : records_of mode (before ++ photon_word mode input dtime time ∷ []) ≡ records ++ photon ∷ [] =
    map_push (meaning_in mode) before (photon_word mode input dtime time) ∙ ap (λ r. records ++ r ∷ []) raw in
    record {
      base = rw pushed (more ∙ omega (arith, is_base));
      greatest = rw (pushed, next, top_is, ordered-photon mode) (omega (arith, low, at, late));
    }

-- so many wraps of as many units each
copies : (mode : Mode) (C : List ℕ → List ℕ → List Event → Type 0) → Walks mode C
    → (count units : ℕ) (before more : List ℕ) (photons : List Event) (sum top : ℕ) → 0 < units → units < unit_of mode → IsAt mode before sum top
    → sum + count * (unit_of mode * units) ≤ 2 ^ 62 → ((longer : List ℕ) → IsAt mode longer (sum + count * (unit_of mode * units)) top → C longer more photons)
    → C before (replicate count (wrap_word units) ++ more) photons
copies mode C walks zero units before more photons sum top some few is room go = search (rules, arith)
copies mode C walks (suc n) units before more photons sum top some few is room go =
    let step = unit_of mode * units in
    let all : (sum + step) + n * step ≡ sum + suc n * step = omega arith in
    let is_base = is.base in
    walks.wrap before units (replicate n (wrap_word units) ++ more) photons some few (omega (arith, is_base, room))
    (copies mode C walks n units (before ++ wrap_word units ∷ []) more photons (sum + step) top some few
    (at-wrap mode before sum top units is some few) (omega (arith, all, room)) (rw all go))

one_left : (mode : Mode) (C : List ℕ → List ℕ → List Event → Type 0) → Walks mode C
    → (left : ℕ) (none : Bool) (before more : List ℕ) (photons : List Event) (sum top : ℕ) → (left == 0) ≡ none → left < unit_of mode → IsAt mode before sum top
    → sum + unit_of mode * left ≤ 2 ^ 62 → ((longer : List ℕ) → IsAt mode longer (sum + unit_of mode * left) top → C longer more photons)
    → C before ((if none then [] else wrap_word left ∷ []) ++ more) photons
one_left mode C walks left true before more photons sum top none few is room go = search (rules, arith, eqb-true)
one_left mode C walks zero false before more photons sum top none few is room go = cc
one_left mode C walks (suc n) false before more photons sum top none few is room go =
    let is_base = is.base in
    walks.wrap before (suc n) more photons (omega arith) few (omega (arith, is_base, room))
    (go (before ++ wrap_word (suc n) ∷ []) (at-wrap mode before sum top (suc n) is (omega arith) few))

-- the wraps of so many units
all-wraps : (mode : Mode) (C : List ℕ → List ℕ → List Event → Type 0) → Walks mode C
    → (most units : ℕ) (before more : List ℕ) (photons : List Event) (sum top : ℕ) → 0 < most → most < unit_of mode → IsAt mode before sum top
    → sum + units * unit_of mode ≤ 2 ^ 62 → ((longer : List ℕ) → IsAt mode longer (sum + units * unit_of mode) top → C longer more photons)
    → C before (wraps most units ++ more) photons
all-wraps mode C walks most units before more photons sum top some few is room go =
    let count = units / most in
    let left = units % most in
    let below : left < most = mod_below units most some in
    let parts : most * count + left ≡ units = omega arith in
    let whole : (most * count + left) * unit_of mode ≡ units * unit_of mode = ap (λ n. n * unit_of mode) parts in
    let all : (sum + count * (unit_of mode * most)) + unit_of mode * left ≡ sum + units * unit_of mode = omega (arith, whole) in
    let front = replicate count (wrap_word most) in
    let last = if left == 0 then [] else wrap_word left ∷ [] in
    rw (append_assoc front last more)
    (copies mode C walks count most before (last ++ more) photons sum top some few is (omega (arith, all, room))
    (λ longer now. one_left mode C walks left (left == 0) longer more photons (sum + count * (unit_of mode * most)) top refl (omega (arith, below, few)) now (omega (arith, all, room)) (rw all go)))

own : (mode : Mode) (C : List ℕ → List ℕ → List Event → Type 0) → Walks mode C → (kind : EventKind) (before more : List ℕ) (e : Event) (photons : List Event) (sum top : ℕ) → e.kind ≡ kind → is_photon_kind kind ≡ true → KindFits mode kind → IsAt mode before sum top
    → sum + e.time % unit_of mode ≡ e.time → top ≤ e.time → ((longer : List ℕ) → IsAt mode longer sum e.time → C longer more photons)
    → C before (own_word mode kind e.time ++ more) (e ∷ photons)
own mode C walks (MarkerEvent bits) before more e photons sum top same photon fits is here late go = cc
own mode C walks (PhotonEvent input dtime) before more e photons sum top same photon fits is here late go =
    let is_base = is.base in
    let low = is.greatest in
    walks.photon before e input dtime more photons same fits (ap (λ n. n + e.time % unit_of mode) is_base ∙ here) (omega (arith, low, late))
    (go (before ++ photon_word mode input dtime e.time ∷ []) (at-photon mode before sum top input dtime e.time is fits here late))

pub walk : (mode : Mode) (C : List ℕ → List ℕ → List Event → Type 0) → Walks mode C
    → (behind : List Event) (last : ℕ) (before : List ℕ) (photons : List Event) → last_time behind ≡ last
    → IsAt mode before (last / unit_of mode * unit_of mode) last → Rises last photons
    → AllByRecursion (IsPhotonOf mode) photons → AllByRecursion (λ e. is_too_late mode e.time ≡ false) photons
    → C before (each_after (photon_words mode) behind photons) photons
walk mode C walks behind last before [] is_last is rises are soon = walks.none before
walk mode C walks behind last before (e ∷ photons) is_last is rises are soon =
    let late : last ≤ e.time = rises.0 in
    let unit = unit_of mode in
    let units = e.time / unit - last / unit in
    let lead = units-lead mode last e.time late in
    let end = unit-in-time mode e.time soon.0 in
    let here = unit-time mode e.time in
    let some = unit-some mode in
    let front = wraps (unit - 1) units in
    let word = own_word mode e.kind e.time in
    let rest = each_after (photon_words mode) (behind ++ e ∷ []) photons in
    rw (is_last, append_assoc front word rest)
    (all-wraps mode C walks (unit - 1) units before (word ++ rest) (e ∷ photons) (last / unit * unit) last some.0 some.1 is (omega (arith, lead, end))
    (λ longer now. own mode C walks e.kind longer rest e photons (e.time / unit * unit) last refl are.0.photon are.0.fits (rw lead at now) here late
    (λ next there. walk mode C walks (behind ++ e ∷ []) e.time next photons (ap time_or_none (last_after-push _ behind e)) there rises.1 are.1 soon.1)))
