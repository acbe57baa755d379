-- The words of a file of photons.
use Rattle.std.specs.{Prelude.{ℕ, ◌+◌, ◌-◌, ◌*◌, ◌/◌, ◌%◌, ◌^◌, ◌==◌, ◌≡◌, ◌≤◌, ◌||◌, nat_lt, length, Bool, true, false, List, [], ◌∷◌, ◌++◌, None, Some, map, replicate, if◌then◌else◌}, List.All}
use Rattle.std.specs.{List.Sorted.IsNonDecreasingBy, declared.option.Option.Option}
use Rattle.tally_base.specs.{declared.{event.{Event.Event, Policy.Policy, EventKind.{EventKind, TheVariants.{Photon, Marker}}}, header.Mode.{Mode, TheVariants.{T2, T3}}}, Events.is_photon}
use Rattle.{tally_base.specs.Limits.wrap_limit, ptu_definitions.specs.{declared.records.Raw.Raw, Layouts.{KindFits, meaning_of}, Kinds.{is_wrap, is_photon as is_record_photon}, Prefixes.{each, last}}}
use Rattle.{ptu_definitions.specs.{Streams.{reading, record_refusal, given}, Times.{base, events}}, minimal_file.specs.ShortFiles.{minimal_file, short_type}}

-- how many ticks one unit of a wrap has
abbrev pub unit_of : Mode → ℕ
unit_of T2 = 2 ^ 25
unit_of T3 = 2 ^ 10

-- a wrap of so many units
abbrev pub wrap_word : ℕ → ℕ
wrap_word units = 0xFE000000 + units

-- The wraps of so many units: those of the greatest number of units, as many as there are, and one of the units that are left.
abbrev pub wraps : ℕ → ℕ → List ℕ
wraps most units = replicate (units / most) (wrap_word most) ++ (if units % most == 0 then [] else wrap_word (units % most) ∷ [])

-- the word of a photon: the input, the dtime and how far its time is in its unit
abbrev pub photon_word : Mode → ℕ → ℕ → ℕ → ℕ
photon_word T2 input dtime time = (if input == 0 then 2 ^ 31 else (input - 1) * 2 ^ 25) + time % 2 ^ 25
photon_word T3 input dtime time = input * 2 ^ 25 + dtime * 2 ^ 10 + time % 2 ^ 10

-- the word of a photon, and none of a marker
abbrev pub own_word : Mode → EventKind → ℕ → List ℕ
own_word mode (Photon input dtime) time = photon_word mode input dtime time ∷ []
own_word mode (Marker bits) time = []

-- the wraps of the units that have begun from one time to another, each of fewer units than a unit has ticks
abbrev pub wraps_between : Mode → ℕ → ℕ → List ℕ
wraps_between mode before time = wraps (unit_of mode - 1) (time / unit_of mode - before / unit_of mode)

-- the words of an event after a time: those wraps, and its own word
abbrev pub words_behind : Mode → ℕ → EventKind → ℕ → List ℕ
words_behind mode before kind time = wraps_between mode before time ++ own_word mode kind time

abbrev pub time_or_none : Option Event → ℕ
time_or_none None = 0
time_or_none (Some e) = e.time

-- the time of the last of these photons, or 0 where there is none
abbrev pub last_time : List Event → ℕ
last_time photons = time_or_none (last photons)

-- the words of a photon after these photons
abbrev pub photon_words : Mode → List Event → Event → List ℕ
photon_words mode before e = words_behind mode (last_time before) e.kind e.time

-- The words of photons in order of time.
unfoldable pub picked_words : Mode → List Event → List ℕ
picked_words mode photons = each (photon_words mode) photons

-- The file of these photons.
abbrev pub picked_file : Mode → List Event → List ℕ
picked_file mode photons = minimal_file mode (picked_words mode photons)

-- The wraps before a photon of this time add up to more than 2^62 (`wrap_limit`).
abbrev pub is_too_late : Mode → ℕ → Bool
is_too_late mode time = nat_lt wrap_limit (time - time % unit_of mode)

-- a photon that a file of this mode can have
pub record IsPhotonOf (mode : Mode) (e : Event) : Type 0 where
  pub photon : is_photon e ≡ true
  pub fits : KindFits mode e.kind

-- Photons that can be written: their times never fall, and none is too late.
pub record CanBePicked (mode : Mode) (photons : List Event) : Type 0 where
  pub fits : All (IsPhotonOf mode) photons
  pub in_order : IsNonDecreasingBy (λ e. e.time) photons
  pub in_time : All (λ e. is_too_late mode e.time ≡ false) photons

-- what a word of the file means
abbrev pub meaning_in : Mode → ℕ → Raw
meaning_in mode = meaning_of (short_type mode)

-- The events that are read from the words of photons.
abbrev pub picked_events : Mode → List Event → List Event
picked_events mode photons = events (map (meaning_in mode) (picked_words mode photons))

-- the word is a photon or a wrap
abbrev pub IsPhotonOrWrap : Mode → ℕ → Type 0
IsPhotonOrWrap mode word = (is_record_photon (meaning_in mode word) || is_wrap (meaning_in mode word)) ≡ true

-- The wraps of no front of the words add up to more than 2^62 (`wrap_limit`).
abbrev pub StaysWithin : Mode → List ℕ → Type 0
StaysWithin mode words = (front back : List ℕ) → words ≡ front ++ back → base (map (meaning_in mode) front) ≤ wrap_limit

-- Photons that can be written, and a policy by which a stream gives them at once and takes as many records as they have words.
pub record TakesAll (policy : Policy) (mode : Mode) (photons : List Event) : Type 0 where
  pub can : CanBePicked mode photons
  pub settles_at_once : policy.settle ≡ 0
  pub few : length (picked_words mode photons) ≤ policy.records

-- these events, and none of them late
abbrev pub all_given : Mode → List Event → List (Event × Bool)
all_given mode photons = map (λ e. (e, false)) (picked_events mode photons)

-- By a policy a stream refuses none of the records, and gives these events and no more.
pub record GivesAll (policy : Policy) (mode : Mode) (photons : List Event) : Type 0 where
  pub unrefused : record_refusal (reading (short_type mode) policy) (picked_words mode photons) ≡ None
  pub given : given (reading (short_type mode) policy) (picked_words mode photons) ≡ all_given mode photons
