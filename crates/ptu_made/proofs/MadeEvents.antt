-- The events of the made file are its photons.
use Rattle.tally_base.specs.declared.{event.{EventKind.TheVariants.Photon as PhotonEvent, Policy.Policy}, fault.Fault.Fault}
use Rattle.tally_base.specs.{declared.header.RecordType.TheVariants.HydraHarp2T2, Events.stops_late, Limits.wrap_limit}
use Rattle.ptu_definitions.specs.{declared.records.Raw.{Raw, TheVariants.{Photon, Wrap}}, Layouts.hydra_t2, Prefixes.each_after, Times.{amount, base}}
use Rattle.ptu_definitions.specs.{Times.{event_after, events}, Words.{words_of, rest_of}, Kinds.{is_reserved, is_wrap}, Streams.{reading, refusal}}
use Rattle.{ptu_definitions.{specs.Streams.record_refusal, proofs.Firsts.none-refused}, ptu_made.specs.Generator.{next_state, states, gap, channel, last_time}}
use Rattle.ptu_made.{specs.{Generator.{unit, photon_word, words_behind, made_words}, Records.{made_photons, IsPhotonOrWrap}}, proofs.Behind.{Giving, all_given}}
use Rattle.{ptu_made.proofs.Behind.{all_given-cons, words_behind-cons}, minimal_file.{specs.ShortFiles.{Timed, timed, bytes_in}, proofs.ShortHeaders.IsWord}}
use Rattle.{minimal_file.proofs.ShortHeaders.{words_of-bytes_in, rest_of-bytes_in}, std.proofs.Common.{◌≡◌, ◌+◌, ◌*◌, ◌<◌, ◌≤◌, ℕ, zero, suc, Bool, false}}
use Rattle.std.proofs.Common.{None, List, [], ◌∷◌, length, map, take, refl, arith, nat_lt, nat_le, ◌&&◌, if◌then◌else◌, rules, ◌/◌, ◌%◌, true, ◌++◌, ◌∙◌, ◌^◌}
use Rattle.std.proofs.{Common.get_or, lemmas.{List.{length-map, length-take, Sums.{sum_by-cons, sum_by_push}}, Bool.{and_left, and_right, Decides.nat_tests}}}
use Rattle.std.specs.{List.AllByRecursion, declared.option.Option.Option}

-- The words of the made file are photons and wraps.

-- a word of 32 bits, and what it means
pub record IsMade (word : ℕ) : Type 0 where
  pub small : word < 2 ^ 32
  pub means : IsPhotonOrWrap (hydra_t2 false word)

pub photon-meaning : (input time : ℕ) → input < 2 → hydra_t2 false (photon_word input time) ≡ Photon (input + 1) (time % unit) 0
unfolding hydra_t2
photon-meaning input time few = search (rules, arith)

pub wrap-meaning : hydra_t2 false 0xFE000001 ≡ Wrap unit
unfolding hydra_t2
wrap-meaning = refl

photon-made : (input time : ℕ) → input < 2 → IsMade (photon_word input time)
photon-made input time few = record {
  small = omega arith;
  means = rw (photon-meaning input time few) (omega arith, omega arith, omega arith, refl);
}

wrap-made : IsMade 0xFE000001
wrap-made = record { small = omega arith; means = rw wrap-meaning refl }

words-made : (wraps : Bool) (input time : ℕ) (more : List ℕ) → input < 2 → AllByRecursion IsMade more
    → AllByRecursion IsMade (((if wraps then 0xFE000001 ∷ [] else []) ++ photon_word input time ∷ []) ++ more)
words-made wraps input time more few rest = search (rules, arith, wrap-made, photon-made)

behind-made : (start : ℕ) (xs : List ℕ) → AllByRecursion IsMade (words_behind start xs)
behind-made start [] = tt
behind-made start (state ∷ xs) = search (rules, arith, words_behind-cons, words-made, behind-made (start + gap state) xs)

pub all-made : (seed count : ℕ) → AllByRecursion IsMade (made_words seed count)
unfolding made_words
all-made seed count = behind-made 0 (states count seed)

pub all_means : (words : List ℕ) → AllByRecursion IsMade words → (k d : ℕ) → k < length words → IsMade (get_or words k d)
all_means [] h k d within = absurd (omega arith)
all_means (word ∷ words) h zero d within = h.0
all_means (word ∷ words) h (suc k) d within = all_means words h.1 k d (omega arith)

small : (words : List ℕ) → AllByRecursion IsMade words → AllByRecursion IsWord words
small [] h = tt
small (word ∷ words) h = (h.0.small, small words h.1)

-- the words of their bytes
pub words-bytes : (words : List ℕ) → AllByRecursion IsMade words → (words_of (bytes_in words) ≡ words) × (rest_of (bytes_in words) ≡ [])
words-bytes words h = (words_of-bytes_in words (small words h), rest_of-bytes_in words)

-- The events of the made file are its photons.

abbrev photon : Giving Timed
photon before time number = record { kind = PhotonEvent (number + 1) 0; time = time } ∷ []

-- the events after these records
abbrev events_after : List Raw → List ℕ → List Timed
events_after before words = map timed (each_after event_after before (map (hydra_t2 false) words))

abbrev unit_of : ℕ → ℕ
unit_of time = time / unit * unit

abbrev words_if : Bool → ℕ → ℕ → List ℕ
words_if wraps number time = (if wraps then 0xFE000001 ∷ [] else []) ++ photon_word number time ∷ []

-- one photon more, where the base is that of the photon before it
one-photon : (wraps : Bool) (before : List Raw) (start time number : ℕ) (more : List ℕ) (rest : List Timed)
    → wraps ≡ nat_lt (start / unit) (time / unit) → start ≤ time → time < start + unit → number < 2
    → base before ≡ unit_of start → ((longer : List Raw) → base longer ≡ unit_of time → events_after longer more ≡ rest)
    → events_after before (words_if wraps number time ++ more) ≡ record { kind = PhotonEvent (number + 1) 0; time = time } ∷ rest
one-photon true before start time number more rest wraps late soon few same go = search (rules, arith, sum_by_push, wrap-meaning, photon-meaning)
one-photon false before start time number more rest wraps late soon few same go = search (rules, arith, sum_by_push, photon-meaning)

events-behind : (before : List Raw) (start : ℕ) (xs : List ℕ) → base before ≡ unit_of start
    → events_after before (words_behind start xs) ≡ all_given photon start xs
events-behind before start [] same = refl
events-behind before start (state ∷ xs) same =
    let time = start + gap state in
    rw (words_behind-cons start state xs, all_given-cons photon start state xs)
    (one-photon (nat_lt (start / unit) (time / unit)) before start time (channel state) (words_behind time xs) (all_given photon time xs) refl (omega arith) (omega arith) (omega arith) same
    (λ longer next. events-behind longer time xs next))

same-each : {A B : Type 0} (f g : List A → A → List B) (before xs : List A)
    → ((before : List A) (x : A) → f before x ≡ g before x) → each_after f before xs ≡ each_after g before xs
same-each f g before [] same = refl
same-each f g before (x ∷ xs) same = rw (same before x, same-each f g (before ++ x ∷ []) xs same) refl

timed-at : (number time other : ℕ) → time ≡ other → photon 0 time number ≡ photon 0 other number
timed-at number time other same = rw same refl

pub made-events : (seed count : ℕ) → map timed (events (map (hydra_t2 false) (made_words seed count))) ≡ made_photons seed count
unfolding events made_words made_photons
made-events seed count = search (rules, arith, events-behind, same-each, timed-at)

-- the wraps of one photon more
one-wraps : (wraps : Bool) (start time number : ℕ) (more : List ℕ)
    → wraps ≡ nat_lt (start / unit) (time / unit) → start ≤ time → time < start + unit → number < 2
    → base (map (hydra_t2 false) (words_if wraps number time ++ more)) + unit_of start ≡ base (map (hydra_t2 false) more) + unit_of time
one-wraps true start time number more wraps late soon few =
    let above : start / unit < time / unit = grind (arith, nat_tests) in
    let photon_raw = Photon (number + 1) (time % unit) 0 in
    let records = map (hydra_t2 false) more in
    let first : base (Wrap unit ∷ photon_raw ∷ records) ≡ unit + base (photon_raw ∷ records) = sum_by-cons amount (Wrap unit) (photon_raw ∷ records) in
    let second : base (photon_raw ∷ records) ≡ 0 + base records = sum_by-cons amount photon_raw records in
    rw (wrap-meaning, photon-meaning number time few) (omega arith)
one-wraps false start time number more wraps late soon few = search (rules, arith, sum_by-cons, photon-meaning)

-- the wraps of all words are the whole units of the last time
wraps-behind : (start : ℕ) (xs : List ℕ) → base (map (hydra_t2 false) (words_behind start xs)) + unit_of start ≡ unit_of (start + last_time xs)
wraps-behind start [] = let same : start + last_time [] ≡ start = omega arith in rw same (omega arith)
wraps-behind start (state ∷ xs) =
    let time = start + gap state in
    let one =
    one-wraps (nat_lt (start / unit) (time / unit)) start time (channel state) (words_behind time xs) refl (omega arith) (omega arith) (omega arith) in
    let rest = wraps-behind time xs in
    let more : last_time (state ∷ xs) ≡ gap state + last_time xs = sum_by-cons gap state xs in
    let end : start + last_time (state ∷ xs) ≡ time + last_time xs = omega arith in
    rw (words_behind-cons start state xs, end) (one ∙ rest)

last_time-le : (count seed : ℕ) → last_time (states count seed) ≤ 512 * count
unfolding states
last_time-le zero seed = omega arith
last_time-le (suc count) seed = search (rules, arith, sum_by-cons, last_time-le count (next_state seed))

pub wraps-le : (seed count : ℕ) → base (map (hydra_t2 false) (made_words seed count)) ≤ 512 * count
unfolding made_words
wraps-le seed count = let all = wraps-behind 0 (states count seed) in omega (arith, all, last_time-le count seed)

-- how many words there are
pair-few : (wraps : Bool) (number time : ℕ) (more : List ℕ) (n : ℕ) → n ≤ length more → length more ≤ 2 * n
    → (suc n ≤ length (words_if wraps number time ++ more)) × (length (words_if wraps number time ++ more) ≤ 2 * suc n)
pair-few true number time more n low high = (omega arith, omega arith)
pair-few false number time more n low high = (omega arith, omega arith)

few-behind : (start : ℕ) (xs : List ℕ) → (length xs ≤ length (words_behind start xs)) × (length (words_behind start xs) ≤ 2 * length xs)
few-behind start [] = (omega arith, omega arith)
few-behind start (state ∷ xs) =
    let time = start + gap state in
    let rest = few-behind time xs in
    rw (words_behind-cons start state xs) (pair-few (nat_lt (start / unit) (time / unit)) (channel state) time (words_behind time xs) (length xs) rest.0 rest.1)

length-states : (count seed : ℕ) → length (states count seed) ≡ count
unfolding states
length-states zero seed = refl
length-states (suc count) seed = omega (arith, length-states count (next_state seed))

pub few-words : (seed count : ℕ) → (count ≤ length (made_words seed count)) × (length (made_words seed count) ≤ 2 * count)
unfolding made_words
few-words seed count =
    let few = few-behind 0 (states count seed) in
    (omega (arith, few.0, length-states count seed), omega (arith, few.1, length-states count seed))

-- No record of the made file is refused.

not_reserved : (raw : Raw) → IsPhotonOrWrap raw → is_reserved raw ≡ false
not_reserved raw h = search (rules, arith)

amount-le : (raw : Raw) → IsPhotonOrWrap raw → amount raw ≤ unit
amount-le raw h = search (rules, arith)

base-le : (words : List ℕ) → AllByRecursion IsMade words → base (map (hydra_t2 false) words) ≤ length words * unit
base-le [] h = omega arith
base-le (word ∷ words) h = search (rules, arith, sum_by-cons, amount-le, base-le words h.1)

take-made : (k : ℕ) (words : List ℕ) → AllByRecursion IsMade words → AllByRecursion IsMade (take k words)
take-made zero words h = tt
take-made (suc k) [] h = tt
take-made (suc k) (word ∷ words) h = (h.0, take-made k words h.1)

no-cause : (full reserved passing stops : Bool) (limit gap pass late : Option Fault) → full ≡ false → reserved ≡ false → passing ≡ false → stops ≡ false
    → (if full then limit else if reserved then gap else if passing then pass else if stops then late else None) ≡ None
no-cause full reserved passing stops limit gap pass late f r p s = rw (f, r, p, s) refl

refusal-none : (policy : Policy) (before : List ℕ) (word : ℕ) → stops_late policy.order ≡ false
    → length before < policy.records → length before ≤ 20000000 → AllByRecursion IsMade before → IsMade word
    → refusal (reading HydraHarp2T2 policy) before word ≡ None
unfolding refusal
refusal-none policy before word drops few small made is =
    let records = map (hydra_t2 false) before in
    let raw = hydra_t2 false word in
    let size : length records ≡ length before = length-map before (hydra_t2 false) in
    let full : nat_le policy.records (length records) ≡ false = grind (arith, nat_tests) in
    let low = base-le before made in
    let step = amount-le raw is.means in
    let passing : nat_lt wrap_limit (base records + amount raw) ≡ false = grind (arith, nat_tests) in
    no-cause _ _ _ _ _ _ _ _ full (and_left (is_reserved raw) _ (not_reserved raw is.means)) (and_right (is_wrap raw) _ passing) drops

pub unrefused : (policy : Policy) (words : List ℕ) → stops_late policy.order ≡ false
    → length words ≤ policy.records → length words ≤ 20000000 → AllByRecursion IsMade words → record_refusal (reading HydraHarp2T2 policy) words ≡ None
unrefused policy words drops few small made = search (rules, arith, none-refused, length-take, refusal-none, take-made, all_means)
