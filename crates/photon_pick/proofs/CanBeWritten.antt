-- The photons of a group of a file can be written, up to the first that is too late.
use Rattle.std.proofs.Common.{◌≡◌, ◌∙◌, ℕ, ◌+◌, List, [], ◌∷◌, ◌++◌, Bool, true, false, cond, if◌then◌else◌, length, take, drop, map, refl, sym, ap, subst}
use Rattle.std.proofs.{Common.{Result, Ok, Err, ◌==◌, arith, rules}, Math.Seq.take-append_seam, lemmas.{Bool.eqb-true, List.take-append-drop}}
use Rattle.std.proofs.lemmas.List.Elements.{All-nil, All-head, All-tail, All-append, All-filter, All-same, All-take, All-from_recursion, filter-append}
use Rattle.std.{proofs.lemmas.List.{Elements.filter_passes, Sorted.{All-permutation, IsNonDecreasingBy-take}}, specs.List.{All, AllByRecursion, filter}}
use Rattle.{std.specs.List.Sorted.IsNonDecreasingBy, tally_base.specs.declared.event.{Event.Event, EventKind.TheVariants.Marker as MarkerEvent, Policy.Policy}}
use Rattle.tally_base.specs.{declared.{fault.Fault.Fault, header.{Mode.Mode, RecordType.RecordType}}, Events.{is_photon, is_ordered}, RecordTypes.mode_of}
use Rattle.ptu_definitions.specs.{declared.records.{Raw.Raw, Summary.Summary}, Layouts.{Fits, KindFits, meaning_of}, Kept.kept, Prefixes.each_after}
use Rattle.ptu_definitions.specs.{Settled.{is_overtaken, unless_overtaken, not_overtaken, in_time, ordered, kept_by, Rises}, Streams.{StreamSettings, reading}}
use Rattle.ptu_definitions.{specs.{Streams.{given, streamed}, Times.{event_of, event_after, events}, Words.words_of}, proofs.DeliveredLaws.in_time-kept}
use Rattle.ptu_definitions.proofs.{DeliveredLaws.delivered-settled, WordsLemmas.meaning-fits, SettledLaws.{in_time-permutation, in_time-rises}}
use Rattle.{ptu_definitions.proofs.SettledLemmas.{Rises-lower, IsNonDecreasingBy-Rises}, gate_plan.specs.Shifting.Sorting}
use Rattle.{record_write.specs.Picked.{is_too_late, IsPhotonOf, CanBePicked}, photon_pick.specs.{Chosen.is_chosen, Late.{too_late, writable, AreBeforeLate}}}
use Rattle.photon_pick.{specs.{Texts.photons_in, Ends.{photons_kept, photons_by, photons_of}}, proofs.Parts.{writable-all, chosen-photon}}

-- ## Events fit the mode of their records

abbrev FitAll : Mode → List Event → Type 0
FitAll mode es = All (λ (e : Event). KindFits mode e.kind) es

marker-fits : (mode : Mode) (bits : ℕ) → KindFits mode (MarkerEvent bits)
marker-fits mode bits = search (rules, arith)

event-fits : (mode : Mode) (place base : ℕ) (raw : Raw) → Fits mode raw → FitAll mode (event_of place base raw)
event-fits mode place base raw fits = search (rules, arith, mode, marker-fits)

events-fit_after : (mode : Mode) (meaning : ℕ → Raw) → ((word : ℕ) → Fits mode (meaning word))
    → (before : List Raw) (words : List ℕ) → FitAll mode (each_after event_after before (map meaning words))
events-fit_after mode meaning fits before [] = All-nil (λ (e : Event). KindFits mode e.kind)
events-fit_after mode meaning fits before (word ∷ words) =
    All-append (λ (e : Event). KindFits mode e.kind) (event_after before (meaning word)) _
    (event-fits mode (length before + 1) _ (meaning word) (fits word))
    (events-fit_after mode meaning fits (before ++ meaning word ∷ []) words)

events-fit : (mode : Mode) (meaning : ℕ → Raw) → ((word : ℕ) → Fits mode (meaning word)) → (words : List ℕ) → FitAll mode (events (map meaning words))
unfolding events
events-fit mode meaning fits words = events-fit_after mode meaning fits [] words

-- those that aren't late are among them
unless-one : (P : Event → Type 0) (late : Bool) (e : Event) (rest : List Event) → P e → All P rest → All P (cond late [] (e ∷ []) ++ rest)
unless-one P late e rest p all = search (rules, arith)

not_overtaken-all : (P : Event → Type 0) (k : ℕ) (before es : List Event) → All P es → All P (each_after (unless_overtaken k) before es)
not_overtaken-all P k before [] all = All-nil P
not_overtaken-all P k before (e ∷ es) all =
    unless-one P (is_overtaken k before e) e _ (All-head P e es all) (not_overtaken-all P k (before ++ e ∷ []) es (All-tail P e es all))

in_time-all : (P : Event → Type 0) (k : ℕ) (es : List Event) → All P es → All P (in_time k es)
unfolding not_overtaken
in_time-all P k es all = All-permutation P (not_overtaken k es) (in_time k es) (in_time-permutation k es) (not_overtaken-all P k [] es all)

-- ## Photons that fit, in order of time

-- what is known of photons whether one is too late or not
record CanFollow (mode : Mode) (ps : List Event) : Type 0 where
  fits : All (IsPhotonOf mode) ps
  rising : IsNonDecreasingBy (λ (e : Event). e.time) ps

front-follows : (mode : Mode) (ps qs : List Event) → CanFollow mode (ps ++ qs) → CanFollow mode ps
front-follows mode ps qs can = record {
  fits = All-same (IsPhotonOf mode) _ _ (sym (take-append_seam ps qs)) (All-take (IsPhotonOf mode) (length ps) (ps ++ qs) can.fits);
  rising = subst (IsNonDecreasingBy (λ (e : Event). e.time)) (take-append_seam ps qs) (IsNonDecreasingBy-take (λ (e : Event). e.time) (length ps) (ps ++ qs) can.rising);
}

-- The photons that are writable are those before the first that is too late.
here : (mode : Mode) (e : Event) (es front : List Event) (late : Bool) → is_too_late mode e.time ≡ late
    → AreBeforeLate mode front es → AreBeforeLate mode (if late then [] else e ∷ front) (e ∷ es)
here mode e es front true is rest = record { behind = e ∷ es; parts = refl; in_time = refl; next = λ first more at. let same : first ≡ e = cc in rw same is }
here mode e es front false is rest = record { behind = rest.behind; parts = ap (λ l. e ∷ l) rest.parts; in_time = rw is rest.in_time; next = rest.next }

pub before-late : (mode : Mode) (photons : List Event) → AreBeforeLate mode (writable mode photons) photons
before-late mode [] = record { behind = []; parts = refl; in_time = refl; next = λ first more at. cc }
before-late mode (e ∷ es) = here mode e es (writable mode es) (is_too_late mode e.time) refl (before-late mode es)

writable-soon : (mode : Mode) (ps : List Event) → AllByRecursion (λ e. is_too_late mode e.time ≡ false) (writable mode ps)
writable-soon mode [] = tt
writable-soon mode (p ∷ ps) = search (rules, arith, mode, writable-soon mode ps)

writable-can : (mode : Mode) (ps : List Event) → CanFollow mode ps → CanBePicked mode (writable mode ps)
writable-can mode ps can =
    let front = before-late mode ps in
    let all = front-follows mode (writable mode ps) front.behind (subst (CanFollow mode) front.parts can) in
    record { fits = all.fits; in_order = all.rising; in_time = All-from_recursion (λ e. is_too_late mode e.time ≡ false) (writable mode ps) (writable-soon mode ps) }

-- ## The photons that are chosen of a kept list

module _ (mode : Mode) (chooses : Event → Bool) (photons : (e : Event) → chooses e ≡ true → is_photon e ≡ true) where
  chosen-fit : (es : List Event) → FitAll mode es → All (IsPhotonOf mode) (filter chooses es)
  chosen-fit es all = λ k d lt. record { photon = photons _ (filter_passes chooses es k d lt); fits = All-filter chooses (λ (e : Event). KindFits mode e.kind) es all k d lt }

  chosen-rise : (t : ℕ) (es : List Event) → Rises t es → Rises t (filter chooses es)
  chosen-rise t [] up = tt
  chosen-rise t (e ∷ es) up = by (chooses e) (chosen-rise e.time es up.1)
    where
      by : (b : Bool) → Rises e.time (filter chooses es) → Rises t (cond b (e ∷ filter chooses es) (filter chooses es))
      by true rest = (up.0, rest)
      by false rest = Rises-lower e.time t (filter chooses es) up.0 rest

  -- photons are ordered in each mode, so no photon is lost with the markers that aren't
  chosen-ordered : (es : List Event) → filter chooses (ordered mode es) ≡ filter chooses es
  chosen-ordered [] = refl
  chosen-ordered (e ∷ es) = search (rules, arith, chooses, mode, chosen-ordered es)

  -- where late events are left out they are those of the list in order of time too
  kept-in_time : (k : ℕ) (es : List Event) → filter chooses (kept_by k mode es) ≡ filter chooses (in_time k (ordered mode es))
  kept-in_time k es = by (k == 0) refl
    where
      by : (b : Bool) → (k == 0) ≡ b → filter chooses (cond b (kept mode es) (in_time k (ordered mode es))) ≡ filter chooses (in_time k (ordered mode es))
      by true is =
          let none : k ≡ 0 = eqb-true k 0 is in
          rw none (sym (chosen-ordered (kept mode es)) ∙ ap (filter chooses) (sym (in_time-kept mode es)))
      by false is = refl

  in_time-follow : (k : ℕ) (es : List Event) → FitAll mode es → CanFollow mode (filter chooses (in_time k (ordered mode es)))
  in_time-follow k es fit = record {
    fits = chosen-fit (in_time k (ordered mode es)) (in_time-all (λ (e : Event). KindFits mode e.kind) k
        (ordered mode es) (All-filter (λ e. is_ordered mode e) (λ (e : Event). KindFits mode e.kind) es fit));
    rising = IsNonDecreasingBy-Rises 0 _ (chosen-rise 0 (in_time k (ordered mode es)) (in_time-rises k (ordered mode es)));
  }

  kept-follow : (k : ℕ) (es : List Event) → FitAll mode es → CanFollow mode (filter chooses (kept_by k mode es))
  kept-follow k es fit = rw (kept-in_time k es) (in_time-follow k es fit)

  -- a front of the kept list
  taken-follow : (n : ℕ) (es : List Event) → CanFollow mode (filter chooses es) → CanFollow mode (filter chooses (take n es))
  taken-follow n es can =
      front-follows mode (filter chooses (take n es)) (filter chooses (drop n es))
      (subst (CanFollow mode) (ap (filter chooses) (sym (take-append-drop n es)) ∙ filter-append chooses (take n es) (drop n es)) can)

-- ## The photons of a group of a file

module _ (record_type : RecordType) (policy : Policy) (sorting : Sorting) (group : ℕ) where
  abbrev mode : Mode
  mode = mode_of record_type

  abbrev how : StreamSettings
  how = reading record_type policy

  abbrev chooses : Event → Bool
  chooses = is_chosen sorting group

  fit : (words : List ℕ) → FitAll mode (events (map how.meaning words))
  fit words = events-fit mode (meaning_of record_type) (meaning-fits record_type) words

  photons_kept-follow : (words : List ℕ) → CanFollow mode (photons_kept chooses how words)
  photons_kept-follow words = kept-follow mode chooses (chosen-photon sorting group) policy.settle (events (map how.meaning words)) (fit words)

  photons_in-follow : (words : List ℕ) → CanFollow mode (photons_in chooses how words)
  unfolding given
  photons_in-follow words = search (rules, arith, how, mode, delivered-settled, taken-follow, chooses, chosen-photon, photons_kept-follow)

  photons_by-follow : (words : List ℕ) (answer : Result Summary Fault) → CanFollow mode (photons_by chooses how words answer)
  photons_by-follow words (Ok summary) = photons_kept-follow words
  photons_by-follow words (Err fault) = photons_in-follow words

  pub kept-can : (words : List ℕ) → too_late mode (photons_kept chooses how words) ≡ [] → CanBePicked mode (photons_kept chooses how words)
  kept-can words none = subst (CanBePicked mode) (writable-all mode (photons_kept chooses how words) none) (writable-can mode (photons_kept chooses how words) (photons_kept-follow words))

  pub written-can : (bytes : List ℕ) → CanBePicked mode (writable mode (photons_of chooses how bytes))
  written-can bytes = writable-can mode (photons_of chooses how bytes) (photons_by-follow (words_of bytes) (streamed how bytes))

  pub settled-can : (words : List ℕ) → CanBePicked mode (writable mode (photons_in chooses how words))
  settled-can words = writable-can mode (photons_in chooses how words) (photons_in-follow words)
