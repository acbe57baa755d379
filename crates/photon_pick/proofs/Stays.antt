-- What is written of the photons of bytes is written of them with more after, and a refusal stays.
use Rattle.std.proofs.Common.{◌≡◌, ◌∙◌, ℕ, List, [], ◌∷◌, ◌++◌, Bool, true, false, None, Some, Ok, Err, cond, refl, sym, ap, append_assoc, append-nil, Result}
use Rattle.std.{proofs.{Common.{if◌then◌else◌, arith, rules}, lemmas.List.Elements.filter-append}, specs.{List.filter, declared.option.Option.Option}}
use Rattle.tally_base.specs.{declared.{event.Event.Event, fault.Fault.{Fault, TheVariants.PickTime}, header.Mode.Mode}, Faults.{is_outside, fault_in}}
use Rattle.ptu_definitions.specs.{declared.records.Summary.Summary, Prefixes.{each_after, first}, Settled.not_marked, Streams.{StreamSettings, record_refusal}}
use Rattle.ptu_definitions.{specs.{Streams.{last_in, streamed}, Words.{words_of, rest_of}}, proofs.Firsts.{record_refusal-inside, streamed-inside}}
use Rattle.ptu_definitions.proofs.{PrefixLemmas.first-append, StreamLemmas.{given-front, given-stays}, WordsLemmas.words_of-append}
use Rattle.{record_stream.proofs.Lasts.streamed-shown, minimal_file.specs.ShortFiles.bytes_in, record_write.specs.declared.picker.Picker.Picker}
use Rattle.{record_write.specs.{Picked.{is_too_late, photon_words, picked_words}, Picker.HasPicked}, photon_pick.specs.Late.{too_late, writable}}
use Rattle.photon_pick.specs.{Texts.{photons_in, text_in, late_or, refusal_in, HasPickedIn}, Ends.{photons_by, photons_of, end_text, end_fault}}
use Rattle.photon_pick.proofs.{Parts.{words-more, bytes_of}, Feeds.photons-more, Ends.{kept-are, given-none, clear-from_ok}}

-- ## Photons after others

abbrev unless_late : Bool → Event → List Event → List Event
unless_late late e more = if late then [] else e ∷ more

front-one : (late : Bool) (e : Event) (all front tail : List Event) → all ≡ front ++ tail
    → (more : List Event) × (unless_late late e all ≡ unless_late late e front ++ more)
front-one true e all front tail is = ([], refl)
front-one false e all front tail is = (tail, ap (λ l. e ∷ l) is)

writable-front : (mode : Mode) (ps qs : List Event) → (tail : List Event) × (writable mode (ps ++ qs) ≡ writable mode ps ++ tail)
writable-front mode [] qs = (writable mode qs, refl)
writable-front mode (p ∷ ps) qs = let rest =
    writable-front mode ps qs in front-one (is_too_late mode p.time) p (writable mode (ps ++ qs)) (writable mode ps) rest.0 rest.1

stays-one : (late : Bool) (p e : Event) (others all front : List Event) → first (cond late (p ∷ others) others) ≡ Some e
    → (first others ≡ Some e → all ≡ front) → unless_late late p all ≡ unless_late late p front
stays-one late p e others all front h same = search (rules, arith)

-- after a photon that is too late no photon is written, and it is still the first
writable-stays : (mode : Mode) (ps qs : List Event) (e : Event) → first (too_late mode ps) ≡ Some e → writable mode (ps ++ qs) ≡ writable mode ps
writable-stays mode [] qs e h = cc
writable-stays mode (p ∷ ps) qs e h =
    stays-one (is_too_late mode p.time) p e (too_late mode ps) (writable mode (ps ++ qs)) (writable mode ps) h (λ more. writable-stays mode ps qs e more)

first-stays : (mode : Mode) (ps qs : List Event) (e : Event) → first (too_late mode ps) ≡ Some e → first (too_late mode (ps ++ qs)) ≡ Some e
first-stays mode ps qs e h = ap first (filter-append (λ x. is_too_late mode x.time) ps qs) ∙ first-append (too_late mode ps) (too_late mode qs) e h

bytes-front : (mode : Mode) (ps qs : List Event) → (tail : List ℕ) × (bytes_of mode (ps ++ qs) ≡ bytes_of mode ps ++ tail)
bytes-front mode ps qs =
    let front = writable-front mode ps qs in
    (bytes_in (each_after (photon_words mode) (writable mode ps) front.0), ap (λ l. bytes_in (picked_words mode l)) front.1 ∙ words-more mode (writable mode ps) front.0)

late-inside : (late : Option Event) (other : Option Fault) (fault : Fault)
    → (other ≡ Some fault → is_outside fault ≡ false) → late_or late other ≡ Some fault → is_outside fault ≡ false
late-inside None other fault inside h = inside h
late-inside (Some e) other fault inside h = let same : PickTime e.place ≡ fault = cc in rw (← same) refl

module _ (chooses : Event → Bool) (how : StreamSettings) where
  -- ## No words

  photons-none : photons_in chooses how [] ≡ []
  photons-none = ap (λ l. filter chooses (not_marked l)) (given-none how)

  pub text-none : text_in chooses how [] ≡ []
  unfolding picked_words
  text-none = ap (bytes_of how.mode) photons-none

  pub has-none : (picker : Picker) → HasPicked picker [] → HasPickedIn chooses how picker []
  has-none picker none = record { picked = rw photons-none none; in_time = rw photons-none refl }

  -- ## More words

  pub photons-front : (words more : List ℕ) → (tail : List Event) × (photons_in chooses how (words ++ more) ≡ photons_in chooses how words ++ tail)
  photons-front words more = let front =
      given-front how words more in (filter chooses (not_marked front.0), photons-more chooses how words (words ++ more) front.0 front.1)

  -- what the end of the bytes adds
  pub end-adds : (bytes : List ℕ) → (tail : List Event) × (photons_of chooses how bytes ≡ photons_in chooses how (words_of bytes) ++ tail)
  end-adds bytes = by (streamed how bytes) refl
    where
      by : (r : Result Summary Fault) → streamed how bytes ≡ r
          → (tail : List Event) × (photons_by chooses how (words_of bytes) r ≡ photons_in chooses how (words_of bytes) ++ tail)
      by (Ok summary) is =
          (filter chooses (not_marked (last_in how (words_of bytes))), kept-are chooses how (words_of bytes) (clear-from_ok how bytes summary is))
      by (Err fault) is = ([], sym (append-nil (photons_in chooses how (words_of bytes))))

  photons-behind : (bytes more : List ℕ) → (tail : List Event) × (photons_of chooses how (bytes ++ more) ≡ photons_in chooses how (words_of bytes) ++ tail)
  photons-behind bytes more =
      let words = photons-front (words_of bytes) (words_of (rest_of bytes ++ more)) in
      let end = end-adds (bytes ++ more) in (
        words.0 ++ end.0,
        end.1 ∙ ap (λ l. l ++ end.0) (ap (photons_in chooses how) (words_of-append bytes more) ∙ words.1)
            ∙ append_assoc (photons_in chooses how (words_of bytes)) words.0 end.0,
      )

  -- The text of some bytes is in front of what they end with, with more of them.
  pub text-front : (bytes more : List ℕ) → (tail : List ℕ) × (end_text chooses how (bytes ++ more) ≡ text_in chooses how (words_of bytes) ++ tail)
  text-front bytes more =
      let all = photons-behind bytes more in
      let front = bytes-front how.mode (photons_in chooses how (words_of bytes)) all.0 in
      (front.0, ap (bytes_of how.mode) all.1 ∙ front.1)

  -- ## What is refused

  -- What is said of the end of bytes.
  abbrev Ends : List ℕ → List ℕ → Fault → Type 0
  Ends bytes text fault = (end_text chooses how bytes ≡ text) × (end_fault chooses how bytes ≡ Some fault)

  late-stays : (bytes more : List ℕ) (e : Event) → first (too_late how.mode (photons_in chooses how (words_of bytes))) ≡ Some e
      → Ends (bytes ++ more) (text_in chooses how (words_of bytes)) (PickTime e.place)
  late-stays bytes more e late =
      let before = photons_in chooses how (words_of bytes) in
      let all = photons-behind bytes more in (
        ap (bytes_of how.mode) all.1 ∙ ap (λ l. bytes_in (picked_words how.mode l)) (writable-stays how.mode before all.0 e late),
        ap (λ o. late_or o (fault_in (streamed how (bytes ++ more))))
            (ap (λ ps. first (too_late how.mode ps)) all.1 ∙ first-stays how.mode before all.0 e late),
      )

  record-stays : (bytes more : List ℕ) (fault : Fault) → first (too_late how.mode (photons_in chooses how (words_of bytes))) ≡ None
      → record_refusal how (words_of bytes) ≡ Some fault → Ends (bytes ++ more) (text_in chooses how (words_of bytes)) fault
  record-stays bytes more fault none refused =
      let streams = streamed-shown how bytes fault refused more in
      let words = ap (photons_in chooses how) (words_of-append bytes more)
      ∙ ap (λ l. filter chooses (not_marked l)) (given-stays how (words_of bytes) (words_of (rest_of bytes ++ more)) fault refused) in
      let all : photons_of chooses how (bytes ++ more) ≡ photons_in chooses how (words_of bytes) =
      ap (photons_by chooses how (words_of (bytes ++ more))) streams ∙ words in (
        ap (bytes_of how.mode) all,
        ap (λ r. late_or (first (too_late how.mode (photons_of chooses how (bytes ++ more)))) (fault_in r)) streams
            ∙ ap (λ ps. late_or (first (too_late how.mode ps)) (Some fault)) all ∙ ap (λ o. late_or o (Some fault)) none,
      )

  -- A refusal over some bytes is the end of all that begin with them.
  pub refused-stays : (bytes more : List ℕ) (fault : Fault) → refusal_in chooses how (words_of bytes) ≡ Some fault
      → (end_text chooses how (bytes ++ more) ≡ text_in chooses how (words_of bytes)) × (end_fault chooses how (bytes ++ more) ≡ Some fault)
  refused-stays bytes more fault refused = by (first (too_late how.mode (photons_in chooses how (words_of bytes)))) refl refused
    where
      by : (late : Option Event) → first (too_late how.mode (photons_in chooses how (words_of bytes))) ≡ late
          → late_or late (record_refusal how (words_of bytes)) ≡ Some fault → Ends (bytes ++ more) (text_in chooses how (words_of bytes)) fault
      by None is h = record-stays bytes more fault is h
      by (Some e) is h = let stays = late-stays bytes more e is in (stays.0, stays.1 ∙ h)

  -- Each refusal is one that the bytes call for.
  pub refused-inside : (words : List ℕ) (fault : Fault) → refusal_in chooses how words ≡ Some fault → is_outside fault ≡ false
  refused-inside words fault h = late-inside _ _ fault (record_refusal-inside how words fault) h

  pub end-inside : (bytes : List ℕ) (fault : Fault) → end_fault chooses how bytes ≡ Some fault → is_outside fault ≡ false
  end-inside bytes fault h = late-inside _ _ fault (streamed-inside how bytes fault) h

  -- words whose photons were picked are refused by no photon
  pub unrefused : (words : List ℕ) (picker : Picker) → HasPickedIn chooses how picker words
      → record_refusal how words ≡ None → refusal_in chooses how words ≡ None
  unrefused words picker has clear = rw has.in_time clear
