-- The photons that `pick` writes, and the first of them that is too late.
use Rattle.std.proofs.Common.{◌≡◌, ◌∙◌, ℕ, List, [], ◌∷◌, ◌++◌, Bool, true, false, cond, None, Some, map, refl, sym, ap, inl, inr, append_assoc, append-nil}
use Rattle.{std.{proofs.Common.{◌⊎◌, Result, arith, rules}, specs.{List.filter, declared.option.Option.Option}}, tally_base.specs.declared.event.Event.Event}
use Rattle.tally_base.specs.{declared.{fault.Fault.{Fault, TheVariants.PickTime}, header.Mode.Mode}, Faults.fault_in}
use Rattle.ptu_definitions.specs.{declared.records.Summary.Summary, Streams.{IsFirst, StreamSettings, record_refusal, streamed}, Prefixes.first}
use Rattle.ptu_definitions.{specs.{Settled.{not_marked, settled_by}, Times.events, Words.words_of}, proofs.DeliveredLaws.{delivered-settled, delivered-none}}
use Rattle.{ptu_definitions.proofs.{Firsts.{given-all, given-before}, StreamLemmas.refused-more}, minimal_file.specs.ShortFiles.{short_header, minimal_file}}
use Rattle.{minimal_file.specs.ShortFiles.bytes_in, record_write.specs.Picked.{is_too_late, picked_words, picked_file}, photon_pick.specs.Late.too_late}
use Rattle.photon_pick.{specs.{Late.writable, Texts.{photons_in, late_or}, Ends.{photons_by, photons_of, end_text, end_fault}}, proofs.Parts.writable-all}
use Rattle.{photon_pick.proofs.{Parts.{first-late, writable-late}, Stays.{photons-front, end-adds}}, command_work.specs.Outcomes.Outcome}
use Rattle.ptu_cli.specs.Cases.{FirstLate}

-- ## The first that is too late

module _ (mode : Mode) where
  pub none-or-late : (ps : List Event) → (too_late mode ps ≡ []) ⊎ FirstLate mode ps
  none-or-late [] = inl refl
  none-or-late (p ∷ ps) = by (is_too_late mode p.time) refl (none-or-late ps)
    where
      by : (b : Bool) → is_too_late mode p.time ≡ b → (too_late mode ps ≡ []) ⊎ FirstLate mode ps
          → (cond b (p ∷ too_late mode ps) (too_late mode ps) ≡ []) ⊎ FirstLate mode (p ∷ ps)
      by true is rest = inr (record { before = []; photon = p; behind = ps; parts = refl; none_before = refl; late = is })
      by false is (inl none) = inl none
      by false is (inr h) = inr (record
          { before = p ∷ h.before; photon = h.photon; behind = h.behind; parts = ap (λ l. p ∷ l) h.parts; none_before = rw is h.none_before; late = h.late })

  -- it is the same where more come after
  abbrev pub late-more : (ps tail now : List Event) → now ≡ ps ++ tail → FirstLate mode ps → FirstLate mode now
  late-more ps tail now adds h = record {
    before = h.before;
    photon = h.photon;
    behind = h.behind ++ tail;
    parts = adds ∙ ap (λ l. l ++ tail) h.parts ∙ append_assoc h.before (h.photon ∷ h.behind) tail;
    none_before = h.none_before;
    late = h.late;
  }

  first-is : (ps : List Event) (h : FirstLate mode ps) → first (too_late mode ps) ≡ Some h.photon
  first-is ps h = ap (λ l. first (too_late mode l)) h.parts ∙ first-late mode h.before h.behind h.photon h.none_before h.late

  late-writable : (ps : List Event) (h : FirstLate mode ps) → writable mode ps ≡ h.before
  late-writable ps h = ap (writable mode) h.parts ∙ writable-late mode h.before h.behind h.photon h.none_before h.late

  -- what these photons and another fault end with
  abbrev pub picked_end : List Event → Option Fault → Outcome
  picked_end ps fault = record {
    text = short_header mode ++ bytes_in (picked_words mode (writable mode ps));
    fault = late_or (first (too_late mode ps)) fault;
  }

  pub end-late : (ps : List Event) (fault : Option Fault) (h : FirstLate mode ps)
      → picked_end ps fault ≡ record { text = picked_file mode h.before; fault = Some (PickTime h.photon.place) }
  unfolding minimal_file
  end-late ps fault h = rw (first-is ps h, late-writable ps h) refl

  pub end-in_time : (ps : List Event) (fault : Option Fault) → too_late mode ps ≡ []
      → picked_end ps fault ≡ record { text = picked_file mode ps; fault = fault }
  unfolding minimal_file
  end-in_time ps fault none = rw (writable-all mode ps none, none) refl

-- ## The photons that are chosen

module _ (chooses : Event → Bool) (how : StreamSettings) where
  abbrev pub settled_chosen : List ℕ → List Event
  settled_chosen words = filter chooses (settled_by how.policy.settle how.mode (events (map how.meaning words)))

  -- of words of which none is refused, and of words of which this is the first
  pub in-settled : (words : List ℕ) → record_refusal how words ≡ None → photons_in chooses how words ≡ settled_chosen words
  in-settled words none = search (rules, arith, given-all, delivered-settled)

  pub in-before : (words : List ℕ) (fault : Fault) (least : IsFirst how fault [] words) → photons_in chooses how words ≡ settled_chosen least.front
  in-before words fault least = ap (λ l. filter chooses (not_marked l)) (given-before how words fault least)
      ∙ ap (filter chooses) (delivered-settled how.policy.settle how.mode (events (map how.meaning least.front)))

  -- those of some words are in front of those of all bytes after a header that begin with them
  pub front-of : (words more bytes : List ℕ) → words_of bytes ≡ words ++ more
      → (tail : List Event) × (photons_of chooses how bytes ≡ photons_in chooses how words ++ tail)
  front-of words more bytes parts =
      let front = photons-front chooses how words more in
      let end = end-adds chooses how bytes in (
        front.0 ++ end.0,
        end.1 ∙ ap (λ l. l ++ end.0) (ap (photons_in chooses how) parts ∙ front.1) ∙ append_assoc (photons_in chooses how words) front.0 end.0,
      )

  -- of no words
  settled-none : settled_chosen [] ≡ []
  unfolding events
  settled-none = ap (filter chooses) (sym (delivered-settled how.policy.settle how.mode []) ∙ ap not_marked (delivered-none how.policy.settle how.mode))

  -- Some record is the first to settle a photon that is too late, where there is one.
  pub record Least (words : List ℕ) : Type 0 where
    pub front : List ℕ
    pub word : ℕ
    pub more : List ℕ
    pub parts : words ≡ (front ++ word ∷ []) ++ more
    pub none_settled : too_late how.mode (settled_chosen front) ≡ []
    pub late : FirstLate how.mode (settled_chosen (front ++ word ∷ []))

  least_behind : (front rest words : List ℕ) → words ≡ front ++ rest
      → too_late how.mode (settled_chosen front) ≡ [] → FirstLate how.mode (settled_chosen words) → Least words
  least_behind front [] words parts none h =
      let whole : settled_chosen words ≡ settled_chosen front = ap settled_chosen (parts ∙ append-nil front) in
      let late : first (too_late how.mode (settled_chosen words)) ≡ Some h.photon = first-is how.mode (settled_chosen words) h in
      let soon : first (too_late how.mode (settled_chosen words)) ≡ None = ap (λ l. first (too_late how.mode l)) whole ∙ ap first none in
      cc
  least_behind front (word ∷ rest) words parts none h =
      here front word rest words (parts ∙ sym (append_assoc front (word ∷ []) rest)) none (none-or-late how.mode (settled_chosen (front ++ word ∷ [])))
      (λ soon. least_behind (front ++ word ∷ []) rest words (parts ∙ sym (append_assoc front (word ∷ []) rest)) soon h)
    where
      here : (front : List ℕ) (word : ℕ) (rest words : List ℕ) → words ≡ (front ++ word ∷ []) ++ rest → too_late how.mode (settled_chosen front) ≡ []
          → (too_late how.mode (settled_chosen (front ++ word ∷ [])) ≡ []) ⊎ FirstLate how.mode (settled_chosen (front ++ word ∷ []))
          → (too_late how.mode (settled_chosen (front ++ word ∷ [])) ≡ [] → Least words) → Least words
      here front word rest words parts none (inr late) next =
          record { front = front; word = word; more = rest; parts = parts; none_settled = none; late = late }
      here front word rest words parts none (inl soon) next = next soon

  pub least-late : (words : List ℕ) → FirstLate how.mode (settled_chosen words) → Least words
  least-late words h = least_behind [] words words refl (ap (too_late how.mode) settled-none) h

  -- the records before one that is not refused are not refused
  pub clear-front : (words more now : List ℕ) → now ≡ words ++ more → record_refusal how now ≡ None → record_refusal how words ≡ None
  clear-front words more now parts clear = search (rules, arith, refused-more)

  -- what all bytes after a header end with
  abbrev pub all_end : List ℕ → Outcome
  all_end bytes = record { text = short_header how.mode ++ end_text chooses how bytes; fault = end_fault chooses how bytes }

  pub all-end : (bytes : List ℕ) (r : Result Summary Fault) → streamed how bytes ≡ r
      → all_end bytes ≡ picked_end how.mode (photons_by chooses how (words_of bytes) r) (fault_in r)
  all-end bytes r is = ap (λ r. picked_end how.mode (photons_by chooses how (words_of bytes) r) (fault_in r)) is

  -- a photon that is too late among those of some words ends all bytes that begin with these
  pub late-ends : (words more bytes : List ℕ) → words_of bytes ≡ words ++ more → (h : FirstLate how.mode (photons_in chooses how words))
      → all_end bytes ≡ record { text = picked_file how.mode h.before; fault = Some (PickTime h.photon.place) }
  late-ends words more bytes parts h =
      let front = front-of words more bytes parts in
      end-late how.mode (photons_of chooses how bytes) (fault_in (streamed how bytes))
      (late-more how.mode (photons_in chooses how words) front.0 (photons_of chooses how bytes) front.1 h)
