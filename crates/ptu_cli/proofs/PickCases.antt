-- What `pick` ends with is what its table calls for.
use Rattle.std.proofs.Common.{◌≡◌, ℕ, List, [], ◌∷◌, ◌++◌, length, Bool, true, false, None, Some, Err, refl, sym, ap, ◌∙◌, inl, inr, ◌≢◌, append-nil, arith}
use Rattle.std.{proofs.Common.{append_assoc, ◌⊎◌, ◌==◌, nat_le, ◌&&◌, rules}, specs.declared.option.Option.Option}
use Rattle.tally_base.specs.declared.{fault.Fault.{Fault, TheVariants.{TruncatedRecord, NoGroup, PickTime}}, header.Header.Header, event.Event.Event}
use Rattle.{tally_base.specs.Faults.fault_in, ptu_definitions.specs.{Words.{words_of, rest_of}, Streams.{IsFirst, StreamSettings, record_refusal}}}
use Rattle.{ptu_definitions.proofs.Firsts.{first-refusal, refused-first, none-refused}, record_stream.proofs.Lasts.streamed-refused}
use Rattle.{plan_text.specs.Plan.PlanView, gate_plan.specs.Histories.reading_by, photon_pick.specs.{Late.too_late, Ends.photons_by, Texts.photons_in}}
use Rattle.{pick_work.specs.PickOutcomes.{no_group, chosen_by, picks_of}, command_work.specs.Outcomes.Outcome, ptu_cli.proofs.ByteFaults.least-status}
use Rattle.ptu_cli.proofs.{Tables.{Meets, as-status}, PickPhotons.{late-ends, none-or-late, late-more, picked_end, end-late, end-in_time, in-settled}}
use Rattle.ptu_cli.proofs.{PickPhotons.{in-before, least-late, clear-front, all-end}, CaseSteps.{empty-true, empty-false, true-empty, false-empty}}
use Rattle.ptu_cli.{proofs.CaseSteps.{whole_answer, streamed-clear}, specs.{Tables.Applies, Cases.{NoneRefused, HasGroup, settled_photons, kept_photons}}}
use Rattle.ptu_cli.specs.Cases.{FirstLate, LateAtRecord, LateAtEnd, RefusedInTime, SettledInTime, AllPicked, pick_end, pick_lines}

-- ## The records

module _ (view : PlanView) (group : ℕ) (header : Header) (behind : List ℕ) where
  abbrev how : StreamSettings
  how = reading_by view header

  abbrev words : List ℕ
  words = words_of behind

  abbrev chooses : Event → Bool
  chooses = chosen_by view group

  abbrev whole_end : Outcome
  whole_end = (picks_of group view header).ends behind

  abbrev Picked : Outcome → Type 0
  Picked = Applies (pick_lines group) view (header, behind)

  abbrev settled : List ℕ → List Event
  settled = settled_photons view group header

  abbrev kept : List Event
  kept = kept_photons view group header words

  -- among words of which none is refused
  pub first-settled : (front more : List ℕ) → words ≡ front ++ more → NoneRefused how front
      → FirstLate how.mode (settled front) → LateAtRecord view group header words
  first-settled front more parts clear h =
      let least = least-late chooses how front h in
      record {
        front = least.front;
        word = least.word;
        more = least.more ++ more;
        parts = parts ∙ ap (λ l. l ++ more) least.parts ∙ append_assoc (least.front ++ least.word ∷ []) least.more more;
        unrefused = (none-refused how (least.front ++ least.word ∷ [])).0
            (clear-front chooses how (least.front ++ least.word ∷ []) least.more front least.parts ((none-refused how front).1 clear));
        none_settled = least.none_settled;
        first = least.late;
      }

  late-first : (late : LateAtRecord view group header words) → whole_end ≡ pick_end header late.first.before (Some (PickTime late.first.photon.place))
  late-first late =
      let upto = late.front ++ late.word ∷ [] in
      let none = (none-refused how upto).1 late.unrefused in
      late-ends chooses how upto late.more behind late.parts
      (late-more how.mode (settled upto) [] (photons_in chooses how upto) (in-settled chooses how upto none ∙ sym (append-nil (settled upto))) late.first)

  refused-end : (fault : Fault) (refusal : RefusedInTime view group header words fault) → whole_end ≡ pick_end header (settled refusal.least.front) (Some fault)
  refused-end fault refusal =
      let least = refusal.least in
      all-end chooses how behind (Err fault) (sym (streamed-refused how behind fault (refused-first how words fault least)))
      ∙ ap (λ ps. picked_end how.mode ps (Some fault)) (in-before chooses how words fault least)
      ∙ end-in_time how.mode (settled least.front) (Some fault) refusal.in_time

  -- where none is
  clear-end : record_refusal how words ≡ None → (whole : Bool) → (length (rest_of behind) == 0) ≡ whole
      → whole_end ≡ picked_end how.mode (photons_by chooses how words (whole_answer how behind whole)) (fault_in (whole_answer how behind whole))
  clear-end none whole is = all-end chooses how behind (whole_answer how behind whole) (streamed-clear how behind none ∙ ap (whole_answer how behind) is)

  cut-end : SettledInTime view group header words → rest_of behind ≢ []
      → whole_end ≡ pick_end header (settled words) (Some (TruncatedRecord (length (rest_of behind))))
  cut-end soon cut =
      let none = (none-refused how words).1 soon.unrefused in
      clear-end none false (false-empty (rest_of behind) cut)
      ∙ ap (λ ps. picked_end how.mode ps (Some (TruncatedRecord (length (rest_of behind))))) (in-settled chooses how words none)
      ∙ end-in_time how.mode (settled words) (Some (TruncatedRecord (length (rest_of behind)))) soon.in_time

  late-last : (late : LateAtEnd view group header behind) → whole_end ≡ pick_end header late.first.before (Some (PickTime late.first.photon.place))
  late-last late = clear-end ((none-refused how words).1 late.unrefused) true (true-empty (rest_of behind) late.whole) ∙ end-late how.mode kept None late.first

  all-picked : (all : AllPicked view group header behind) → whole_end ≡ pick_end header kept None
  all-picked all =
      clear-end ((none-refused how words).1 all.unrefused) true (true-empty (rest_of behind) all.whole) ∙ end-in_time how.mode kept None all.in_time

  pub picked-holds : Picked whole_end
  picked-holds = by (record_refusal how words) refl
    where
      stopped : (fault : Fault) (least : IsFirst how fault [] words)
          → (too_late how.mode (settled least.front) ≡ []) ⊎ FirstLate how.mode (settled least.front) → Picked whole_end
      stopped fault least (inr h) = let late = first-settled least.front (least.word ∷ least.more) least.parts least.unrefused h in inl (late, late-first late)
      stopped fault least (inl none) = let refusal : RefusedInTime view group header words fault =
          record { least = least; in_time = none } in inr (inl (fault, refusal, refused-end fault refusal))

      left : NoneRefused how words → rest_of behind ≢ [] → (too_late how.mode (settled words) ≡ []) ⊎ FirstLate how.mode (settled words)
          → Picked whole_end
      left clear some (inr h) = let late = first-settled words [] (sym (append-nil words)) clear h in inl (late, late-first late)
      left clear some (inl none) = let soon : SettledInTime view group header words =
          record { unrefused = clear; in_time = none } in inr (inr (inl (soon, some, cut-end soon some)))

      whole : NoneRefused how words → rest_of behind ≡ [] → (too_late how.mode (settled words) ≡ []) ⊎ FirstLate how.mode (settled words) → (too_late how.mode kept ≡ []) ⊎ FirstLate how.mode kept → Picked whole_end
      whole clear all (inr s) h = let late = first-settled words [] (sym (append-nil words)) clear s in inl (late, late-first late)
      whole clear all (inl soon) (inr h) = let late : LateAtEnd view group header behind =
          record { unrefused = clear; whole = all; none_settled = soon; first = h } in inr (inr (inr (inl (late, late-last late))))
      whole clear all (inl soon) (inl none) = let all : AllPicked view group header behind =
          record { unrefused = clear; whole = all; in_time = none } in inr (inr (inr (inr (inl (all, all-picked all)))))

      ends : NoneRefused how words → (b : Bool) → (length (rest_of behind) == 0) ≡ b → Picked whole_end
      ends clear true is = whole clear (empty-true (rest_of behind) is) (none-or-late how.mode (settled words)) (none-or-late how.mode kept)
      ends clear false is = left clear (empty-false (rest_of behind) is) (none-or-late how.mode (settled words))

      by : (o : Option Fault) → record_refusal how words ≡ o → Picked whole_end
      by (Some fault) e = let least = first-refusal how words fault e in stopped fault least (none-or-late how.mode (settled least.front))
      by None e = ends ((none-refused how words).0 e) (length (rest_of behind) == 0) refl

  picked-only : (end : Outcome) → Picked end → whole_end ≡ end
  picked-only end (inl h) = late-first h.0 ∙ sym h.1
  picked-only end (inr (inl h)) = refused-end h.0 h.1 ∙ sym h.2
  picked-only end (inr (inr (inl h))) = cut-end h.0 h.1 ∙ sym h.2
  picked-only end (inr (inr (inr (inl h)))) = late-last h.0 ∙ sym h.1
  picked-only end (inr (inr (inr (inr (inl h))))) = all-picked h.0 ∙ sym h.1
  picked-only end (inr (inr (inr (inr (inr never))))) = absurd never

-- ## The group

abbrev has_group : ℕ → PlanView → Bool
has_group group view = nat_le 1 group && nat_le group (length view.groups)

pub group-decides : (group : ℕ) (view : PlanView)
    → (HasGroup group view × (no_group group view ≡ None)) ⊎ ((HasGroup group view → ⊥) × (no_group group view ≡ Some (NoGroup group)))
group-decides group view = search (rules, arith, has_group)

-- ## What is met

pub pick-meets : (group : ℕ) → Meets (HasGroup group) (pick_lines group) (λ view found. (picks_of group view found.0).ends found.1)
pick-meets group = record {
  holds = λ view found has. picked-holds view group found.0 found.1;
  only = λ view found end has h. picked-only view group found.0 found.1 end h;
  sound = (λ n s. s, λ end view found e. as-status 24 24 end _ e.1 (omega arith, omega arith), (λ n s. s, λ end view found e. as-status 18 21 end _ e.2 (least-status (reading_by view found.0) found.1 e.0 e.1.least), (λ n s. s, λ end view found e. as-status 17 17 end _ e.2 (omega arith, omega arith), (λ n s. s, λ end view found e. as-status 24 24 end _ e.1 (omega arith, omega arith), (λ n s. s, λ end view found e. as-status 0 0 end _ e.1 (omega arith, omega arith), tt)))));
}
