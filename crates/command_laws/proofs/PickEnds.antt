-- What `pick` ends with over a file that it reads whole, and that `events` lists what it writes.
use Rattle.std.{proofs.Common.{◌≡◌, ℕ, List, [], None, Some, refl, sym, ap, ◌∙◌, inl, inr, append-nil, arith, ◌⊎◌}, specs.declared.option.Option.Option}
use Rattle.{tally_base.specs.{declared.{header.Header.Header, fault.Fault.TheVariants.{NoGroup, PickTime}}, RecordTypes.mode_of}, bench_io.specs.Inputs.File}
use Rattle.{ptu_definitions.specs.Words.words_of, plan_text.specs.Plan.PlanView, gate_plan.specs.Shifting.sorting, photon_pick.specs.Late.too_late}
use Rattle.{photon_pick.proofs.CanBeWritten.written-can, minimal_file.specs.ShortFiles.minimal_file, record_write.specs.Picked.picked_file}
use Rattle.{command_work.specs.{Endings.outcome, Outcomes.Outcome}, ptu_cli.specs.{Behaviours.behaviour, Commands.{Request, Pick, Events}, Tables.AtLate}}
use Rattle.ptu_cli.specs.{Tables.Applies, Cases.{HasGroup, settled_photons, kept_photons, FirstLate, LateAtEnd, AllPicked, pick_lines}}
use Rattle.ptu_cli.{specs.CommandCases.{IsValidPlan, Needs, Suits, file_lines, header_lines, suited_lines}, proofs.Shapes.{in-file, in-header, in-suited}}
use Rattle.{ptu_cli.proofs.{Shapes.in-plan, PickPhotons.none-or-late, PickCases.{first-settled, picked-holds}}, pick_work.specs.PickOutcomes.picks_of}
use Rattle.command_laws.{specs.Ends.{ends_with, EndsWithFault, Headed, IsPickable, photons_written, ListsWritten, EndsWellOrLate}, proofs.Proved.one-outcome}
use Rattle.command_laws.proofs.Proved.{exactly-where, listed-picked}

module _ (plan_name : List ℕ) (group : ℕ) (file : List ℕ) (plan_file data_file : File) where
  abbrev asked : Option Request
  asked = Some (Pick plan_name group file)

  picked-end : (view : PlanView) (header : Header) (behind : List ℕ) (end : Outcome) → IsValidPlan plan_file view → HasGroup group view
      → Headed data_file header behind → Suits view header → Applies (pick_lines group) view (header, behind) end → outcome (behaviour asked) plan_file data_file ≡ end
  picked-end view header behind end valid has headed suits h =
      let picks = pick_lines group in
      let suited = in-suited picks view (header, behind) end suits h in
      let found = in-header view end (suited_lines picks) headed.bytes (header, behind) headed.is_header suited in
      let there = in-file view end (header_lines (suited_lines picks)) data_file headed.bytes headed.present found in
      (one-outcome asked plan_file data_file end).0
      (in-plan (Needs 23 (HasGroup group) (NoGroup group)) (file_lines (header_lines (suited_lines picks))) plan_file data_file view end valid has there)

  -- a file that is read whole ends `pick` well, or by a photon that is too late
  pub pick-ends : IsPickable group plan_file data_file → EndsWellOrLate (Pick plan_name group file) plan_file data_file
  pick-ends h = by (none-or-late (mode_of h.1.record_type) (settled_photons h.0 group h.1 (words_of h.2)))
      (none-or-late (mode_of h.1.record_type) (kept_photons h.0 group h.1 (words_of h.2)))
    where
      ended : (end : Outcome) → Applies (pick_lines group) h.0 (h.1, h.2) end → (outcome (behaviour asked) plan_file data_file).fault ≡ end.fault
      ended end e = ap (λ (o : Outcome). o.fault) (picked-end h.0 h.1 h.2 end h.3 h.5 h.4 h.6 e)

      named : (place : ℕ) → EndsWithFault asked plan_file data_file (PickTime place) → EndsWellOrLate (Pick plan_name group file) plan_file data_file
      named place ends = inr (PickTime place, ends, (exactly-where AtLate asked plan_file data_file (PickTime place) (omega arith, omega arith)).0 ends)

      by : (too_late (mode_of h.1.record_type) (settled_photons h.0 group h.1 (words_of h.2)) ≡ []) ⊎ FirstLate
          (mode_of h.1.record_type) (settled_photons h.0 group h.1 (words_of h.2))
          → (too_late (mode_of h.1.record_type) (kept_photons h.0 group h.1 (words_of h.2)) ≡ []) ⊎ FirstLate (mode_of h.1.record_type) (kept_photons h.0 group h.1 (words_of h.2)) → EndsWellOrLate (Pick plan_name group file) plan_file data_file
      by (inr s) kept =
          let late = first-settled h.0 group h.1 h.2 (words_of h.2) [] (sym (append-nil (words_of h.2))) h.7 s in
          named late.first.photon.place (ended _ (inl (late, refl)))
      by (inl soon) (inr k) =
          let late : LateAtEnd h.0 group h.1 h.2 = record { unrefused = h.7; whole = h.8; none_settled = soon; first = k } in
          named k.photon.place (ended _ (inr (inr (inr (inl (late, refl))))))
      by (inl soon) (inl none) =
          let all : AllPicked h.0 group h.1 h.2 = record { unrefused = h.7; whole = h.8; in_time = none } in
          inl (ended _ (inr (inr (inr (inr (inl (all, refl)))))))

-- what it writes of a file with a header is listed
pub pick-is-listed : (plan_name file name : List ℕ) (group : ℕ) (plan_file data_file : File)
    → ListsWritten group plan_file data_file name (ends_with (Pick plan_name group file) plan_file data_file).text
unfolding minimal_file
pick-is-listed plan_name file name group plan_file data_file view header behind valid has headed suits few =
    let end = (picks_of group view header).ends behind in
    let is = picked-end plan_name group file plan_file data_file view header behind end valid has headed suits (picked-holds view group header behind) in
    let text : end.text ≡ picked_file (mode_of header.record_type) (photons_written group view header behind) = refl in
    ap (λ (o : Outcome). outcome (behaviour (Some (Events name))) None (Some o.text)) is
    ∙ ap (λ (t : List ℕ). outcome (behaviour (Some (Events name))) None (Some t)) text
    ∙ listed-picked name (mode_of header.record_type) (photons_written group view header behind)
    (written-can header.record_type _ (sorting view) group behind) few
