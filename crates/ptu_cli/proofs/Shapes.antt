-- The lines that commands share are met by what the commands share.
use Rattle.std.proofs.Common.{◌≡◌, ℕ, List, None, Some, Ok, Err, refl, sym, ap, ◌∙◌, ◌⊎◌, subst, inl, inr, Result, arith, rules}
use Rattle.{std.specs.declared.option.Option.Option, toml.specs.Data.table, tally_base.specs.declared.{slot.Slot.TheVariants.{Plan, Data}, fault.Fault.Fault}}
use Rattle.tally_base.specs.{declared.{fault.Fault.TheVariants.OpenFault, header.Header.Header}, Faults.{status_of, fault_in}, RecordTypes.mode_of}
use Rattle.{bench_io.specs.Inputs.File, ptu_definitions.{specs.Headers.{header_answer, HasAnswer}, proofs.Sound.one_answer}, plan_text.specs.Plan.PlanView}
use Rattle.plan_text.{specs.{Plan.plan, ReadPlan.plan_answer, Fits.fits}, proofs.{Called.{called, valid, answers, plans}, Misfits.{misfit_named, is_first}}}
use Rattle.command_work.specs.{Outcomes.{Outcome, refused, status, IsIn}, Behaviours.{Work, Writing, Memory, ByPlan}, Endings.{on_file, unless, by_plan}}
use Rattle.command_work.specs.{Endings.outcome, RecordsWork.{RecordsWork, unless_declined, if_suited, headed_end, headed_work}}
use Rattle.ptu_cli.proofs.{ByteFaults.{StatusIn, InHeader, answer_as-in, called-status, misfit-status}, Tables.{Meets, as-status, in-within, of-within}}
use Rattle.ptu_cli.{proofs.Tables.within-sound, specs.{Tables.{Phase, InPhase, Lines, NoLine, Line, within, Applies, Sound}, CommandCases.{IsValidPlan, Need}}}
use Rattle.ptu_cli.specs.CommandCases.{NeedsNothing, Needs, Has, Suits, file_lines, header_lines, suited_lines, need_lines, plan_lines, planned_lines}

abbrev pub Answer : Type 0
Answer = Result (Header × List ℕ) Fault

pub header-status : (bytes : List ℕ) (fault : Fault) → HasAnswer bytes (Err fault) → StatusIn 10 16 fault
header-status bytes fault h = subst InHeader (sym h.2) (answer_as-in bytes h.0)

-- one end, whatever the files are
pub alone-meets : (phase : Phase) (n : ℕ) (own whole : Outcome) → own ≡ whole → ((m : ℕ) → IsIn n n m → InPhase phase m) → IsIn n n (status whole.fault)
    → Meets {K = File} {X = File} (λ plan_file. Unit {0}) (Line phase n n (λ plan_file data_file end. end ≡ whole) NoLine) (λ plan_file data_file. own)
alone-meets phase n own whole is in_phase in_range = search (rules, arith, as-status)

-- what ends the run further on ends it
module _ {K : Type 0} (k : K) (end : Outcome) where
  pub in-file : (lines : Lines K (List ℕ)) (file : File) (bytes : List ℕ) → file ≡ Some bytes → Applies lines k bytes end → Applies (file_lines lines) k file end
  in-file lines file bytes present h = inr (in-within _ _ _ lines k file bytes end present h)

  pub in-header : (lines : Lines K (Header × List ℕ)) (bytes : List ℕ) (found : Header × List ℕ) → HasAnswer bytes (Ok found)
      → Applies lines k found end → Applies (header_lines lines) k bytes end
  in-header lines bytes found answer h = inr (in-within _ _ _ lines k bytes found end answer h)

pub in-suited : (lines : Lines PlanView (Header × List ℕ)) (view : PlanView) (found : Header × List ℕ) (end : Outcome) → Suits view found.0
    → Applies lines view found end → Applies (suited_lines lines) view found end
in-suited lines view found end suits h = inr (in-within _ _ _ lines view found tt end suits h)

module _ {K : Type 0} (given : K → Type 0) where
  pub file-meets : (lines : Lines K (List ℕ)) (work : K → Work) → Meets given lines (λ k bytes. (work k).outcome bytes)
      → Meets given (file_lines lines) (λ k file. on_file (work k) file)
  file-meets lines work told = record {
    holds = holds;
    only = λ k file end has h. elim h [
      | inl e ↦ ap (on_file (work k)) e.0 ∙ sym e.1
      | inr e ↦ let it = of-within _ _ _ lines k file end e in ap (on_file (work k)) it.1 ∙ told.only k it.0 end has it.2
    ];
    sound = (λ n s. s, λ end k file e. as-status 2 2 end (refused (OpenFault Data)) e.1 (omega arith, omega arith), within-sound _ _ _ lines told.sound);
  }
    where
      holds : (k : K) (file : File) → given k → Applies (file_lines lines) k file (on_file (work k) file)
      holds k None has = inl (refl, refl)
      holds k (Some bytes) has = in-file k _ lines (Some bytes) bytes refl (told.holds k bytes has)

  pub header-meets : (lines : Lines K (Header × List ℕ)) (tells : K → Header → RecordsWork) → Meets given lines (λ k found. (tells k found.0).ends found.1)
      → Meets given (header_lines lines) (λ k bytes. headed_end (tells k) (header_answer bytes))
  header-meets lines tells told = record {
    holds = λ k bytes has. by k bytes has (header_answer bytes) refl;
    only = λ k bytes end has h. elim h [
      | inl e ↦ ap (headed_end (tells k)) ((one_answer bytes (Err e.0)).0 e.1) ∙ sym e.2
      | inr e ↦ let it = of-within _ _ _ lines k bytes end e in
          ap (headed_end (tells k)) ((one_answer bytes (Ok it.0)).0 it.1) ∙ told.only k it.0 end has it.2
    ];
    sound = (λ n s. s, λ end k bytes e. as-status 10 16 end (refused e.0) e.2 (header-status bytes e.0 e.1), within-sound _ _ _ lines told.sound);
  }
    where
      by : (k : K) (bytes : List ℕ) → given k → (r : Answer) → header_answer bytes ≡ r → Applies (header_lines lines) k bytes (headed_end (tells k) r)
      by k bytes has (Err fault) e = inl (fault, (one_answer bytes (Err fault)).1 e, refl)
      by k bytes has (Ok found) e = in-header k _ lines bytes found ((one_answer bytes (Ok found)).1 e) (told.holds k found has)

-- ## By a plan

abbrev pub fit : Result (Unit {0}) Fault
fit = Ok tt

not_fit : (fault : Fault) → fit ≡ Err fault → ⊥
not_fit fault e = cc

module _ (given : PlanView → Type 0) (lines : Lines PlanView (Header × List ℕ)) (tells : PlanView → Header → RecordsWork) (told : Meets given lines (λ view found. (tells view found.0).ends found.1)) where
  -- what is made of the bytes after a header, by what the plan's fit to it is
  abbrev end_as : PlanView → Header × List ℕ → Result (Unit {0}) Fault → Outcome
  end_as view found fit = (unless_declined (fault_in fit) (tells view found.0)).ends found.1

  pub suited-meets : Meets given (suited_lines lines) (λ view found. (if_suited view (tells view) found.0).ends found.1)
  suited-meets = record {
    holds = λ view found has. by view found has (fits (mode_of found.0.record_type) view) refl;
    only = λ view found end has h. elim h [
      | inl e ↦ ap (end_as view found) (is_first (mode_of found.0.record_type) view e.0 e.1) ∙ sym e.2
      | inr e ↦ let it = of-within _ _ _ lines view found end e in
          suited view found end (told.only view found end has it.2) it.1 (fits (mode_of found.0.record_type) view) refl
    ];
    sound = (λ n s. s, λ end view found e. as-status 9 9 end (refused e.0) e.2 (misfit-status (mode_of found.0.record_type) view e.0 e.1), within-sound _ _ _ lines told.sound);
  }
    where
      by : (view : PlanView) (found : Header × List ℕ) → given view → (r : Result (Unit {0}) Fault) → fits (mode_of found.0.record_type) view ≡ r
          → Applies (suited_lines lines) view found (end_as view found r)
      by view found has (Err fault) e = inl (fault, misfit_named (mode_of found.0.record_type) view fault e, refl)
      by view found has (Ok done) e = in-suited lines view found _
          (λ fault misfit. not_fit fault (sym e ∙ is_first (mode_of found.0.record_type) view fault misfit)) (told.holds view found has)

      suited : (view : PlanView) (found : Header × List ℕ) (end : Outcome) → (tells view found.0).ends found.1 ≡ end → Suits view found.0
          → (r : Result (Unit {0}) Fault) → fits (mode_of found.0.record_type) view ≡ r → end_as view found r ≡ end
      suited view found end is suits (Err fault) e = absurd (suits fault (misfit_named (mode_of found.0.record_type) view fault e))
      suited view found end is suits (Ok done) e = is

-- what a plan lacks is told by what is needed
abbrev pub NeedMeets : Need → (PlanView → Option Fault) → Type 0
NeedMeets NeedsNothing lacks = (view : PlanView) → lacks view ≡ None
NeedMeets (Needs n has lack) lacks =
    ((view : PlanView) → (has view × (lacks view ≡ None)) ⊎ ((has view → ⊥) × (lacks view ≡ Some lack))) × StatusIn 22 23 lack × (n ≡ status_of lack)

plan-ok : (plan_file : File) (view : PlanView) (v : IsValidPlan plan_file view) → plan_answer v.text ≡ Ok view
plan-ok plan_file view v = plans v.text v.ms v.is_valid v.document_is ∙ ap (λ (p : PlanView). Ok p) (sym v.view_is)

pub in-plan : (need : Need) (lines : Lines PlanView File) (plan_file data_file : File) (view : PlanView) (end : Outcome) → IsValidPlan plan_file view → Has need view
    → Applies lines view data_file end → Applies (plan_lines need lines) plan_file data_file end
in-plan NeedsNothing lines plan_file data_file view end valid has h = inr (inr (in-within _ _ _ lines plan_file data_file view end (valid, has) h))
in-plan (Needs n needed lack) lines plan_file data_file view end valid has h = inr (inr (inr (in-within _ _ _ lines plan_file data_file view end (valid, has) h)))

module _ (lines : Lines PlanView File) (lacks : PlanView → Option Fault) (work : PlanView → Work) where
  abbrev valid_lines : Need → Lines File File
  valid_lines need = need_lines need (within (λ plan_file data_file view. IsValidPlan plan_file view × Has need view) (λ plan_file data_file view. view) (λ plan_file data_file view. data_file) lines)

  abbrev end_of : Option Fault → PlanView → File → Outcome
  end_of lack view data_file = unless lack (on_file (work view) data_file)

  need-holds : (need : Need) → NeedMeets need lacks → Meets (Has need) lines (λ view data_file. on_file (work view) data_file)
      → (plan_file data_file : File) (view : PlanView) → IsValidPlan plan_file view → Applies (valid_lines need) plan_file data_file (end_of (lacks view) view data_file)
  need-holds NeedsNothing needs told plan_file data_file view v =
      subst (λ (o : Option Fault). Applies (valid_lines NeedsNothing) plan_file data_file (end_of o view data_file)) (sym (needs view))
      (in-within _ _ _ lines plan_file data_file view _ (v, tt) (told.holds view data_file tt))
  need-holds (Needs n has lack) needs told plan_file data_file view v = elim (needs.0 view) [
    | inl h ↦ subst (λ (o : Option Fault). Applies (valid_lines (Needs n has lack)) plan_file data_file (end_of o view data_file)) (sym h.1)
        (inr (in-within _ _ _ lines plan_file data_file view _ (v, h.0) (told.holds view data_file h.0)))
    | inr h ↦ subst (λ (o : Option Fault). Applies (valid_lines (Needs n has lack)) plan_file data_file (end_of o view data_file)) (sym h.1) (inl (view, v, h.0, refl))
  ]

  need-only : (need : Need) → NeedMeets need lacks → Meets (Has need) lines (λ view data_file. on_file (work view) data_file)
      → (plan_file data_file : File) (end : Outcome) → Applies (valid_lines need) plan_file data_file end
      → (view : PlanView) × IsValidPlan plan_file view × (end_of (lacks view) view data_file ≡ end)
  need-only NeedsNothing needs told plan_file data_file end h =
      let it = of-within _ _ _ lines plan_file data_file end h in
      (it.0, it.1.0, ap (λ (o : Option Fault). end_of o it.0 data_file) (needs it.0) ∙ told.only it.0 data_file end tt it.2)
  need-only (Needs n has lack) needs told plan_file data_file end (inl h) = (
    h.0,
    h.1,
    elim (needs.0 h.0) [
      | inl there ↦ absurd (h.2 there.0)
      | inr wanting ↦ ap (λ (o : Option Fault). end_of o h.0 data_file) wanting.1 ∙ sym h.3
    ],
  )
  need-only (Needs n has lack) needs told plan_file data_file end (inr h) =
      let it = of-within _ _ _ lines plan_file data_file end h in (
        it.0,
        it.1.0,
        elim (needs.0 it.0) [
          | inl there ↦ ap (λ (o : Option Fault). end_of o it.0 data_file) there.1 ∙ told.only it.0 data_file end it.1.1 it.2
          | inr wanting ↦ absurd (wanting.0 it.1.1)
        ],
      )

  need-sound : (need : Need) → NeedMeets need lacks → Sound lines → Sound (valid_lines need)
  need-sound NeedsNothing needs sound = within-sound _ _ _ lines sound
  need-sound (Needs n has lack) needs sound = search (rules, arith, as-status, within-sound)

  abbrev plan_end : File → Result PlanView Fault → Outcome
  plan_end data_file answer = by_plan lacks work answer data_file

  pub plan-meets : (need : Need) (plan file : List ℕ) (writing : Writing (PlanView → List ℕ → List ℕ)) (memory : Memory)
      → NeedMeets need lacks → Meets (Has need) lines (λ view data_file. on_file (work view) data_file)
      → Meets (λ (plan_file : File). Unit {0}) (plan_lines need lines) (λ plan_file data_file. outcome (ByPlan plan file writing memory lacks work) plan_file data_file)
  unfolding outcome
  plan-meets need plan_name file writing memory needs told = record {
    holds = λ plan_file data_file has. holds plan_file data_file;
    only = λ plan_file data_file end has h. only plan_file data_file end h;
    sound = (
      λ n s. s,
      λ end plan_file data_file e. as-status 2 2 end (refused (OpenFault Plan)) e.1 (omega arith, omega arith),
      (λ n s. s, λ end plan_file data_file e. as-status 6 8 end (refused e.1) e.5 (called-status e.0 e.1 e.3 e.4), need-sound need needs told.sound),
    );
  }
    where
      answered : (text : List ℕ) (data_file : File) (answer : Result PlanView Fault) → plan_answer text ≡ answer
          → Applies (plan_lines need lines) (Some text) data_file (plan_end data_file answer)
      answered text data_file (Err fault) e = let calls = called text fault e in inr (inl (text, fault, refl, calls.0, calls.1, refl))
      answered text data_file (Ok view) e =
          let good = valid text view e in
          let same : plan (table good.1) ≡ view = let p = plans text good.1 good good.2 in cc in
          inr (inr (need-holds need needs told (Some text) data_file view
          (record { text = text; ms = good.1; present = refl; is_valid = good; document_is = good.2; view_is = sym same })))

      holds : (plan_file data_file : File) → Applies (plan_lines need lines) plan_file data_file (outcome (ByPlan plan_name file writing memory lacks work) plan_file data_file)
      holds None data_file = inl (refl, refl)
      holds (Some text) data_file = answered text data_file (plan_answer text) refl

      only : (plan_file data_file : File) (end : Outcome) → Applies (plan_lines need lines) plan_file data_file end
          → outcome (ByPlan plan_name file writing memory lacks work) plan_file data_file ≡ end
      only plan_file data_file end (inl e) = ap (λ (f : File). outcome (ByPlan plan_name file writing memory lacks work) f data_file) e.0 ∙ sym e.1
      only plan_file data_file end (inr (inl e)) = ap (λ (f : File). outcome (ByPlan plan_name file writing memory lacks work) f data_file) e.2
          ∙ ap (plan_end data_file) (answers e.0 e.1 (e.3, e.4)) ∙ sym e.5
      only plan_file data_file end (inr (inr e)) =
          let it = need-only need needs told plan_file data_file end e in
          ap (λ (f : File). outcome (ByPlan plan_name file writing memory lacks work) f data_file) it.1.present ∙ ap (plan_end data_file) (plan-ok plan_file it.0 it.1) ∙ it.2

-- A command by a plan meets the lines of FILE by a plan.
pub planned-meets : (need : Need) (lines : Lines PlanView (Header × List ℕ)) (tells : PlanView → Header → RecordsWork) (good : PlanView → List ℕ → Type 0) (lacks : PlanView → Option Fault)
    (plan file : List ℕ) (writing : Writing (PlanView → List ℕ → List ℕ)) (memory : Memory)
    → NeedMeets need lacks → Meets (Has need) lines (λ view found. (tells view found.0).ends found.1)
    → Meets (λ (plan_file : File). Unit {0}) (planned_lines need lines)
    (λ plan_file data_file. outcome (ByPlan plan file writing memory lacks (λ view. headed_work (if_suited view (tells view)) (good view))) plan_file data_file)
planned-meets need lines tells good lacks plan file writing memory needs told =
    let work = λ (view : PlanView). headed_work (if_suited view (tells view)) (good view) in
    plan-meets (file_lines (header_lines (suited_lines lines))) lacks work need plan file writing memory needs
    (file-meets (Has need) _ work (header-meets (Has need) _ (λ view. if_suited view (tells view)) (suited-meets (Has need) lines tells told)))
