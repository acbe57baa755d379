-- What a command by a plan leaves, whatever its work is.
use Rattle.std.proofs.Common.{◌≡◌, ℕ, List, true, false, None, Some, Ok, Err, refl, sym, ◌∙◌, subst, inl, inr, Result, arith, rules, ◌<◌, ◌≤◌, ◌+◌, [], ◌++◌}
use Rattle.std.proofs.{Common.{length, take, ap, append-nil, ◌≢◌, IfErr}, lemmas.{Bool.{cases_Bool, cases_lt}, List.{length-append, length-take-le}}}
use Rattle.{std.specs.declared.option.Option.Option, tally_base.specs.declared.{fault.Fault.{Fault, TheVariants.{OutOfMemory, ReadFault}}, slot.Slot.Slot}}
use Rattle.tally_base.specs.{declared.{slot.Slot.TheVariants.{Plan as PlanSlot, Data}, header.Mode.Mode}, Faults.{is_outside, fault_in, HasReason}}
use Rattle.{tally_base.{specs.FaultCounts.Rose, proofs.Reasons.{HasReason-follows, HasReason-inside}}, bench_io.specs.Given.{Given, no_bytes, IsOf, Consumes}}
use Rattle.bench_io.{specs.{Given.IsAtEnd, Inputs.{File, InputState, KeepsOther, Keeps, OnlyReads}, Sinks.SinkState}, proofs.Bytes.Wrote-nil}
use Rattle.plan_text.specs.{declared.plan.Plan.Plan, Plan.PlanView, ReadPlan.{plan_view, text_limit, plan_answer, plan_seen, IsCalledFor}, Fits.IsMisfit}
use Rattle.{plan_text.proofs.{Called.plan_answer_long, Misfits.names_part}, command_work.specs.Outcomes.{Outcome, refused, InputsOnce, SaysNoEnd}}
use Rattle.command_work.specs.{Pieces.{IsRead, AnswersPlan, PlanReason, OnlyUses}, Behaviours.{Work, Writing, under, Memory, Behaviour, ByPlan}}
use Rattle.command_work.specs.{Works.{AnswersWork, WorkReason}, Endings.{FileOf, IsPlan, HasPlan, OpensAs, ReadAgrees, TakesPlan, EndsWith, Answers, Cuts}}
use Rattle.command_work.{specs.Endings.{WantsBehind, Span, HasCauses, on_file, outcome, HasWholePlan, WantsForPlan}, proofs.Once.{Rose-kept, IsQuiet}}
use Rattle.command_work.proofs.{Once.{quiet-none, quiet-memory, quiet-inside}, Told.{all-taken, none-ended, read-agrees, ends-told, stops-told, cuts-told}}
use Rattle.command_work.proofs.Told.{file-splits}

pub KeepsOther-trans : (slot : Slot) (a b c : InputState) → KeepsOther slot a b → KeepsOther slot b c → KeepsOther slot a c
KeepsOther-trans slot a b c p q = search (rules, arith)

-- a plan that was read is that of each file that may be the one read
pub has-plan : (after : InputState) (lacks : PlanView → Option Fault) (plan : Plan)
    → AnswersPlan after (Ok plan) → lacks (plan_view plan) ≡ None → HasPlan after lacks (plan_view plan)
has-plan after lacks plan (inl outside) whole = absurd outside
has-plan after lacks plan (inr read) whole =
    record { is_plan = λ plan_file may. let is = read plan_file may in record { text = is.text; present = is.present; answer = is.answer }; whole = whole }

-- it stays so while the data are opened and read
pub has-later : (mid after : InputState) (lacks : PlanView → Option Fault) (view : PlanView)
    → KeepsOther Data mid after → HasPlan mid lacks view → HasPlan after lacks view
has-later mid after lacks view kept has = search (rules, arith)

-- an answer that is no fault is none
pub none-lacking : (lack told : Option Fault) → told ≡ lack → ((fault : Fault) → told ≡ Some fault → ⊥) → lack ≡ None
none-lacking lack told is never = search (rules, arith)

pub names-later : (before mid after : InputState) (name : List ℕ) → OpensAs PlanSlot before mid name
    → KeepsOther Data mid after → OpensAs PlanSlot before after name
names-later before mid after name names kept opened = search (rules, arith)

-- what was read of a plan stays so while the data are opened and read
pub takes-later : (mid after : InputState) → TakesPlan mid → KeepsOther Data mid after → TakesPlan after
takes-later mid after takes kept opened = let few = takes (sym kept.opened ∙ opened) in rw (← kept.given) at few

-- a plan that lacks nothing leaves the end to the data
pub outcome-planned : (plan_name name : List ℕ) (writing : Writing (PlanView → List ℕ → List ℕ)) (memory : Memory) (lacks : PlanView → Option Fault) (work : PlanView → Work)
    (plan_file data_file : File) (view : PlanView) → IsPlan plan_file view → lacks view ≡ None → outcome (ByPlan plan_name name writing memory lacks work) plan_file data_file ≡ on_file (work view) data_file
unfolding outcome
outcome-planned plan_name name writing memory lacks work plan_file data_file view is whole = search (rules, arith)

-- a text that is cut by a plan is cut
cuts-under : (writing : Writing (PlanView → List ℕ → List ℕ)) (view : PlanView) (end : Outcome) (old new : SinkState)
    → Cuts (under view writing) end old new → Cuts writing end old new
cuts-under writing view end old new h = search (rules, arith)

module _ (plan_name name : List ℕ) (writing : Writing (PlanView → List ℕ → List ℕ)) (memory : Memory) (lacks : PlanView → Option Fault) (work : PlanView → Work) where
  abbrev does : Behaviour
  does = ByPlan plan_name name writing memory lacks work

  -- a plan that is refused ends the run
  outcome-read : (plan_file data_file : File) (fault : Fault) → IsRead plan_file (Err fault) → outcome does plan_file data_file ≡ refused fault
  unfolding outcome
  outcome-read plan_file data_file fault read = search (rules, arith)

  pub answers-unplanned : (after : InputState) (fault : Fault) (old : SinkState) → AnswersPlan after (Err fault) → Answers does after (Err fault) old old
  answers-unplanned after fault old (inl outside) = inl outside
  answers-unplanned after fault old (inr read) = inr (λ plan_file data_file may.
      subst (λ (end : Outcome). EndsWith end (Some fault) old old) (sym (outcome-read plan_file data_file fault (read plan_file may.0))) (record { same = refl; text = Wrote-nil old }))

  -- why there is no plan
  pub unplanned-causes : (before after : InputState) (old : SinkState) (fault : Fault)
      → KeepsOther PlanSlot before after → before.asked Data ≡ false → PlanReason before after fault
      → HasCauses does (record { before = before; after = after; old = old; new = old }) fault
  unfolding HasCauses
  unplanned-causes before after old fault other first reason = search (rules, arith, Wrote-nil)

  -- a plan that lacks something ends the run
  outcome-lacking : (plan_file data_file : File) (plan : Plan) (fault : Fault)
      → IsRead plan_file (Ok plan) → lacks (plan_view plan) ≡ Some fault → outcome does plan_file data_file ≡ refused fault
  unfolding outcome
  outcome-lacking plan_file data_file plan fault read lacking = search (rules, arith)

  pub answers-lacking : (after : InputState) (plan : Plan) (fault : Fault) (old : SinkState)
      → AnswersPlan after (Ok plan) → lacks (plan_view plan) ≡ Some fault → Answers does after (Err fault) old old
  answers-lacking after plan fault old (inl outside) lacking = absurd outside
  answers-lacking after plan fault old (inr read) lacking = inr (λ plan_file data_file may.
      subst (λ (end : Outcome). EndsWith end (Some fault) old old) (sym (outcome-lacking plan_file data_file plan fault (read plan_file may.0) lacking)) (record { same = refl; text = Wrote-nil old }))

  -- and has no cause outside
  pub lacking-causes : (span : Span) (fault : Fault) → is_outside fault ≡ false → HasCauses does span fault
  unfolding HasCauses
  lacking-causes span fault inside = HasReason-inside _ _ _ _ fault inside

  module _ (view : PlanView) where
    planned : {after : InputState} (plan_file data_file : File) → HasPlan after lacks view → FileOf after PlanSlot plan_file → on_file (work view) data_file ≡ outcome does plan_file data_file
    planned plan_file data_file has may = sym (outcome-planned plan_name name writing memory lacks work plan_file data_file view (has.is_plan plan_file may) has.whole)

    -- work that ended is that of each such file
    pub plan-answers : (after : InputState) (start : Given) (old new : SinkState) (r : Result (Unit {0}) Fault) → HasPlan after lacks view → start ≡ no_bytes
        → after.opened Data ≡ true → AnswersWork (work view) start (after.given Data) old new r
        → Answers does after r old new
    plan-answers after start old new r has none opened (inl outside) = inl outside
    plan-answers after start old new r has none opened (inr ends) = inr (λ plan_file data_file may.
        subst (λ (end : Outcome). EndsWith end (fault_in r) old new) (planned plan_file data_file has may.0) (ends-told (work view) after start old new (fault_in r) data_file none opened ends may.1))

    -- why it ended by a fault from outside
    pub plan-causes : (before : InputState) (span : Span) (fault : Fault)
        → HasPlan span.after lacks view → span.before.given Data ≡ no_bytes → span.after.opened Data ≡ true
        → InputsOnce before span.before None → WorkReason (under view writing) (WantsBehind memory view) (work view) span fault
        → HasCauses does (record span { before = before }) fault
    unfolding HasCauses
    plan-causes before span fault has none opened once reason =
        HasReason-follows _ _ _ _ _ _ _ _ fault
        (λ slot no. absurd no)
        (λ slot r. (rw r.0 (view, has), rw r.0 opened, rw r.0 (none-ended _ _ none r.2.unended), Rose-kept _ _ _ (once.reads slot) r.1, rw r.0 (view, has, stops-told (under view writing) (work view) span.after (span.before.given Data) span.old span.new none r.2)))
        (λ w. (
          w.0,
          λ plan_file data_file may.
              subst (λ (end : Outcome). Cuts writing end span.old span.new) (planned plan_file data_file has may.0)
              (cuts-told (under view writing) writing (work view) span.after (span.before.given Data) span.old span.new data_file
              (λ end h. cuts-under writing view end span.old span.new h) none opened w.1 may.1),
        ))
        (λ want. (want.keeps, inr (record { plan = view; has = has; opened = opened; wants = subst (WantsBehind memory view) (sym (all-taken (span.before.given Data) (span.after.given Data) want.taken none want.consumes)) want.wants })))
        reason

-- a file that is told for a word may be its slot's
pub plan-files : (plan_name name : List ℕ) (before after : InputState) → OpensAs PlanSlot before after plan_name → OpensAs Data before after name
    → ((slot : Slot) (bytes : List ℕ) → after.told slot ≡ Some bytes → IsOf (after.given slot) bytes)
    → ReadAgrees PlanSlot before after plan_name × ReadAgrees Data before after name
plan-files plan_name name before after is_plan is_data agrees = search (rules, arith, read-agrees)

-- the data were not asked for, nor opened, while the plan was read
pub data-unasked : (before after : InputState) {P : Type 0} → before.asked Data ≡ false → KeepsOther PlanSlot before after → after.asked Data ≡ true → P
data-unasked before after first other asked = let same = other.asked in cc

-- What was read of a plan is what its file answers.

-- bytes that end the file, or are too many for a plan by themselves
same_answer : (taken more : List ℕ) → (length taken < text_limit + 1 → more ≡ []) → plan_answer (taken ++ more) ≡ plan_answer taken
same_answer taken more ended = elim (cases_lt (length taken) (text_limit + 1)) [
  | inl short ↦ ap (λ l. plan_answer (taken ++ l)) (ended short) ∙ ap plan_answer (append-nil taken)
  | inr long ↦ plan_answer_long (taken ++ more) (let size : length (taken ++ more) ≡ length taken + length more = length-append taken more in omega arith)
      ∙ sym (plan_answer_long taken (omega arith))
]

-- what was read of a plan is what each file answers that may be the one read
pub plan_told : (after : InputState) (start : Given) (taken : List ℕ) (r : Result Plan Fault) → start ≡ no_bytes → after.opened PlanSlot ≡ true
    → Consumes start (after.given PlanSlot) taken → (length taken < text_limit + 1 → IsAtEnd (after.given PlanSlot))
    → (r ≢ Err OutOfMemory → plan_seen r ≡ plan_answer taken) → AnswersPlan after r
plan_told after start taken (Ok plan) none opened took ended answer = search (rules, arith, file-splits, same_answer)
plan_told after start taken (Err fault) none opened took ended answer = elim (cases_Bool (is_outside fault)) [
  | inl outside ↦ inl outside
  | inr inside ↦ inr (λ plan_file may.
      let split = file-splits after PlanSlot plan_file start taken may opened none took in
      let enough : ◌≢◌ {A = Result Plan Fault} (Err fault) (Err OutOfMemory) = λ e. let same : fault ≡ OutOfMemory =
      cc in let bad : is_outside OutOfMemory ≡ false = rw same at inside in cc in
      record { text = taken ++ split.more; present = split.parts; answer = same_answer taken split.more (λ short. split.follows (ended short)) ∙ sym (answer enough) })
]

-- a fault of the bytes of a plan is one from outside only for want of memory
plan_reason : (opening reading : Slot → Type 0) (writing memory : Type 0) (fault : Fault)
    → (fault ≢ OutOfMemory → is_outside fault ≡ false) → (fault ≡ OutOfMemory → memory) → HasReason opening reading writing memory fault
plan_reason opening reading writing memory fault h want = search (rules, arith)

-- a plan for which memory runs out was read whole
plan_wanted : (after : InputState) (start : Given) (taken : List ℕ) → start ≡ no_bytes → after.opened PlanSlot ≡ true → Consumes start (after.given PlanSlot) taken → (length taken < text_limit + 1 → IsAtEnd (after.given PlanSlot)) → length taken ≤ text_limit → HasWholePlan after
plan_wanted after start taken none opened took ended few = search (rules, arith, all-taken)

-- why the bytes that were read of a plan are refused
pub plan-reasons : (opening reading : Slot → Type 0) (writing : Type 0) (after : InputState) (start : Given) (taken : List ℕ) (r : Result Plan Fault)
    → start ≡ no_bytes → after.opened PlanSlot ≡ true → Consumes start (after.given PlanSlot) taken
    → (length taken < text_limit + 1 → IsAtEnd (after.given PlanSlot)) → IfErr r (λ fault. fault ≢ OutOfMemory → is_outside fault ≡ false) → IfErr r (IsCalledFor taken) → IfErr r (HasReason opening reading writing (WantsForPlan after))
plan-reasons opening reading writing after start taken r none opened took ended inside called = search (rules, arith, plan_reason, plan_wanted)

-- why a read of a plan that was opened fails
pub reading-fails : (before mid after : InputState) (start : Given) (taken : List ℕ) (fault : Fault)
    → start ≡ no_bytes → after.opened PlanSlot ≡ true → mid.read_faults PlanSlot ≡ before.read_faults PlanSlot → fault ≡ ReadFault PlanSlot
    → Rose (mid.read_faults PlanSlot) (after.read_faults PlanSlot) → Consumes start (after.given PlanSlot) taken → length taken < text_limit + 1
    → SaysNoEnd start (after.given PlanSlot) → PlanReason before after fault
reading-fails before mid after start taken fault none opened same is rose took few going =
    rw is (refl, opened, none-ended start (after.given PlanSlot) none going, Rose-kept _ _ _ same rose, rw (all-taken start (after.given PlanSlot) taken none took) (omega arith))

quiet-unless : (fault : Fault) → (fault ≢ OutOfMemory → is_outside fault ≡ false) → IsQuiet (Some fault)
quiet-unless fault h = search (rules, arith, quiet-memory, quiet-inside)

-- no plan tells of a call of the inputs that failed
pub plan-quiet : (r : Result Plan Fault) → IfErr r (λ fault. fault ≢ OutOfMemory → is_outside fault ≡ false) → IsQuiet (fault_in r)
plan-quiet r inside = search (rules, arith, quiet-none, quiet-unless)

-- the text that is read ends the file, or is full
pub ended_short : (size len : ℕ) (text : List ℕ) (given : Given) → length text ≡ size → len ≤ length text
    → (len < length text → IsAtEnd given) → length (take len text) < size → IsAtEnd given
ended_short size len text given whole room ended short = search (rules, arith, length-take-le)

-- an opening and reads after it
pub uses-read : (slot : Slot) (before mid after : InputState) → Keeps before mid → KeepsOther slot before mid → OnlyReads slot mid after → OnlyUses slot before after
uses-read slot before mid after keeps other reads = search (rules, arith)

-- a part that doesn't suit is no fault from outside
pub misfit-inside : (mode : Mode) (plan : PlanView) (fault : Fault) → IsMisfit mode plan fault → is_outside fault ≡ false
misfit-inside mode plan fault misfit = rw (names_part mode plan fault misfit).2 refl
