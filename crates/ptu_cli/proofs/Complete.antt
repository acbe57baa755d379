-- Good words and files end well, only words that are no command end as a bad command line, and a run leaves what is promised.
use Rattle.std.proofs.Common.{◌≡◌, ◌≤◌, ◌<◌, ℕ, true, None, Some, Ok, Err, refl, sym, ap, ◌∙◌, subst, arith, rules, inl, inr, ◌⊎◌, Result, IfErr}
use Rattle.{std.specs.declared.option.Option.Option, tally_base.specs.declared.{slot.Slot.{Slot, TheVariants.{Plan, Data}}, fault.Fault.Fault}}
use Rattle.tally_base.specs.{declared.fault.Fault.TheVariants.{Usage, OpenFault, ReadFault, WriteFault, OutOfMemory}, Faults.{is_outside, fault_in, status_of}}
use Rattle.{tally_base.specs.{Faults.HasReason, FaultCounts.Rose}, bench_io.specs.{Inputs.{File, InputState}, Sinks.SinkState}, ptu_cli.specs.Commands.Request}
use Rattle.ptu_cli.specs.{Runs.{Around, Runs, TellsOn, EndsIn, NothingFailed}, Behaviours.behaviour, Tables.HasStatus, CommandCases.cases}
use Rattle.{ptu_cli.proofs.{Sound.{WorkIsSound, IsSound, sound}, Told.{some-status, usage}}, command_work.specs.Outcomes.{Outcome, status, IsIn}}
use Rattle.command_work.specs.{Behaviours.{Work, Behaviour, Alone}, Endings.{HasPlan, on_file, outcome, Span, HasCauses, NoneRose, IsGood, IsGoodFor}}
use Rattle.command_work.{specs.Endings.{AreItsFiles, ForItsFiles, Answers, EndsWith, LeavesCommand, RunsOut, LacksMemory}, proofs.Told.{files-map, some-file}}
use Rattle.command_work.proofs.Once.{IsQuiet}

-- ## Good files

good-work : (work : Work) (data_file : File) → WorkIsSound work → IsGoodFor work data_file → (on_file work data_file).fault ≡ None
good-work work data_file is h = search (rules, arith)

good-does : (does : Behaviour) (plan_file data_file : File) → IsSound does → IsGood does plan_file data_file → (outcome does plan_file data_file).fault ≡ None
unfolding outcome
good-does does plan_file data_file is h = search (rules, arith, good-work)

good-ends : (request : Option Request) (plan_file data_file : File)
    → IsGood (behaviour request) plan_file data_file → (outcome (behaviour request) plan_file data_file).fault ≡ None
good-ends request plan_file data_file h = search (rules, arith, good-does, sound)

-- ## A bad command line

outside-range : (fault : Fault) → is_outside fault ≡ true → IsIn 2 5 (status_of fault)
outside-range fault e = search (rules, arith)

-- Some files always may be those of a run.
pub some-files : (does : Behaviour) (after : InputState) → AreItsFiles does after (Some (after.given Plan).bytes) (Some (after.given Data).bytes)
some-files does after = search (rules, some-file)

-- A run that ends so had words that are no command.
bad-words : (request : Option Request) (r : Result (Unit {0}) Fault) (after : InputState) (old new : SinkState)
    → Answers (behaviour request) after r old new → status (fault_in r) ≡ 1 → request ≡ None
bad-words None r after old new answers one = refl
bad-words (Some request) (Ok done) after old new (inl never) one = absurd never
bad-words (Some request) (Err fault) after old new (inl outside) one = absurd (omega (arith, one, (outside-range fault outside).0))
bad-words (Some request) r after old new (inr all) one =
    let ends = all _ _ (some-files (behaviour (Some request)) after) in
    usage (Some request) (subst (HasStatus (cases (Some request))) (sym (ap status ends.same) ∙ one) (some-status (Some request) _ _))

-- ## The end that the files call for

-- a run whose status is none of a fault from outside ends by its files
ends-answered : (does : Behaviour) (run : Around) (r : Result (Unit {0}) Fault) (result : ℕ) → result ≡ status (fault_in r)
    → Answers does run.after r run.out_before run.out_after → TellsOn run (fault_in r) → (2 ≤ result → 5 < result) → ForItsFiles does run.after (λ end. EndsIn run result end)
ends-answered does run (Ok done) result is (inl never) tells own = absurd never
ends-answered does run (Err fault) result is (inl outside) tells own =
    let range = outside-range fault outside in
    let high = own (omega (arith, is, range.0)) in
    absurd (omega (arith, is, high, range.1))
ends-answered does run r result is (inr some) tells own =
    files-map does run.after (λ (end : Outcome). EndsWith end (fault_in r) run.out_before run.out_after) (λ (end : Outcome). EndsIn run result end)
    (λ end ends. (is ∙ ap status ends.same, ends.text, subst (λ (o : Option Fault). TellsOn run o) ends.same tells)) some

-- ## Nothing but memory runs out

-- only want of memory is left
only_memory : (opening reading : Slot → Type 0) (writing memory : Type 0) (fault : Fault) → is_outside fault ≡ true
    → ((slot : Slot) → opening slot → ⊥) → ((slot : Slot) → reading slot → ⊥) → (writing → ⊥)
    → HasReason opening reading writing memory fault → (fault ≡ OutOfMemory) × memory
only_memory o r w m fault e no_o no_r no_w h = search (rules, arith)

may_want : (does : Behaviour) (span : Span) (result : ℕ) → result ≡ 5
    → RunsOut does (HasPlan span.after) span.after span.old span.new → LacksMemory does result
may_want does span result five h = search (rules, arith)

-- The status is that of want of memory, or the one that the files call for.
abbrev Completes : Behaviour → InputState → ℕ → Type 0
Completes does after result = LacksMemory does result ⊎ ForItsFiles does after (λ end. result ≡ status end.fault)

completes : (does : Behaviour) (span : Span) (r : Result (Unit {0}) Fault) (result : ℕ) → result ≡ status (fault_in r)
    → NoneRose span.before span.after → ¬ (Rose span.old.faults span.new.faults)
    → IfErr r (HasCauses does span) → Answers does span.after r span.old span.new → Completes does span.after result
unfolding HasCauses
completes does span r result is none quiet causes (inr some) =
    inr (files-map does span.after (λ (end : Outcome). EndsWith end (fault_in r) span.old span.new)
    (λ (end : Outcome). result ≡ status end.fault) (λ end ends. is ∙ ap status ends.same) some)
completes does span (Ok done) result is none quiet causes (inl never) = absurd never
completes does span (Err fault) result is none quiet causes (inl outside) =
    let want = only_memory _ _ _ _ fault outside (λ slot h. (none slot).0 h.1) (λ slot h. (none slot).1 h.3) (λ h. quiet h.0) causes in
    inl (may_want does span result (is ∙ ap status_of want.0) want.1)

-- where files that may be its are good, the run ends well
good-its : (request : Option Request) (after : InputState) (result : ℕ) (plan_file data_file : File) → Completes (behaviour request) after result
    → AreItsFiles (behaviour request) after plan_file data_file → IsGood (behaviour request) plan_file data_file
    → LacksMemory (behaviour request) result ⊎ (result ≡ 0)
good-its request after result plan_file data_file completes may good = search (rules, arith, good-ends)

-- a command that needs no files tells of no call of the inputs
pub alone-quiet : (end : Outcome) (span : Span) (r : Result (Unit {0}) Fault) → IfErr r (HasCauses (Alone end) span) → IsQuiet (fault_in r)
unfolding HasCauses
alone-quiet end span r causes = search (rules, arith)

-- ## What is said of a request is said of what the words ask for, and a status names its fault

pub does_as : (r : Result (Unit {0}) Fault) (a b : Option Request) (span : Span) → a ≡ b → LeavesCommand (behaviour a) span r → LeavesCommand (behaviour b) span r
does_as r a b span e h = subst (λ (request : Option Request). LeavesCommand (behaviour request) span r) e h

module _ (opening reading : Slot → Type 0) (writing memory : Type 0) where
  abbrev Reason : Result (Unit {0}) Fault → Type 0
  Reason r = IfErr r (HasReason opening reading writing memory)

  opening-from_status : (r : Result (Unit {0}) Fault) → status (fault_in r) ≡ 2 → Reason r → (slot : Slot) × (fault_in r ≡ Some (OpenFault slot)) × opening slot
  opening-from_status r e h = search (rules, arith)

  reading-from_status : (r : Result (Unit {0}) Fault) → status (fault_in r) ≡ 3 → Reason r → (slot : Slot) × (fault_in r ≡ Some (ReadFault slot)) × reading slot
  reading-from_status r e h = search (rules, arith)

  writing-from_status : (r : Result (Unit {0}) Fault) → status (fault_in r) ≡ 4 → Reason r → (fault_in r ≡ Some WriteFault) × writing
  writing-from_status r e h = search (rules, arith)

  memory-from_status : (r : Result (Unit {0}) Fault) → status (fault_in r) ≡ 5 → Reason r → (fault_in r ≡ Some OutOfMemory) × memory
  memory-from_status r e h = search (rules, arith)

-- ## All that is promised

abbrev span_of : Around → Span
span_of run = record {
  before = run.before;
  after = run.after;
  old = run.out_before;
  new = run.out_after;
}

-- A command that does this, with the status of its fault and the line of it, leaves what is promised.
pub runs : (request : Option Request) (run : Around) (r : Result (Unit {0}) Fault) (result : ℕ) → result ≡ status (fault_in r) → TellsOn run (fault_in r)
    → LeavesCommand (behaviour request) (span_of run) r → (request ≡ None → r ≡ Err Usage) → Runs request run result
unfolding HasCauses
runs request run r result is tells does usage =
    let does_it = behaviour request in
    let ends : NothingFailed run → Completes does_it run.after result = λ quiet. completes does_it (span_of run) r result is quiet.0 quiet.1 does.causes does.answer in
    let told : (fault : Option Fault) → fault_in r ≡ fault → TellsOn run fault = λ fault same. subst (λ (o : Option Fault). TellsOn run o) same tells in
    record {
      answered = ends-answered does_it run r result is does.answer tells;
      told = (fault_in r, is, tells);
      usage = (λ one. bad-words request r run.after _ _ does.answer (sym is ∙ one), λ none. is ∙ ap (λ (r : Result (Unit {0}) Fault). status (fault_in r)) (usage none));
      unopened = λ two. let h = opening-from_status _ _ _ _ r (sym is ∙ two) does.causes in (h.0, h.2, told (Some (OpenFault h.0)) h.1);
      unread = λ three. let h = reading-from_status _ _ _ _ r (sym is ∙ three) does.causes in (h.0, h.2, told (Some (ReadFault h.0)) h.1);
      unwritten = λ four. let h = writing-from_status _ _ _ _ r (sym is ∙ four) does.causes in (h.1.0, h.1.1, told (Some WriteFault) h.0);
      memory = λ five. let h = memory-from_status _ _ _ _ r (sym is ∙ five) does.causes in (h.1, told (Some OutOfMemory) h.0);
      asks = does.asks;
      once = (fault_in r, is, tells, (does.once.inputs, does.once.out));
      complete = ends;
      good = λ plan_file data_file may good quiet. good-its request run.after result plan_file data_file (ends quiet) may good;
      files = does.files;
    }
