-- What the bytes taken say of the whole.
use Rattle.std.proofs.Common.{◌≡◌, ◌≢◌, ℕ, List, [], ◌++◌, true, false, Some, refl, sym, ap, ◌∙◌, subst, ⊎_elim, append-nil, arith, rules, None, inl, inr}
use Rattle.{std.{proofs.Common.{Result, ◌⊎◌, IsErrAnd}, specs.declared.option.Option.Option}, tally_base.specs.declared.slot.Slot.{Slot, TheVariants.Data}}
use Rattle.{tally_base.specs.{declared.fault.Fault.Fault, Faults.{fault_in, is_outside}}, bench_io.specs.{Inputs.{File, InputState, IsOpened}, Given.Given}}
use Rattle.{bench_io.specs.{Given.{no_bytes, Consumes, GivesCount, IsAtEnd, MayFollow, IsOf}, Sinks.SinkState}, ptu_definitions.specs.Headers.Shows}
use Rattle.command_work.specs.{Outcomes.{Decides, SaysNoEnd, Outcome, InputsOnce}, Endings.{FileOf, HasPlan, outcome, on_file, Answers, EndsWith, StopsIn}}
use Rattle.command_work.specs.{Endings.{Cuts, Span, TakesData, HasCauses, AreItsFiles, ForItsFiles, InputsHold, ReadsAgree, Asks}, Behaviours.{Work, Writing}}
use Rattle.command_work.specs.{Behaviours.{OnFile, Behaviour, Alone, ByPlan}, Works.{AnswersWork, EndsWork, ReadsWork, CutsWork, WantsNone, WorkReason}}
use Rattle.command_work.specs.Works.{TakesFew}

-- at the end nothing stands after
pub Decides-at_end : {A : Type 0} (meaning : List ℕ → A) (taken : List ℕ) (given : Given) (answer : A)
    → IsAtEnd given → meaning taken ≡ answer → Decides meaning taken given answer
Decides-at_end meaning taken given answer end h = search (rules, arith, append-nil)

-- what bytes show they say, whatever stands after
pub Decides-shown : {A : Type 0} (meaning : List ℕ → A) (taken : List ℕ) (given : Given) (answer : A)
    → Shows meaning taken answer → Decides meaning taken given answer
Decides-shown meaning taken given answer shown = record { means = λ more follows. shown more }

-- a read that gives bytes does not say the end
pub reads-on : (start mid now : Given) (count : ℕ) (into : List ℕ) → SaysNoEnd start mid → GivesCount mid now count into → count ≢ 0 → SaysNoEnd start now
reads-on start mid now count into on gives some = record { said_before = λ ended. ⊎_elim on.said_before (λ says. absurd (some says.0)) (gives.1.0 ended) }

-- nor does one that fails
pub fails-on : (start mid now : Given) → SaysNoEnd start mid → now ≡ mid → SaysNoEnd start now
fails-on start mid now on same = record { said_before = λ ended. on.said_before (subst IsAtEnd same ended) }

-- no read said the end since the file was opened
pub none-ended : (start now : Given) → start ≡ no_bytes → SaysNoEnd start now → ¬ (IsAtEnd now)
none-ended start now none on = λ ended. let bad : false ≡ true = sym (ap (λ (g : Given). g.ended) none) ∙ on.said_before ended in cc

-- all bytes that were given were taken since the file was opened
pub all-taken : (start given : Given) (taken : List ℕ) → start ≡ no_bytes → Consumes start given taken → given.bytes ≡ taken
all-taken start given taken none took = took.adds ∙ ap (λ (g : Given). g.bytes ++ taken) none

-- a file that may be the slot's is the bytes taken with some after them
pub record Splits (given : Given) (taken : List ℕ) (file : File) : Type 0 where
  pub more : List ℕ
  pub follows : MayFollow given more
  pub parts : file ≡ Some (taken ++ more)

pub file-splits : (after : InputState) (slot : Slot) (file : File) (start : Given) (taken : List ℕ) → FileOf after slot file → after.opened slot ≡ true
    → start ≡ no_bytes → Consumes start (after.given slot) taken → Splits (after.given slot) taken file
file-splits after slot file start taken may opened none took = search (rules, arith, all-taken)

-- The bytes that were given may be the whole file: so some files always may be those of a run.
pub some-file : (after : InputState) (slot : Slot) → FileOf after slot (Some (after.given slot).bytes)
some-file after slot opened = ((after.given slot).bytes, refl, record { more = []; parts = sym (append-nil _); may_follow = λ end. refl })

-- What the work on a file leaves of the whole run.

-- a file that is told may be the slot's
pub read-agrees : (contents : Option File) (after : InputState) (slot : Slot) (file : File) → (after.opened slot ≡ true → IsOpened contents (after.told slot))
    → ((bytes : List ℕ) → after.told slot ≡ Some bytes → IsOf (after.given slot) bytes) → contents ≡ Some file → FileOf after slot file
read-agrees None after slot file is agrees known = cc
read-agrees (Some own) after slot None is agrees known = search (rules, arith)
read-agrees (Some own) after slot (Some bytes) is agrees known = search (rules, arith)

-- work that ended is that of each such file
pub ends-told : (work : Work) (after : InputState) (start : Given) (old new : SinkState) (fault : Option Fault) (data_file : File) → start ≡ no_bytes → after.opened Data ≡ true → EndsWork work start (after.given Data) old new fault → FileOf after Data data_file → EndsWith (on_file work data_file) fault old new
ends-told work after start old new fault data_file none opened ends may =
    let split = file-splits after Data data_file start ends.taken may opened none ends.consumes in
    subst (λ (end : Outcome). EndsWith end fault old new)
    (sym (ap (on_file work) split.parts ∙ ends.says.means split.more split.follows)) (record { same = refl; text = ends.written })

pub file-answers : (file : List ℕ) (writing : Writing (List ℕ → List ℕ)) (work : Work) (after : InputState) (start : Given) (old new : SinkState) (r : Result (Unit {0}) Fault) → start ≡ no_bytes → after.opened Data ≡ true → AnswersWork work start (after.given Data) old new r
    → Answers (OnFile file writing work) after r old new
unfolding outcome
file-answers file writing work after start old new r none opened (inl outside) = inl outside
file-answers file writing work after start old new r none opened (inr ends) =
    inr (λ plan_file data_file may. ends-told work after start old new (fault_in r) data_file none opened ends may)

-- work that stops where a read failed
pub stops-told : (writing : Writing (List ℕ → List ℕ)) (work : Work) (after : InputState) (start : Given) (old new : SinkState) → start ≡ no_bytes
    → ReadsWork writing work start (after.given Data) old new → StopsIn writing work after old new
stops-told writing work after start old new none h = search (rules, arith, all-taken)

-- a text that is cut is cut of each such file
pub cuts-told : {A : Type 0} (writing : Writing (List ℕ → List ℕ)) (whole : Writing A) (work : Work) (after : InputState) (start : Given) (old new : SinkState) (data_file : File) → ((end : Outcome) → Cuts writing end old new → Cuts whole end old new) → start ≡ no_bytes → after.opened Data ≡ true
    → CutsWork writing work start (after.given Data) old new → FileOf after Data data_file → Cuts whole (on_file work data_file) old new
cuts-told writing whole work after start old new data_file cuts none opened h may = search (rules, arith, file-splits)

-- why a command on a file alone ended by a fault from outside
pub file-causes : (file : List ℕ) (writing : Writing (List ℕ → List ℕ)) (work : Work) (before : InputState) (span : Span) (fault : Fault)
    → span.before.given Data ≡ no_bytes → span.after.opened Data ≡ true → InputsOnce before span.before None → WorkReason writing WantsNone work span fault
    → HasCauses (OnFile file writing work) (record span { before = before }) fault
unfolding HasCauses outcome
file-causes file writing work before span fault none opened once reason = search (rules, arith, none-ended, stops-told, cuts-told)

-- few bytes taken are few of all that were given
pub few-told : (work : Work) (after : InputState) (start : Given) → start ≡ no_bytes → TakesFew work.goes_on start (after.given Data) → TakesData work after
few-told work after start none h = search (rules, arith, all-taken)

-- What holds over all files that may be a run's holds over files that are told.

pub alone-answers : (end : Outcome) (after : InputState) (r : Result (Unit {0}) Fault) (old new : SinkState) → IsErrAnd r (λ fault. is_outside fault ≡ true) ⊎ EndsWith end (fault_in r) old new → Answers (Alone end) after r old new
unfolding outcome
alone-answers end after r old new h1 = search (rules, arith)

-- what a fact about the outcome implies holds over the same files
pub files-map : (does : Behaviour) (after : InputState) (p q : Outcome → Type 0)
    → ((end : Outcome) → p end → q end) → ForItsFiles does after p → ForItsFiles does after q
files-map does after p q f all = λ plan_file data_file may. f (outcome does plan_file data_file) (all plan_file data_file may)

-- files that are told for both words are among those that may be the run's
pub reads-agree : (does : Behaviour) (before after : InputState) (plan_file data_file : File) → Asks does (HasPlan after) before after
    → ReadsAgree does before after → InputsHold before does plan_file data_file → AreItsFiles does after plan_file data_file
reads-agree (Alone end) before after plan_file data_file asks its tells = tt
reads-agree (OnFile file writing work) before after plan_file data_file asks its tells = its data_file tells.1
reads-agree (ByPlan plan file writing memory lacks work) before after plan_file data_file asks its tells = search (rules, arith)
