use Rattle.{std.{proofs.Common.{ℕ, inl, inr, arith, rules}, specs.declared.option.Option.Option}, tally_base.specs.declared.slot.Slot.{Slot, TheVariants.Plan}}
use Rattle.{tally_base.specs.declared.fault.Fault.Fault, bench_io.specs.{Inputs.{File, InputState}, Sinks.SinkState}, plan_text.specs.Plan.PlanView}
use Rattle.{ptu_cli.specs.{Commands.Request, Runs.{Around, Runs}, Behaviours.behaviour}, command_work.specs.Behaviours.{Behaviour, Alone, OnFile, ByPlan}}
use Rattle.command_work.{specs.Endings.{FileOf, AreItsFiles, HasPlan, Reaches, LeavesUnread, RunsOut, Asks}, proofs.Told.reads-agree}
use Rattle.command_laws.specs.ToldFiles.{IsGoodPlan, OverToldFiles}
use Rattle.command_laws.proofs.over_told_files.Goals as goal

-- what a run leaves over all files that may be its, it leaves over those that are told

good-plan : (after : InputState) (lacks : PlanView → Option Fault) (view : PlanView) (plan_file : File)
    → FileOf after Plan plan_file → HasPlan after lacks view → IsGoodPlan plan_file lacks view
good-plan after lacks view plan_file may has = (has.is_plan plan_file may, has.whole)

reaches : (does : Behaviour) (after : InputState) (plan_file data_file : File) (slot : Slot)
    → AreItsFiles does after plan_file data_file → Reaches does (HasPlan after) slot → Reaches does (IsGoodPlan plan_file) slot
reaches does after plan_file data_file slot may h = search (rules, arith, good-plan)

leaves : (does : Behaviour) (after : InputState) (plan_file data_file : File) (slot : Slot) (old new : SinkState)
    → AreItsFiles does after plan_file data_file → LeavesUnread does (HasPlan after) slot after old new → LeavesUnread does (IsGoodPlan plan_file) slot after old new
leaves does after plan_file data_file slot old new may h = search (rules, arith, good-plan)

runs-out : (does : Behaviour) (after : InputState) (plan_file data_file : File) (old new : SinkState)
    → AreItsFiles does after plan_file data_file → RunsOut does (HasPlan after) after old new → RunsOut does (IsGoodPlan plan_file) after old new
runs-out (Alone end) after plan_file data_file old new may h = h
runs-out (OnFile file writing work) after plan_file data_file old new may h = h
runs-out (ByPlan plan file writing memory lacks work) after plan_file data_file old new may h = (
  h.0,
  elim h.1 [
    | inl soon ↦ inl soon
    | inr w ↦ inr (record { plan = w.plan; has = good-plan after lacks w.plan plan_file may.0 w.has; opened = w.opened; wants = w.wants })
  ],
)

asks : (does : Behaviour) (before after : InputState) (plan_file data_file : File)
    → AreItsFiles does after plan_file data_file → Asks does (HasPlan after) before after → Asks does (IsGoodPlan plan_file) before after
asks does before after plan_file data_file may h = search (rules, arith, good-plan)

over-told : (request : Option Request) (run : Around) (result : ℕ) → Runs request run result → OverToldFiles request run result
over-told request run result h plan_file data_file tells =
    let does = behaviour request in
    let may = reads-agree does run.before run.after plan_file data_file h.asks h.files tells in
    record {
      files = may;
      answered = λ further. h.answered further plan_file data_file may;
      unopened = λ two. let f = h.unopened two in (f.0, reaches does run.after plan_file data_file f.0 may f.1.0, f.1.1, f.1.2, f.2);
      unread = λ three. let f = h.unread three in (f.0, reaches does run.after plan_file data_file f.0 may f.1.0, f.1.1, f.1.2, f.1.3, leaves does run.after plan_file data_file f.0 _ _ may f.1.4, f.2);
      unwritten = λ four. let f = h.unwritten four in (f.0, f.1 plan_file data_file may, f.2);
      memory = λ five. let f = h.memory five in (runs-out does run.after plan_file data_file _ _ may f.0, f.1);
      asks = asks does run.before run.after plan_file data_file may h.asks;
      complete = λ quiet. elim (h.complete quiet) [ inl lacks ↦ inl lacks | inr ends ↦ inr (ends plan_file data_file may) ];
      good = λ good quiet. h.good plan_file data_file may good quiet;
    }

pub returns : goal.returns
returns c = over-told
