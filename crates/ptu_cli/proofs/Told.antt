-- Each command ends by a line of its table.
use Rattle.std.{proofs.Common.{None, Some, ◌≡◌, arith, rules, refl, ap}, specs.declared.option.Option.Option}
use Rattle.{tally_base.specs.declared.fault.Fault.TheVariants.{Usage, NoTrace, NoGroup}, bench_io.specs.Inputs.File, gate_plan.specs.Histories.reading_by}
use Rattle.{gate_plan.specs.Shifting.sorting, command_work.specs.{Endings.outcome, Outcomes.{refused, written, status}, Behaviours.{AtEnd, AsItReads, ForPlan}}}
use Rattle.{command_work.specs.Behaviours.ForTables, file_work.specs.FileOutcomes.{counts, lists_by, counting, printing, listing_all}}
use Rattle.{report_work.specs.Reports.{any_plan, reporting, reports}, trace_work.specs.TraceOutcomes.{trace_of, no_trace, traces_with, trace_so_far, tracing}}
use Rattle.{pick_work.specs.PickOutcomes.{no_group, picks_of, pick_so_far, picking}, ptu_cli.specs.{Behaviours.behaviour, Commands.{Request, Count, Events}}}
use Rattle.ptu_cli.specs.{Commands.{Run, Trace, Pick, Demo, Header as HeaderOf}, Tables.{Well, AtWords, HasStatus}, Cases.{HasTrace, HasGroup}}
use Rattle.ptu_cli.{specs.CommandCases.{NeedsNothing, Needs, cases}, proofs.{Tables.{Meets, has-status}, Shapes.{alone-meets, file-meets, header-meets}}}
use Rattle.ptu_cli.proofs.{Shapes.planned-meets, Prints.print-meets, PickCases.{group-decides, pick-meets}, Cases.{count-meets, events-meets, run-meets}}
use Rattle.ptu_cli.proofs.Cases.{trace-decides, trace-meets, demo-same}

-- A line of its table ends each command so, and none in another way.
pub told : (request : Option Request) → Meets (λ (plan_file : File). Unit {0}) (cases request) (λ plan_file data_file. outcome (behaviour request) plan_file data_file)
unfolding outcome
told None = alone-meets AtWords 1 _ (refused Usage) refl (λ n s. s) (omega arith, omega arith)
told (Some (Count file)) = file-meets _ _ (λ plan_file. counting) (header-meets _ _ (λ plan_file. counts) count-meets)
told (Some (HeaderOf file)) = file-meets _ _ (λ plan_file. printing) print-meets
told (Some (Events file)) = file-meets _ _ (λ plan_file. listing_all) (header-meets _ _ (λ plan_file. lists_by) events-meets)
told (Some (Run plan file)) = planned-meets NeedsNothing _ reports (λ view. (reporting view).good) any_plan plan file AtEnd ForTables (λ view. refl) run-meets
told (Some (Trace plan file)) = planned-meets (Needs 22 HasTrace NoTrace) _ (λ view header. traces_with (trace_of view) (sorting view) (reading_by view header)) (λ view. (tracing view).good) no_trace plan file (AsItReads trace_so_far) ForPlan
    (trace-decides, (omega arith, omega arith), refl) trace-meets
told (Some (Pick plan group file)) = planned-meets (Needs 23 (HasGroup group) (NoGroup group)) _ (picks_of group) (λ view. (picking group view).good) (no_group group) plan file (AsItReads (pick_so_far group)) ForPlan
    (group-decides group, (omega arith, omega arith), refl) (pick-meets group)
told (Some (Demo seed count)) = alone-meets Well 0 _ _ (ap written (demo-same seed count)) (λ n s. s) (omega arith, omega arith)

pub some-status : (request : Option Request) (plan_file data_file : File) → HasStatus (cases request) (status (outcome (behaviour request) plan_file data_file).fault)
some-status request plan_file data_file = has-status (cases request) (told request).sound plan_file data_file _ ((told request).holds plan_file data_file tt)

-- only words that are no command may end as a bad command line
pub usage : (request : Option Request) → HasStatus (cases request) 1 → request ≡ None
usage request h = search (rules, arith)
