-- What the laws show of each command, told once.
use Rattle.std.{proofs.Common.{None, Some, ◌≡◌, ◌↔◌, arith, rules, ℕ, List, ◌≤◌, length, refl, sym, subst}, specs.declared.option.Option.Option}
use Rattle.{bench_io.specs.Inputs.File, command_work.{specs.{Endings.outcome, Outcomes.{Outcome, status}}, proofs.RestEnds.declined-stays}}
use Rattle.ptu_cli.specs.{Behaviours.behaviour, Commands.{Request, Count, Events, Run, Trace, Pick, Demo, Header as HeaderOf}, Tables.{Phase, HasStatus}}
use Rattle.ptu_cli.{specs.CommandCases.{cases, IsOutcome}, proofs.{Tables.exactly, Told.{told, some-status, usage}}}
use Rattle.tally_base.specs.{declared.{event.Event.Event, header.Mode.{Mode, TheVariants.{T2, T3}}, fault.Fault.{Fault, TheVariants.Usage}}, Faults.status_of}
use Rattle.{ptu_definitions.specs.{Streams.streamed, Words.record_limit}, gate_plan.specs.{Histories.reading_by, Shifting.sorting}}
use Rattle.{file_work.specs.{FileOutcomes.{counts, listing, lists_by}, CountLaws.counts-law, EventLaws.lists-law}, report_work.specs.Reports.reports_by}
use Rattle.{report_work.specs.RunLaws.reports-law, trace_work.specs.{TraceOutcomes.{trace_of, traces_by}, TraceTexts.refused-ends}}
use Rattle.{pick_work.specs.{PickOutcomes.{chosen_by, picks_by}, PickLaws.picks-law}, command_laws.specs.Ends.{EndsStay, EndsWhere, EndsWithFault, Lists}}
use Rattle.{command_laws.proofs.Shown.{headed-shows, print-shows}, minimal_file.{specs.ShortFiles.minimal_file, proofs.ShortHeaders.short-answer}}
use Rattle.{minimal_file.proofs.ShortHeaders.{words_of-bytes_in, rest_of-bytes_in}, record_write.specs.Picked.{CanBePicked, picked_words, picked_file}}
use Rattle.record_write.proofs.ReadBack.{small-words, unrefused, given-events}

-- An end that its bytes show stays.
pub ends-stay : (request : Option Request) → EndsStay (behaviour request)
ends-stay None = tt
ends-stay (Some (Count file)) = headed-shows counts (λ header. (counts-law header).refused)
ends-stay (Some (HeaderOf file)) = print-shows
ends-stay (Some (Events file)) = headed-shows lists_by (λ header. (lists-law (listing header)).refused)
ends-stay (Some (Run plan file)) = λ view. headed-shows (reports_by view) (λ header. declined-stays _ _ (reports-law view header).refused)
ends-stay (Some (Trace plan file)) = λ view. headed-shows (traces_by (trace_of view) view)
    (λ header. declined-stays _ _ (refused-ends (sorting view) (reading_by view header) (trace_of view)))
ends-stay (Some (Pick plan group file)) = λ view. headed-shows (picks_by group view)
    (λ header. declined-stays _ _ (picks-law (chosen_by view group) (reading_by view header)).refused)
ends-stay (Some (Demo seed count)) = tt

pub one-outcome : (request : Option Request) (plan_file data_file : File) (end : Outcome)
    → IsOutcome request plan_file data_file end ↔ (outcome (behaviour request) plan_file data_file ≡ end)
one-outcome request plan_file data_file end = search (rules, arith, told)

pub exactly-where : (phase : Phase) → EndsWhere phase
exactly-where phase request plan_file data_file fault = exactly _ (cases request) _ (told request) phase plan_file data_file fault tt

pub called-status : (request : Option Request) (plan_file data_file : File) (fault : Fault) → EndsWithFault request plan_file data_file fault → HasStatus (cases request) (status_of fault)
called-status request plan_file data_file fault ends =
    subst (λ (o : Option Fault). HasStatus (cases request) (status o)) ends (some-status request plan_file data_file)

-- A bad command line is told exactly where the words are no command.

no-words : (plan_file data_file : File) → EndsWithFault None plan_file data_file Usage
unfolding outcome
no-words plan_file data_file = refl

pub exactly-words : (request : Option Request) (plan_file data_file : File) → EndsWithFault request plan_file data_file Usage ↔ (request ≡ None)
exactly-words request plan_file data_file = (
  λ ends. usage request (called-status request plan_file data_file Usage ends),
  λ none. subst (λ (r : Option Request). EndsWithFault r plan_file data_file Usage) (sym none) (no-words plan_file data_file),
)

-- The file of photons that can be written, as `events` lists it.

pub listed-picked : (name : List ℕ) (mode : Mode) (photons : List Event) → CanBePicked mode photons → length (picked_words mode photons) ≤ record_limit
    → Lists name (picked_file mode photons) mode photons
unfolding outcome streamed minimal_file
listed-picked name T2 photons can few = search (rules, arith, short-answer, words_of-bytes_in, small-words, given-events, unrefused, rest_of-bytes_in)
listed-picked name T3 photons can few = search (rules, arith, short-answer, words_of-bytes_in, small-words, given-events, unrefused, rest_of-bytes_in)
