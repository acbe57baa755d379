-- What each command does, told once.
use Rattle.std.specs.{Prelude.{List, None, Some, map, string_bytes}, declared.{string.String.String, alloc.Global.Global, option.Option.Option}}
use Rattle.{tally_base.specs.declared.fault.Fault.TheVariants.Usage, list_out.specs.HeaderText.header_text, command_work.specs.{Outcomes.{refused, written}, Behaviours.{AtEnd, AsItReads, ForPlan}}}
use Rattle.{command_work.specs.Behaviours.{ForTables, Behaviour, Alone, OnFile, ByPlan}, file_work.specs.FileOutcomes.{counting, printing, events_so_far, listing_all}}
use Rattle.{report_work.specs.{Reports.{any_plan, reporting}, Demo.demo_report}, trace_work.specs.TraceOutcomes.{no_trace, trace_so_far, tracing}, pick_work.specs.PickOutcomes.{no_group, pick_so_far}}
use Rattle.{pick_work.specs.PickOutcomes.picking, ptu_cli.specs.Commands.{Request, request_of, Count, Events, Run, Trace, Pick, Demo, Header as HeaderOf}}

abbrev pub behaviour : Option Request → Behaviour
behaviour None = Alone (refused Usage)
behaviour (Some (Count file)) = OnFile file AtEnd counting
behaviour (Some (HeaderOf file)) = OnFile file (AsItReads header_text) printing
behaviour (Some (Events file)) = OnFile file (AsItReads events_so_far) listing_all
behaviour (Some (Run plan file)) = ByPlan plan file AtEnd ForTables any_plan reporting
behaviour (Some (Trace plan file)) = ByPlan plan file (AsItReads trace_so_far) ForPlan no_trace tracing
behaviour (Some (Pick plan group file)) = ByPlan plan file (AsItReads (pick_so_far group)) ForPlan (no_group group) (picking group)
behaviour (Some (Demo seed count)) = Alone (written (demo_report seed count))

-- what the words ask for
abbrev pub request_in : List (String Global) → Option Request
request_in words = request_of (map (λ word. string_bytes word) words)

-- how the command of the words behaves
abbrev pub behaviour_of : List (String Global) → Behaviour
behaviour_of words = behaviour (request_in words)
