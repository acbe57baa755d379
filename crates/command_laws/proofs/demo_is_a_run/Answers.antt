use Rattle.{std.proofs.Common.{◌≡◌, ◌≤◌, ℕ, List, None, Some, arith, rules}, ptu_made.specs.{Generator.photon_limit, Records.made_file}}
use Rattle.{ptu_cli.specs.{Commands.{Run, Demo}, Behaviours.behaviour}, report_work.{specs.Demo.demo_text, proofs.Reports.{demo-plan, made-report}}}
use Rattle.command_work.specs.Endings.{outcome}
use Rattle.command_laws.proofs.demo_is_a_run.Goals as goal

-- `demo` as a run of its files

-- `demo` ends as a run of these files
demo-run : (plan_name name : List ℕ) (seed count : ℕ) → count ≤ photon_limit
    → outcome (behaviour (Some (Run plan_name name))) (Some demo_text) (Some (made_file seed count)) ≡ outcome (behaviour (Some (Demo seed count))) None None
unfolding outcome
demo-run plan_name name seed count few = search (rules, arith, demo-plan, made-report)

pub returns : goal.returns
returns c = demo-run
