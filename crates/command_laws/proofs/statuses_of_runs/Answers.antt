use Rattle.std.proofs.{Common.{◌≡◌, ℕ, Some, sym, subst, inl, inr, ◌<◌, ◌≤◌, arith, ◌⊎◌, rules}, lemmas.Bool.{cases_lt, cases_eq}}
use Rattle.{std.specs.declared.option.Option.Option, tally_base.specs.declared.slot.Slot.{Slot, TheVariants.{Plan, Data}}, bench_io.specs.Inputs.File}
use Rattle.ptu_cli.{specs.{Commands.Request, Runs.{Around, Runs}, Behaviours.behaviour, Tables.HasStatus, CommandCases.cases}, proofs.Complete.some-files}
use Rattle.{ptu_cli.proofs.Told.some-status, command_work.specs.{Endings.{outcome, HasPlan, Reaches, CutsShort, RunsOut}, Outcomes.{status, IsIn}}}
use Rattle.{command_work.specs.Behaviours.Behaviour, command_laws.specs.Ends.{FailsWith, MayEndWith}}
use Rattle.command_laws.proofs.statuses_of_runs.Goals as goal

-- the statuses that the runs of each command end with, by its shape
abbrev OfFiles : Option Request → ℕ → Type 0
OfFiles request result = (plan_file : File) × (data_file : File) × (result ≡ status (outcome (behaviour request) plan_file data_file).fault)

-- a run ends by a fault from outside, or as some files call for
ends-in : (request : Option Request) (run : Around) (result : ℕ) → Runs request run result → IsIn 2 5 result ⊎ OfFiles request result
ends-in request run result h = elim (cases_lt result 2) [
  | inl low ↦ by (λ two. absurd (omega (arith, low, two)))
  | inr two ↦ elim (cases_lt 5 result) [
    | inl high ↦ by (λ enough. high)
    | inr five ↦ inl (two, five)
  ]
]
  where
    by : (2 ≤ result → 5 < result) → IsIn 2 5 result ⊎ OfFiles request result
    by further =
        inr (Some (run.after.given Plan).bytes, Some (run.after.given Data).bytes, (h.answered further _ _ (some-files (behaviour request) run.after)).0)

-- what a run says of its faults from outside, by the shape of its command
record Outside (does : Behaviour) (run : Around) (result : ℕ) : Type 0 where
  unopened : result ≡ 2 → (slot : Slot) × Reaches does (HasPlan run.after) slot
  unread : result ≡ 3 → (slot : Slot) × Reaches does (HasPlan run.after) slot
  unwritten : result ≡ 4 → CutsShort does (outcome does (Some (run.after.given Plan).bytes) (Some (run.after.given Data).bytes)) run.out_before run.out_after
  memory : result ≡ 5 → RunsOut does (HasPlan run.after) run.after run.out_before run.out_after

outside-in : (does : Behaviour) (run : Around) (result : ℕ) → Outside does run result → IsIn 2 5 result → FailsWith does result
unfolding outcome
outside-in does run result told few = search (rules, arith, cases_eq)

run-ends : (request : Option Request) (run : Around) (result : ℕ) → Runs request run result → MayEndWith request result
run-ends request run result h = elim (ends-in request run result h) [
  | inl few ↦ inl (outside-in (behaviour request) run result (record {
    unopened = λ two. let failed = h.unopened two in (failed.0, failed.1.0);
    unread = λ three. let failed = h.unread three in (failed.0, failed.1.0);
    unwritten = λ four. (h.unwritten four).1 _ _ (some-files (behaviour request) run.after);
    memory = λ five. (h.memory five).0;
  }) few)
  | inr it ↦ inr (subst (HasStatus (cases request)) (sym it.2) (some-status request it.0 it.1))
]

pub returns : goal.returns
returns c = run-ends
