-- The first trace of a plan is the first of its traces.
use Rattle.std.proofs.Common.{◌≡◌, ◌∙◌, ◌+◌, ◌≤◌, ◌++◌, ℕ, List, [], ◌∷◌, None, map, refl, sym, arith, flat_map, option_map, slice_get, rules}
use Rattle.tally_base.specs.{declared.settings.TraceSet.TraceSet, Settings.{PartSettings, trace_view, PartSettings.TraceSettings}}
use Rattle.plan_text.{specs.{declared.plan.Plan.Plan, ReadPlan.plan_view}, proofs.ByKind.{kind_at, AreAt, AreByKinds, by_kinds}}
use Rattle.trace_work.specs.TraceOutcomes.{first_trace, trace_of}

-- a table of another kind is passed over
skips : (part : PartSettings) (rest : List PartSettings) → (kind_at part ≡ 1 → ⊥) → first_trace (part ∷ rest) ≡ first_trace rest
skips part rest other = search (rules, arith)

-- and so are all tables of another kind
skips-all : (n : ℕ) → (n ≡ 1 → ⊥) → (parts rest : List PartSettings) → AreAt n parts → first_trace (parts ++ rest) ≡ first_trace rest
skips-all n other [] rest are = refl
skips-all n other (part ∷ parts) rest are = skips part (parts ++ rest) (λ is. other (sym are.0 ∙ is)) ∙ skips-all n other parts rest are.1

-- no kind after that of traces has one
none-behind : (n : ℕ) (lists : List (List PartSettings)) → 2 ≤ n → AreByKinds n lists → first_trace (flat_map (λ list. list) lists) ≡ None
none-behind n [] behind are = refl
none-behind n (list ∷ lists) behind are = search (rules, arith, skips-all, none-behind (n + 1) lists (omega (arith, behind)) are.1)

takes : (sets : List TraceSet) (rest : List PartSettings) → first_trace rest ≡ None
    → first_trace (map (λ set. TraceSettings (trace_view set)) sets ++ rest) ≡ option_map trace_view (slice_get sets 0)
takes [] rest none = none
takes (set ∷ sets) rest none = refl

pub first_is : (plan : Plan) → trace_of (plan_view plan) ≡ option_map trace_view (slice_get plan.traces.items 0)
first_is plan = search (rules, arith, by_kinds, skips-all, takes, none-behind)
