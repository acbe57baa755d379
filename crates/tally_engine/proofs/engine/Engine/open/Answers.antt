use Rattle.{std.proofs.Common.{[], ◌≡◌, Ok, ◌≤◌, length, rules, arith}, tally_base.specs.RecordTypes.mode_of, plan_text.specs.{Fits.fits, ReadPlan.plan_view}}
use Rattle.{record_stream.specs.Standing.carried_by, tally_engine.proofs.{Feeds.{kept_within, none_taken}, OneByOne.standing_first, Suits.suits_T2}}
use Rattle.gate_plan.proofs.Histories.{history-none}
use Rattle.tally_engine.proofs.engine.Engine.open.Goals as goal

pub invariant_of-result-clause-standing : goal.invariant_of-result-clause-standing
invariant_of-result-clause-standing c =
    let fit : fits (mode_of c.args.header.now.record_type) (plan_view c.args.plan.now) ≡ Ok (tt {0}) = search rules in
    λ none. λ k d within. standing_first _ _ _ _ _
    (suits_T2 _ (plan_view c.args.plan.now) c.in-Ok.parts.items fit c.in-Ok.ensures.settings k d within) (c.in-Ok.ensures.opened k d within)

pub invariant_of-result-clause-streams : goal.invariant_of-result-clause-streams
invariant_of-result-clause-streams c = ∣ ([], c.new.ensures.empty) ∣₁

pub returns-in-Ok-clause-empty : goal.returns-in-Ok-clause-empty
returns-in-Ok-clause-empty c = (c.new.ensures.empty, λ none. λ k d within. rw (history-none _ _) ((c.in-Ok.ensures.opened k d within).empty))

pub returns-in-Ok-clause-none : goal.returns-in-Ok-clause-none
returns-in-Ok-clause-none c = none_taken _ _ _ _ _ _ _ c.new.ensures.empty c.new.ensures.unrefused

pub returns-in-Ok-clause-within : goal.returns-in-Ok-clause-within
returns-in-Ok-clause-within c = let few : length (carried_by c.new.result) ≤ 48 =
    search (rules, arith) in kept_within c.in-Ok.parts.items _ _ _ few (search (rules, arith))
