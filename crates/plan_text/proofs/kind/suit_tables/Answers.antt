use Rattle.{std.proofs.Common.{◌∙◌, ◌<◌, sym, length, rules, arith}, plan_text.proofs.Misfits.{all_fit, none_fits}}
use Rattle.plan_text.proofs.kind.suit_tables.Goals as goal

pub returns-in-Some : goal.returns-in-Some
returns-in-Some g c =
    let some : 0 < length c.args.sets.now = search (rules, arith) in
    sym (none_fits g.K.PlanKind.settings c.args.mode c.in-Some.kind (λ set. c.misfit.ensures set ∙ c.in-Some.is) c.args.sets.now some)

pub returns-in_default-2 : goal.returns-in_default-2
returns-in_default-2 g c = sym (all_fit g.K.PlanKind.settings c.args.mode (λ set. c.misfit.ensures set ∙ c.in_default.is) c.args.sets.now)
