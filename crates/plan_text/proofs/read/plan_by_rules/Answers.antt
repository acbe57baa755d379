use Rattle.{toml.specs.View.view, toml_rules.proofs.Least.{names_least, all_kept_nowhere, all_kept_inside}, plan_text.specs.Plan.plan_rules}
use Rattle.plan_text.proofs.{ByKind.plan_rules_rise, Whole.plan_is_whole}
use Rattle.plan_text.proofs.read.plan_by_rules.Goals as goal

pub returns-in-Err-clause-refused : goal.returns-in-Err-clause-refused
returns-in-Err-clause-refused c = names_least 0 _ _ (plan_rules_rise (view c.args.document.now)) c.in-Err.ensures.refused

pub returns-in-Ok-clause-valid : goal.returns-in-Ok-clause-valid
returns-in-Ok-clause-valid c = all_kept_nowhere _ c.in-Ok.ensures.kept

pub returns-in-Ok-clause-whole : goal.returns-in-Ok-clause-whole
returns-in-Ok-clause-whole c = plan_is_whole (view c.args.document.now) (all_kept_nowhere _ c.in-Ok.ensures.kept)

pub returns-in-Err-clause-inside : goal.returns-in-Err-clause-inside
returns-in-Err-clause-inside c = all_kept_inside (plan_rules (view c.args.document.now)) _ c.in-Err.ensures.refused
