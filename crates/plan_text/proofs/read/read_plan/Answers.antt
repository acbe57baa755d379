use Rattle.{std.proofs.Common.{sym, arith, rules}, plan_text.proofs.Called.{plan_answer_long, answer_none, answer_some}}
use Rattle.plan_text.proofs.read.read_plan.Goals as goal

pub returns-then-bytes-gt-TEXT_LIMIT-clause-answer : goal.returns-then-bytes-gt-TEXT_LIMIT-clause-answer
returns-then-bytes-gt-TEXT_LIMIT-clause-answer c _ = sym (plan_answer_long c.args.bytes.now c.if-bytes-gt-TEXT_LIMIT.true)

pub returns-in-Ok-clause-answer : goal.returns-in-Ok-clause-answer
returns-in-Ok-clause-answer c _ = search (rules, arith, answer_some)

pub returns-in-Err-clause-answer : goal.returns-in-Err-clause-answer
returns-in-Err-clause-answer c other = search (rules, arith, answer_none)

pub returns-in-Err-clause-inside : goal.returns-in-Err-clause-inside
returns-in-Err-clause-inside c other = search (rules, arith)
