use Rattle.{std.proofs.Common.{append-nil, arith, rules}, list_out.proofs.Bodies.{body_text-digits, body_text-passed, body_text-ended}}
use Rattle.list_out.proofs.body.BodyText.put.Goals as goal

pub returns-in-Digits-clause-text : goal.returns-in-Digits-clause-text
returns-in-Digits-clause-text c = search (rules, arith, body_text-digits, append-nil)

pub returns-then-byte-eq0-clause-text : goal.returns-then-byte-eq0-clause-text
returns-then-byte-eq0-clause-text c = search (rules, arith, body_text-passed)

pub returns-else-byte-eq0-clause-text : goal.returns-else-byte-eq0-clause-text
returns-else-byte-eq0-clause-text c = search (rules, arith, body_text-passed, append-nil)

pub returns-in-Nothing-clause-text : goal.returns-in-Nothing-clause-text
returns-in-Nothing-clause-text c = search (rules, arith, body_text-ended, append-nil)
