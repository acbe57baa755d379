use Rattle.{std.proofs.Common.{arith, rules}, ptu_definitions.proofs.SeenLaws.{seen-answered, seen-refused}}
use Rattle.ptu_definitions.proofs.laws.seen_answered.Goals as goal

pub returns-clause-answered : goal.returns-clause-answered
returns-clause-answered c = search (rules, arith, seen-answered)

pub returns-clause-refused : goal.returns-clause-refused
returns-clause-refused c = λ bytes more fault fits refused.
    let shown = seen-refused bytes more fault fits refused in
    record { preamble = shown.0; items = shown.1 }
