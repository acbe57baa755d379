use Rattle.{std.proofs.Common.sym, ptu_definitions.proofs.SettlingLemmas.{settled-is, waits-is}}
use Rattle.settle.proofs.laws.kept_and_settled.Goals as goal

pub returns-clause-kept : goal.returns-clause-kept
returns-clause-kept c = λ s pushed given h. h.joined

pub returns-clause-in_order : goal.returns-clause-in_order
returns-clause-in_order c = λ s pushed given h. h.in_order

pub returns-clause-settled : goal.returns-clause-settled
returns-clause-settled c = λ s pushed given h still. sym (settled-is s.reach pushed given s.waiting.items s.last (h.unpopped still) s.few h.joined)

pub returns-clause-rest : goal.returns-clause-rest
returns-clause-rest c = λ s pushed given h still. sym (waits-is s.reach pushed given s.waiting.items s.last (h.unpopped still) s.few h.joined)
