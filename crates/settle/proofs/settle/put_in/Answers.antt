use Rattle.{std.{proofs.Common.{List, subst, sym, arith, rules}, specs.List.Sorted.IsNonDecreasingBy}, tally_base.specs.declared.event.Event.Event}
use Rattle.ptu_definitions.proofs.SettledLemmas.{insert-put_in, put_in-rising}
use Rattle.settle.proofs.settle.put_in.Goals as goal

pub returns-clause-value : goal.returns-clause-value
returns-clause-value c = search (rules, arith, insert-put_in)

pub returns-clause-rising : goal.returns-clause-rising
returns-clause-rising c = let P : List Event → Type 0 = λ l. IsNonDecreasingBy (λ (x : Event). x.time) l in
    subst P (sym (returns-clause-value c)) (put_in-rising c.args.event c.args.waiting.now.items c.requires.rising)
