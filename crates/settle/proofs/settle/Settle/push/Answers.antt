use Rattle.{std.proofs.Common.{arith, rules}, settle.proofs.Steps.{settled-late, settled-wait, settled-emit, answers-late, answers-in_time, tells-late}}
use Rattle.settle.proofs.Steps.{tells-none, tells-one, least_one, low-put_in, low-rest}
use Rattle.settle.proofs.settle.Settle.push.Goals as goal

pub returns-then-event-self-clause-pushed : goal.returns-then-event-self-clause-pushed
returns-then-event-self-clause-pushed c = search (rules, arith, settled-late, answers-late, tells-late)

pub returns-then-len-self-clause-pushed : goal.returns-then-len-self-clause-pushed
returns-then-len-self-clause-pushed c = λ pushed given settled.
    let e = c.args.event in
    let in_time = c.if-event-self.false in
    record {
      settled = settled-wait _ _ _ _ _ _ pushed given e settled c.requires.unpopped in_time c.requires.behind (omega arith) c.put_in.ensures.value;
      overtaken = answers-in_time _ _ _ _ _ pushed given e settled c.requires.unpopped (omega (arith, c.args.self.now.few)) in_time;
      tells = tells-none _ _ _ _ _ pushed given e settled c.requires.unpopped in_time (omega arith);
      least = tt;
    }

pub returns-clause-pushed : goal.returns-clause-pushed
returns-clause-pushed c = λ pushed given settled.
    let e = c.args.event in
    let in_time = c.if-event-self.false in
    let least = c.exchange-least.ensures in
    record {
      settled =
          settled-emit _ _ _ _ _ _ pushed given e _ settled c.requires.unpopped in_time c.requires.behind (omega (arith, c.args.self.now.few)) least.value;
      overtaken = search (rules, arith, answers-in_time);
      tells = tells-one _ _ _ _ _ _ pushed given e _ settled c.requires.unpopped in_time (omega (arith, c.args.self.now.few)) least.as_many least.value;
      least = least_one _ _ _ _ _ _ pushed given e _ settled c.requires.behind least.value;
    }

pub invariant_of-self-then-len-self-clause-low : goal.invariant_of-self-then-len-self-clause-low
invariant_of-self-then-len-self-clause-low c =
    low-put_in c.args.self.now.last c.args.event c.args.self.now.waiting.items _ c.if-event-self.false c.put_in.ensures.value c.args.self.now.low

pub invariant_of-self-2-clause-low : goal.invariant_of-self-2-clause-low
invariant_of-self-2-clause-low c = low-rest c.args.event c.args.self.now.waiting.items _ _ c.args.self.now.rising c.exchange-least.ensures.value
