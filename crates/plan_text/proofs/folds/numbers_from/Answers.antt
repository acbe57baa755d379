use Rattle.{std.proofs.Common.{◌≤◌, [], ◌∷◌, arith, length-append}, plan_text.proofs.Numbers.{numbers_further, are_groups, numbers_kept}}
use Rattle.plan_text.proofs.folds.numbers_from.Goals as goal

pub returns-clause-rise : goal.returns-clause-rise
returns-clause-rise c = are_groups c.items.low 0 c.items.numbers.items c.items.invariant.rise

pub items-preserved : goal.items-preserved
items-preserved c =
    let range = c.in_ok-number.ensures.range in
    let inv = c.items.invariant in
    let number = c.in_ok-number.number in
    let most : number ≤ 64 = omega (arith, range.1, c.requires.most) in
    record {
      room = omega (arith, c.push.ensures.len, inv.room);
      count = rw c.push.ensures.items (omega (arith, inv.count, length-append c.items.numbers.items (number ∷ [])));
      rise = rw c.push.ensures.items (numbers_further c.items.low 0 c.items.numbers.items number inv.rise range.0 most);
      rest = rw c.push.ensures.items (numbers_kept c.items.numbers.items c.args.most c.items.low c.items.item-index
          number _ c.item-item.result _ c.items-test.true c.item-item.is c.in_ok-number.ensures.number inv.rest);
    }
