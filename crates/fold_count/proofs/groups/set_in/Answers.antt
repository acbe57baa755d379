use Rattle.{std.proofs.{Common.{rules, ◌≡◌, ◌∙◌, ◌+◌, ◌^◌, ◌*◌, cond, get_or, ap, arith}, lemmas.Grind.pow_more}, tally_base.specs.Events.is_in}
use Rattle.fold_count.proofs.Numbers.{number_more, bit_few}
use Rattle.fold_count.proofs.groups.set_in.Goals as goal

pub loop-group-preserved : goal.loop-group-preserved
loop-group-preserved c =
    let inv = c.loop-group.invariant in
    let own = c.args.own.now in
    let k = c.loop-group.group-index in
    let one = number_more (λ group. is_in c.args.groups group) own k 0 c.loop-group-test.true in
    let is : c.bit_of-set.result ≡ cond (is_in c.args.groups (get_or own k 0)) (2 ^ k) 0 =
    c.bit_of-set.ensures ∙ ap (λ bit. cond (is_in c.args.groups (get_or own k 0)) bit 0) inv.bit in
    let twice : 2 ^ (k + 1) ≡ 2 ^ k * 2 = pow_more 2 k in
    search (rules, arith, bit_few)
