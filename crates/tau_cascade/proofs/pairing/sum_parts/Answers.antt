use Rattle.{std.proofs.{Common.{◌+◌, ◌-◌, ◌*◌, ◌<◌, ◌≤◌, length, arith, rules}, Math.Nat.mul-le-mul, lemmas.List.length-map}, tau_cascade.proofs.Close.no_bin}
use Rattle.tau_cascade.proofs.{Nexts.none_paired, Passes.{part_long, part_sorted, paired_between}}
use Rattle.tau_cascade.proofs.pairing.sum_parts.Goals as goal

pub parts-init : goal.parts-init
parts-init g c = search (rules, arith, none_paired, length-map)

pub invariant_of-part : goal.invariant_of-part
invariant_of-part g c = search (rules, arith, part_long, no_bin, part_sorted)

pub sum_part-requires : goal.sum_part-requires
sum_part-requires g c =
    let few : c.min-end.result - c.parts.at ≤ c.part_size-most.result = omega (arith, c.min-end.ensures) in
    let room : (c.args.range.last + 1) * (c.min-end.result - c.parts.at) ≤ (c.args.range.last + 1) * c.part_size-most.result =
    mul-le-mul {n₂ = c.args.range.last + 1} {m₂ = c.part_size-most.result} (omega arith) few in
    search (rules, arith, room, c.part_size-most.ensures.fits, part_long, no_bin, c.parts.window.empty)

pub parts-preserved : goal.parts-preserved
parts-preserved g c =
    let a = c.args in
    let list = a.bins.list.now in
    let near = c.first_in_reach-near in
    let at = c.parts.at in
    let end = c.min-end.result in
    let more : at < end = omega (arith, c.min-end.ensures, c.parts-test.true, c.part_size-most.ensures.some) in
    let upto : end ≤ length list = omega (arith, c.min-end.ensures) in
    let long = part_long a.bins.levels list near.result at end no_bin near.ensures.place more upto in
    let inv = c.parts.invariant in
    let e = c.sum_part.ensures in
    record {
      behind = omega (arith, inv.behind, more);
      within = upto;
      few = λ q inside. omega (arith, e.within q inside, inv.few q inside, long, near.ensures.place, more, inv.behind);
      sums = λ p inside.
          let next = paired_between a.bins.levels list near.result at end no_bin near.ensures.place more upto a.bins.sorted
          (p + a.range.skipped + 1) a.range.last a.bins.start (omega (arith, inside)) inv.behind near.ensures.far in
          omega (arith, next, e.sums c.if-not-sum_part.false p inside, inv.sums p inside);
    }
