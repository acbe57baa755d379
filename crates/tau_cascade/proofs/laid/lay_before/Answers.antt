use Rattle.std.proofs.{Common.{ℕ, ◌+◌, ◌≤◌, List, map, take, arith, rules}, lemmas.List.{take-map, take_all, length-map}}
use Rattle.{lag_ring.specs.declared.ring.Entry.Entry, tau_cascade.{specs.Bins.raised, proofs.{Close.{cut, behind_last, laid_more}, Passes.all_take}}}
use Rattle.tau_cascade.proofs.Passes.{spaced_take}
use Rattle.tau_cascade.proofs.laid.lay_before.Goals as goal

pub lay_one-laying-requires : goal.lay_one-laying-requires
lay_one-laying-requires c =
    let i : ℕ = c.loop-bin.bin-index in
    let levels : ℕ = c.args.bins.levels in
    let list : List Entry = take c.args.bins.start c.args.bins.list.now in
    let most : ℕ = c.args.first + c.args.lags in
    let close = c.loop-bin.invariant.upto most (omega arith) (all_take (λ e. e.index ≤ most) i (map (raised levels) list) (rw take-map at c.requires.near.1)) in
    let up = behind_last levels list i c.loop-bin-test.true c.loop-bin.invariant (rw take-map at (spaced_take 0 c.args.bins.start _ c.args.bins.sorted)) (rw take-map at c.requires.near.0) in
    search (rules, arith, up)

pub loop-bin-preserved : goal.loop-bin-preserved
loop-bin-preserved c =
    let i : ℕ = c.loop-bin.bin-index in
    let levels : ℕ = c.args.bins.levels in
    let list : List Entry = take c.args.bins.start c.args.bins.list.now in
    let one = c.lay_one-laying.ensures in
    let inside = c.loop-bin-test.true in
    let up = behind_last levels list i inside c.loop-bin.invariant (rw take-map at (spaced_take 0 c.args.bins.start _ c.args.bins.sorted)) (rw take-map at c.requires.near.0) in
    rw (cut levels list i inside) (laid_more _ _ _ _ _ _ _ _ c.loop-bin.invariant up one.last one.heaviest one.weights one.light)

pub returns : goal.returns
returns c =
    let ups : List Entry = map (raised c.args.bins.levels) (take c.args.bins.start c.args.bins.list.now) in
    let all = take_all c.loop-bin.bin-index ups (omega (arith, c.loop-bin-test.false, length-map (take c.args.bins.start c.args.bins.list.now) (raised c.args.bins.levels))) in
    rw take-map (rw (all, c.from-reach.ensures) at c.loop-bin.invariant)
