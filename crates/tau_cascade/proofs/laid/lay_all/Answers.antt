use Rattle.std.proofs.Common.{rules, ◌≡◌, ◌∙◌, ℕ, ◌+◌, ◌*◌, ◌-◌, ◌<◌, ◌≤◌, List, [], ◌∷◌, ◌++◌, length, get_or, map, take, drop, arith, append_assoc}
use Rattle.std.proofs.{Math.{Nat.mul-le-mul, ListN.drop_of_length-le}, lemmas.{Grind.common_steps, List.{take_more, take-map, length-take, length-take-le}}}
use Rattle.{std.proofs.lemmas.List.{length-drop, length-set, append-nil, drop-append-le}, lag_ring.specs.declared.ring.Entry.Entry}
use Rattle.tau_cascade.{specs.{Dense.{laid, placed}, Bins.raised}, proofs.Close.{no_bin, laid_at, cut, behind_last, push, laid_more, placed_more}}
use Rattle.tau_cascade.proofs.Passes.{all_take}
use Rattle.tau_cascade.proofs.laid.lay_all.Goals as goal

pub lay_before-laying-requires-clause-near : goal.lay_before-laying-requires-clause-near
lay_before-laying-requires-clause-near c = search (rules, arith, all_take)

pub loop-i-init : goal.loop-i-init
loop-i-init c =
    let are = c.lay_before-laying.ensures in
    let most : ℕ = c.args.first + c.args.lags in
    let close = are.upto most (omega arith) c.requires.near.1 in
    search (rules, arith, take-map, drop_of_length-le, length-take, append-nil)

pub lay_one-laying-requires : goal.lay_one-laying-requires
lay_one-laying-requires c =
    let inside = c.loop-i-test.true in
    let reach : ℕ = c.from-reach.result + 1 in
    let count : ℕ = c.loop-i.i - c.args.bins.start in
    let most : reach * (count + 1) ≤ (c.args.lags + 1) * (length c.args.bins.list.now - c.args.bins.start) =
    mul-le-mul {n₂ = c.args.lags + 1} {m₂ = length c.args.bins.list.now - c.args.bins.start} (omega (arith, c.from-reach.ensures)) (search (rules, arith)) in
    let all : reach * (count + 1) ≤ 8256 = omega (arith, most, c.requires.fits) in
    search (rules, arith, behind_last)

pub loop-i-preserved : goal.loop-i-preserved
loop-i-preserved c =
    let levels : ℕ = c.args.bins.levels in
    let list = c.args.bins.list.now in
    let start : ℕ = c.args.bins.start in
    let i : ℕ = c.loop-i.i in
    let inside : i < length list = c.loop-i-test.true in
    let inv = c.loop-i.invariant in
    let one = c.lay_one-laying.ensures in
    let reach : ℕ = c.from-reach.result + 1 in
    let place : ℕ = c.lay_one-laying.result.place in
    let up = behind_last levels list i inside inv.are c.args.bins.sorted c.requires.near.0 in
    let back : List Entry = drop start (take i list) in
    let long : length (take i list) ≡ i = length-take-le i list (omega (arith, inside)) in
    let count : length back ≡ i - start = omega (arith, long, length-drop start (take i list)) in
    let more : drop start (take (i + 1) list) ≡ back ++ get_or list i no_bin ∷ [] =
    rw (take_more list i no_bin inside) (drop-append-le start (take i list) _ (omega (arith, long))) in
    let written = placed_more back (get_or list i no_bin) c.loop-i.places place (omega (arith, count, inv.long, inside, c.requires.few.0)) in
    let laid_here = push _ _ _ _ _ _ _ _ inv.are up one.last one.heaviest one.weights one.light in
    let ring : reach * (i - start + 1) ≡ reach * (i - start) + reach = grind arith in
    let next : i + 1 - start ≡ i - start + 1 = omega arith in
    record {
      are = rw (cut levels list i inside) (laid_more _ _ _ _ _ _ _ _ inv.are up one.last one.heaviest one.weights one.light);
      at_places = rw (cut levels list i inside, more, ← count, written, laid_here, inv.at_places)
          (append_assoc (laid reach c.args.first 0 (take start (map (raised levels) list))) (placed back c.loop-i.places)
          (laid_at place (get_or list i no_bin) ∷ []));
      near = λ k. grind (arith, common_steps, one.last.1, inv.near k);
      place = rw next (omega (arith, ring, inv.place, one.last.1));
      long = length-set c.loop-i.places (i - start) _ ∙ inv.long;
    }
