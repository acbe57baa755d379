use Rattle.{std.{proofs.Common.{◌*◌, ◌≤◌, List, map, take}, specs.List.sum_by}, lag_ring.specs.declared.{ring.Entry.Entry, window.Side.TheVariants.First}}
use Rattle.{lag_ring.specs.declared.window.Side.TheVariants.Second, tau_cascade.specs.{Bins.raised, Grid.{HaveWeights, photons}}}
use Rattle.tau_cascade.proofs.grid.put_all.Given as goal

abbrev pub invariant-loop-bin : goal.invariant-loop-bin
invariant-loop-bin l =
    let es : List Entry = take l.bin-index (map (raised l.levels) l.bins) in record {
      firsts : HaveWeights First l.base l.firsts es;
      seconds : HaveWeights Second l.base l.seconds es;
      few : sum_by photons es ≤ 14 * l.bin-index;
    }
