use Rattle.{std.proofs.Common.{◌≡◌, ℕ, ◌+◌, ◌-◌, ◌*◌, ◌<◌, get_or, map, take}, tau_cascade.specs.{Levels.weight_before, Bins.raised}}
use Rattle.tau_cascade.proofs.pairing.sum_one.Given as goal

abbrev pub invariant-loop-bin : goal.invariant-loop-bin
invariant-loop-bin l = (p : ℕ) → p < l.range.last - l.range.skipped → get_or l.sums p 0
    ≡ get_or l.initial.sums p 0 + weight_before (p + l.range.skipped + 1) l.index (take l.bin-index (map (raised l.levels) l.bins)) * l.weight
