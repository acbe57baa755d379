use Rattle.{std.proofs.Common.{◌≡◌, ℕ, ◌+◌, ◌-◌, ◌*◌, ◌/◌, ◌<◌, get_or}, tau_cascade.specs.Grid.dots}
use Rattle.tau_cascade.proofs.grid.Grid.put_dots.Given as goal

abbrev pub invariant-loop-p : goal.invariant-loop-p
invariant-loop-p l = (p : ℕ) → p < l.p → get_or l.sums p 0 ≡ dots l.window (192 - (p + l.range.skipped + 1)) l.self.seconds (16 * ((l.self.len + 16 - 1) / 16))
