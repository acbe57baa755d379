use Rattle.{std.proofs.Common.{◌≡◌, ◌≤◌, length}, fold_count.proofs.Nested.partly}
use Rattle.fold_count.proofs.waiting.meet.Given as goal

abbrev pub invariant-back : goal.invariant-back
invariant-back l = record {
  few : l.at ≤ length l.fn.ring.entries;
  entries : l.ring.entries ≡ partly l.at l.groups l.fn.ring.entries;
  reach : l.ring.reach ≡ l.fn.ring.reach;
}

abbrev pub decreases-back : goal.decreases-back
decreases-back l = l.at
