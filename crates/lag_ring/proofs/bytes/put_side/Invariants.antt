use Rattle.{std.proofs.Common.{◌≡◌, length, take}, lag_ring.specs.Bytes.Have}
use Rattle.lag_ring.proofs.bytes.put_side.Given as goal

abbrev pub invariant-loop-entry : goal.invariant-loop-entry
invariant-loop-entry l = record {
  have : Have l.side l.top l.low l.fn.window l.window (take l.entry-index l.entries);
  same : length l.window ≡ length l.fn.window;
}
