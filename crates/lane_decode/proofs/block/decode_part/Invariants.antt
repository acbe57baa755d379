use Rattle.{std.proofs.Common.{◌≡◌, length, map, take}, ptu_definitions.specs.Words.numbers}
use Rattle.lane_decode.proofs.block.decode_part.Given as goal

abbrev pub invariant-loop-i : goal.invariant-loop-i
invariant-loop-i g l = record {
  long : length l.out ≡ length l.words;
  so_far : take l.i l.out ≡ map g.R.RecordLayout.meaning (numbers (take l.i l.words));
}
