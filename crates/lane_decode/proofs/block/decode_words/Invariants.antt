use Rattle.{std.proofs.Common.{◌≡◌, ◌+◌, ◌++◌, length, map, take}, ptu_definitions.specs.Words.numbers}
use Rattle.lane_decode.proofs.block.decode_words.Given as goal

abbrev pub invariant-many : goal.invariant-many
invariant-many g l = record {
  long : length l.out ≡ l.at + length l.rest;
  so_far : map g.R.RecordLayout.meaning (numbers l.words) ≡ take l.at l.out ++ map g.R.RecordLayout.meaning (numbers l.rest);
}

abbrev pub decreases-many : goal.decreases-many
decreases-many g l = length l.rest
