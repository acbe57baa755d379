use Rattle.{std.proofs.Common.{◌≡◌, ◌+◌, length, map}, ptu_definitions.specs.{Words.numbers, Kinds.counts_of}, record_layout.specs.Sums.{IsSplit, sum_of}}
use Rattle.record_layout.proofs.kinds.kinds_of.Given as goal

abbrev pub invariant-whole_blocks : goal.invariant-whole_blocks
invariant-whole_blocks g l =
    let meaning = g.R.RecordLayout.meaning in
    record {
      so_far : counts_of (map meaning (numbers l.words)) ≡ sum_of l.counts (counts_of (map meaning (numbers l.rest)));
      records : l.counts.records + length l.rest ≡ length l.words;
      split : IsSplit l.counts;
    }

abbrev pub decreases-whole_blocks : goal.decreases-whole_blocks
decreases-whole_blocks g l = length l.rest
