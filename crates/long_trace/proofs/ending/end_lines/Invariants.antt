use Rattle.{std.proofs.Common.{◌≡◌, ℕ, ◌+◌, ◌*◌, ◌≤◌, List, ◌++◌}, arrayvec.specs.ArrayVec.array_vec_len, long_trace.specs.Texts.{bin_line, before_line}}
use Rattle.long_trace.specs.{Texts.frequency_lines, States.AreFrequencies}
use Rattle.long_trace.proofs.ending.end_lines.Given as goal

abbrev pub invariant-loop-count : goal.invariant-loop-count
invariant-loop-count l = record {
  put : (all : List ℕ) → AreFrequencies l.closed all → l.lines.items ≡ (bin_line l.counting.newest.bin.index l.counting.newest.count ++ before_line l.counting.before) ++ frequency_lines all l.count;
  room : array_vec_len l.lines ≤ 70 + 56 * l.count;
}
