use Rattle.{std.proofs.Common.{◌≡◌, ◌≤◌}, scan_image.specs.Lines.{line_start, markers_given}}
use Rattle.table_tests.proofs.places.place.Given as goal

abbrev pub invariant-loop-time : goal.invariant-loop-time
invariant-loop-time l = record {
  count : markers_given l.lines ≡ l.time-index;
  early : line_start l.lines ≤ l.latest;
}
