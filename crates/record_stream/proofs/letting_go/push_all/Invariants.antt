use Rattle.{std.proofs.Common.{◌≡◌, ◌++◌, take}, tally_base.specs.Columns.{gathered, sorted}}
use Rattle.record_stream.proofs.letting_go.push_all.Given as goal

abbrev pub invariant-loop-event : goal.invariant-loop-event
invariant-loop-event l = record {
  more : gathered l.block ≡ gathered l.fn.block ++ take l.event-index l.events;
  unsorted : sorted l.block ≡ sorted l.fn.block;
}
