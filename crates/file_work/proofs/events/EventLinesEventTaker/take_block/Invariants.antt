use Rattle.{std.proofs.Common.{◌≡◌, ◌-◌, ◌++◌, take, length}, tally_base.specs.Columns.gathered, bench_io.specs.Sinks.PassesOn}
use Rattle.{record_stream.specs.Blocks.on_time, list_out.specs.Lines.events_text}
use Rattle.file_work.proofs.events.EventLinesEventTaker.take_block.Given as goal

abbrev pub invariant-parts : goal.invariant-parts
invariant-parts g l = record {
  sink : l.self.out.ghost_name ≡ l.fn.self.out.ghost_name;
  mode : l.self.mode ≡ l.fn.self.mode;
  taken : l.self.taken ≡ l.fn.self.taken;
  floor : l.self.floor ≡ l.fn.self.floor;
  text : PassesOn (g.O.Sink.state l.fn.self.out.now) (g.O.Sink.state l.self.out.now)
      (l.fn.self.block ++ events_text (on_time (take l.from (gathered l.block)))) l.self.block;
}

abbrev pub decreases-parts : goal.decreases-parts
decreases-parts g l = length (gathered l.block) - l.from
