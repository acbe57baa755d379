use Rattle.{std.proofs.Common.{◌≡◌, ◌+◌, ◌++◌}, ptu_definitions.specs.Kept.Marked, tally_base.specs.{Columns.{event_at, rows}, Tally.floor_after}}
use Rattle.{abs_time.specs.Floors.orders_markers, record_stream.specs.Blocks.on_time}
use Rattle.record_stream.proofs.taker.EventTaker.take_block.Given as goal

abbrev pub invariant-loop-at : goal.invariant-loop-at
invariant-loop-at g l =
    let s = g.Self.EventTaker in
    record {
      taken : s.taken l.self ≡ s.taken l.fn.self + l.at;
      mode : s.mode l.self ≡ s.mode l.fn.self;
      floor : s.floor l.self ≡ floor_after (orders_markers (s.mode l.fn.self)) (s.floor l.fn.self) (rows (event_at l.block) l.at);
      follows : (start : _) (m : Marked) → s.got start l.fn.self m → s.got start l.self (m ++ on_time (rows (event_at l.block) l.at));
      kept : s.faults l.self ≡ s.faults l.fn.self;
      same : s.same l.fn.self l.self;
    }
