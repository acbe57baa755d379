use Rattle.std.proofs.Common.{sym}
use Rattle.trace_work.proofs.trace.trace_piece.Goals as goal

-- The names of the steps are the checker's own: what was lent to the lines comes back under them.
pub returns : goal.returns
returns g c =
    let it = c.feed_lines.ensures in
    rw (c.trace-1.given.1 (sym it.same.1), c.out-1.given.1 (sym it.same.0)) (record { fed = it.fed; writes = it.writes; going = it.going; behind = it.behind; set = it.set })
