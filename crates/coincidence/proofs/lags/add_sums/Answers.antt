use Rattle.{std.proofs.Common.{rules, sym}, tally_base.specs.Settings.coincidence_view, coincidence.proofs.CellRows.{strip-forward, strip-backward}}
use Rattle.coincidence.proofs.Visits.{room_as}
use Rattle.coincidence.proofs.lags.add_sums.Goals as goal

pub add_row-requires-clause-room : goal.add_row-requires-clause-room
add_row-requires-clause-room g c = rw (c.min-count.ensures, c.reverse.ensures.after) (room_as _ _ _ _ (rw c.in-First.is at c.requires.room)
    (λ at. sym (strip-forward (coincidence_view c.args.set) at c.args.least c.args.sums.now (search rules) c.requires.inside)))

pub add_row-requires-in-Second-clause-room : goal.add_row-requires-in-Second-clause-room
add_row-requires-in-Second-clause-room g c = rw c.min-count.ensures (room_as _ _ _ _ (rw c.in-Second.is at c.requires.room)
    (λ at. sym (strip-backward (coincidence_view c.args.set) at c.args.least c.args.sums.now (search rules) c.requires.inside)))

pub returns-in-First : goal.returns-in-First
returns-in-First g c =
    let counted = rw (c.min-count.ensures, c.reverse.ensures.after) at c.add_row.ensures in
    record {
      cells = λ at inside. rw (c.in-First.is, strip-forward (coincidence_view c.args.set) at c.args.least c.args.sums.now (search rules) c.requires.inside) (counted.cells at inside);
      spends = search (rules, c.add_row.ensures.spends);
    }

pub returns-in-Second : goal.returns-in-Second
returns-in-Second g c =
    let counted = rw c.min-count.ensures at c.add_row-in-Second.ensures in
    record {
      cells = λ at inside. rw (c.in-Second.is, strip-backward (coincidence_view c.args.set) at c.args.least c.args.sums.now (search rules) c.requires.inside) (counted.cells at inside);
      spends = search (rules, c.add_row-in-Second.ensures.spends);
    }
