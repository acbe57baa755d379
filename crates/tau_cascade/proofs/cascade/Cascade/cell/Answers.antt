use Rattle.{std.proofs.Common.{rules, ◌<◌, ◌∙◌, length}, tally_base.specs.Settings.correlation_view, tau_cascade.proofs.Shown.{shown_cells, cell_is}}
use Rattle.tau_cascade.proofs.cascade.Cascade.cell.Goals as goal

pub returns-clause-pairs : goal.returns-clause-pairs
returns-clause-pairs c = λ shut h is.
    let t = c.args.self.now in
    let inside : c.args.level < length t.levels.items = search rules in
    c.get.ensures.count ∙ cell_is (correlation_view t.set) c.args.level c.args.lag c.skipped_lags.result c.level.result.now h
    (shown_cells t.closed shut (correlation_view t.set) t.levels.items _ is.through c.args.level c.level.result.now c.level.ensures.cells)
    c.skipped_lags.ensures.skipped c.requires.lag.0 c.requires.lag.1
