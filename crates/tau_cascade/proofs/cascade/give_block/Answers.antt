use Rattle.{std.proofs.{Common.{arith, rules}, lemmas.List.Elements.filter-append, Math.Logic.∥∥₁_map}, tally_base.specs.Settings.correlation_view}
use Rattle.{tally_base.specs.Columns.events_in, tau_cascade.{specs.Correlation.photons_of, proofs.Blocks.block_comes}}
use Rattle.tau_cascade.proofs.cascade.give_block.Goals as goal

pub carry_all-requires-clause-stands : goal.carry_all-requires-clause-stands
carry_all-requires-clause-stands g c =
    let view = correlation_view c.args.set.now in
    rw c.gather-count.ensures.bins (∥∥₁_map c.requires.stands
    (λ w. (photons_of view w.0, photons_of view (events_in c.args.block.now), block_comes view c.args.levels.now c.args.block.now w.0 w.1)))

pub returns-clause-follows : goal.returns-clause-follows
returns-clause-follows g c = search (rules, arith, filter-append, block_comes)
