use Rattle.{std.proofs.{Common.{◌≡◌, ◌∙◌, cond, rules, arith}, lemmas.List.{drop-set-add, length-drop}}, tally_base.specs.Settings.correlation_view}
use Rattle.{tally_base.{specs.Columns.{item, rows}, proofs.BlockRows.more_rows}, tau_cascade.{specs.Correlation.{in_first, in_second}, proofs.Blocks.mine}}
use Rattle.tau_cascade.proofs.{Blocks.{weight_row, some_weight, gather_step}, Follows.byte_small}
use Rattle.tau_cascade.proofs.bins.gather.Goals as goal

pub loop-at-preserved : goal.loop-at-preserved
loop-at-preserved c =
    let view = correlation_view c.args.set.now in
    let x = item c.args.block.now c.loop-at.at in
    let is_a : c.photons_in-a.result ≡ cond (in_first view x) 1 0 = c.photons_in-a.ensures ∙ weight_row c.args.block.now c.loop-at.at view.first in
    let is_b : c.photons_in-b.result ≡ cond (in_second view x) 1 0 = c.photons_in-b.ensures ∙ weight_row c.args.block.now c.loop-at.at view.second in
    let more : c.from-count.result ≡ cond (mine view x) 1 0 = some_weight _ _ (in_first view x) (in_second view x) is_a is_b _ c.from-count.ensures in
    let step = gather_step view _ _ _ _ (rows (item c.args.block.now) c.loop-at.at) x (omega (arith, length-drop c.args.start c.loop-at.bins)) c.loop-at.invariant.bins is_a is_b in
    search (rules, arith, step, more, more_rows, drop-set-add, byte_small)
