use Rattle.{std.proofs.{Common.{rules, ◌≡◌, ◌∙◌, arith}, lemmas.Result.err_from_is_err_and}, tally_base.specs.Tally.History, table_out.specs.Report.printed}
use Rattle.table_out.proofs.Putting.{puts-piece, cuts-piece, puts-next, cuts-next}
use Rattle.table_out.proofs.cells.put_row.Goals as goal

pub returns-in_err-put : goal.returns-in_err-put
returns-in_err-put g c =
    record {
      all = search (rules, arith);
      short =
          let e = err_from_is_err_and c.from_residual.result c.from_residual.ensures.1 in
          let t = c.args.table.now in
          let holds = g.T.Tally.holds t in
          let text = (printed (g.T.Tally.settings t)).cell c.args.row in
          let n = c.loop-column.column in
          let next : (h : History) → holds h → c.line_of.result.now ≡ text n h = c.line_of.ensures in
          rw e.1 (cuts-next holds text n ((printed (g.T.Tally.settings t)).columns c.args.row) _ _ _ c.args.block.now c.loop-column.block (search rules) c.loop-column.invariant.put
          (cuts-piece holds (text n) c.line_of.result.now _ _ c.loop-column.block next c.in_err-put.ensures.short));
      cause = search (rules, arith);
    }

pub loop-column-preserved : goal.loop-column-preserved
loop-column-preserved g c =
    let t = c.args.table.now in
    let holds = g.T.Tally.holds t in
    let text = (printed (g.T.Tally.settings t)).cell c.args.row in
    let n = c.loop-column.column in
    let next : (h : History) → holds h → c.line_of.result.now ≡ text n h = c.line_of.ensures in
    record {
      put = puts-next holds text n _ _ _ c.args.block.now c.loop-column.block _ c.loop-column.invariant.put
          (puts-piece holds (text n) c.line_of.result.now _ _ c.loop-column.block _ next c.in_ok-put.ensures.all);
      kept = c.in_ok-put.ensures.all.passed.kept ∙ c.loop-column.invariant.kept;
    }
