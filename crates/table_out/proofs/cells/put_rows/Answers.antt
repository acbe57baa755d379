use Rattle.{std.proofs.{Common.{rules, ◌∙◌, ℕ, List, arith}, lemmas.Result.err_from_is_err_and}, tally_base.specs.Tally.History}
use Rattle.table_out.{specs.{Printed.texts_of, Report.printed}, proofs.Putting.{puts-next, cuts-next}}
use Rattle.table_out.proofs.cells.put_rows.Goals as goal

pub returns-in_err-put_row : goal.returns-in_err-put_row
returns-in_err-put_row g c =
    record {
      all = search (rules, arith);
      short =
          let e = err_from_is_err_and c.from_residual.result c.from_residual.ensures.1 in
          let t = c.args.table.now in
          let text : ℕ → History → List ℕ = λ row. texts_of ((printed (g.T.Tally.settings t)).cell row) ((printed (g.T.Tally.settings t)).columns row) in
          rw e.1 (cuts-next (g.T.Tally.holds t) text c.loop-row.row (printed (g.T.Tally.settings t)).rows _ _ _ c.args.block.now c.loop-row.block
          (search rules) c.loop-row.invariant.put c.in_err-put_row.ensures.short);
      cause = search (rules, arith);
    }

pub loop-row-preserved : goal.loop-row-preserved
loop-row-preserved g c =
    let t = c.args.table.now in
    let text : ℕ → History → List ℕ = λ row. texts_of ((printed (g.T.Tally.settings t)).cell row) ((printed (g.T.Tally.settings t)).columns row) in
    record {
      put = puts-next (g.T.Tally.holds t) text c.loop-row.row _ _ _ c.args.block.now c.loop-row.block _ c.loop-row.invariant.put c.in_ok-put_row.ensures.all;
      kept = c.in_ok-put_row.ensures.cause.kept ∙ c.loop-row.invariant.kept;
    }
