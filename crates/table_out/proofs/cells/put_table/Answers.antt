use Rattle.std.proofs.{Common.{◌∙◌, List, ℕ, ◌++◌, refl, append_assoc, ◌≡◌, rules, arith}, lemmas.Result.{err_from_is_err_and, on_ok_weaker, on_err_weaker}}
use Rattle.{tally_base.specs.Tally.History, table_out.{specs.{Printed.{rows_of, first_line, table_lines}, Report.printed}, proofs.Putting.puts-piece}}
use Rattle.table_out.proofs.Putting.{cuts-piece, puts-more, cuts-behind, cuts-front}
use Rattle.table_out.proofs.cells.put_table.Goals as goal

pub returns-in_err-put : goal.returns-in_err-put
returns-in_err-put g c =
    record {
      all = search (rules, arith);
      short =
          let e = err_from_is_err_and c.from_residual.result c.from_residual.ensures.1 in
          let t = c.args.table.now in
          let number = c.args.number in
          let holds = g.T.Tally.holds t in
          let it = printed (g.T.Tally.settings t) in
          let rows = rows_of it.cell it.columns it.rows in
          let first : History → List ℕ = λ h. first_line it number in
          let short = cuts-piece holds first c.as_slice.result.now _ _ c.args.block.now
          (λ h is. c.as_slice.ensures.value ∙ c.first_line.ensures) c.in_err-put.ensures.short in
          rw e.1 (cuts-front holds first (table_lines it number) _ _ c.args.block.now
          (λ h. (rows h ++ it.rest h, append_assoc (first_line it number) (rows h) (it.rest h))) short);
      cause = search (rules, arith);
    }

pub returns-in_err-put_rows : goal.returns-in_err-put_rows
returns-in_err-put_rows g c =
    record {
      all = search (rules, arith);
      short =
          let e = err_from_is_err_and c.from_residual-in_err-put_rows.result c.from_residual-in_err-put_rows.ensures.1 in
          let t = c.args.table.now in
          let number = c.args.number in
          let holds = g.T.Tally.holds t in
          let it = printed (g.T.Tally.settings t) in
          let rows = rows_of it.cell it.columns it.rows in
          let first : History → List ℕ = λ h. first_line it number in
          let put =
          puts-piece holds first c.as_slice.result.now _ _ c.args.block.now _ (λ h is. c.as_slice.ensures.value ∙ c.first_line.ensures) c.in_ok-put.ensures.all in
          let short = cuts-behind holds first rows _ _ _ c.args.block.now _ put c.in_err-put_rows.ensures.short in
          rw e.1 (cuts-front holds (λ h. first h ++ rows h) (table_lines it number) _ _ c.args.block.now (λ h. (it.rest h, refl)) short);
      cause = search (rules, arith);
    }

pub returns : goal.returns
returns g c =
    let t = c.args.table.now in
    let number = c.args.number in
    let holds = g.T.Tally.holds t in
    let it = printed (g.T.Tally.settings t) in
    let rows = rows_of it.cell it.columns it.rows in
    let first : History → List ℕ = λ h. first_line it number in
    let both : History → List ℕ = λ h. first h ++ rows h in
    let put =
    puts-piece holds first c.as_slice.result.now _ _ c.args.block.now _ (λ h is. c.as_slice.ensures.value ∙ c.first_line.ensures) c.in_ok-put.ensures.all in
    let so_far = puts-more holds first rows _ _ _ c.args.block.now _ c.put_rows.new.block put c.in_ok-put_rows.ensures.all in
    let last : (h : History) → holds h → c.as_slice-2.result.now ≡ it.rest h = λ h is. c.as_slice-2.ensures.value ∙ c.rest_lines.ensures h is in
    record {
      all = on_ok_weaker c.put-2.result (λ put-2. puts-more holds both it.rest _ _ _ c.args.block.now c.put_rows.new.block _ so_far
          (puts-piece holds it.rest c.as_slice-2.result.now _ _ c.put_rows.new.block _ last put-2)) c.put-2.ensures.all;
      short = on_err_weaker c.put-2.result (λ put-2. cuts-behind holds both it.rest _ _ _ c.args.block.now c.put_rows.new.block so_far
          (cuts-piece holds it.rest c.as_slice-2.result.now _ _ c.put_rows.new.block last put-2)) c.put-2.ensures.short;
      cause = search (rules, arith);
    }
