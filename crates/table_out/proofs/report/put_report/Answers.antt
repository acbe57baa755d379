use Rattle.std.proofs.{Common.{ℕ, List, ◌∙◌, ◌≡◌, ◌++◌, refl, rules, arith}, lemmas.Result.{err_from_is_err_and, on_ok_weaker, on_err_weaker}}
use Rattle.{bench_io.proofs.Bytes.{Wrote-flushed, WroteShort-flushed}, tally_base.specs.declared.header.Header.Header}
use Rattle.{ptu_definitions.specs.declared.records.Summary.Summary, table_out.specs.Report.{Table, EachHolds, head_text, parts_text, report}}
use Rattle.table_out.proofs.Putting.{puts-piece, puts-more, cuts-behind}
use Rattle.table_out.proofs.report.put_report.Goals as goal

-- the parts of a report
report-text : (header : Header) (summary : Summary) (tables : List Table) → report header summary tables ≡ head_text header summary ++ parts_text tables
unfolding report
report-text header summary tables = refl

pub returns-in_err-put_parts : goal.returns-in_err-put_parts
returns-in_err-put_parts g c =
    record {
      text = search (rules, arith);
      short =
          let e = err_from_is_err_and c.from_residual-in_err-put_parts.result c.from_residual-in_err-put_parts.ensures.1 in
          let results = c.args.results.now in
          let holds = EachHolds results.parts.items in
          let head : List Table → List ℕ = λ tables. head_text results.header results.summary in
          let first = puts-piece holds head c.as_slice.result.now _ _ c.new-block.result _
          (λ tables is. c.as_slice.ensures.value ∙ c.report_head-head.ensures) c.in_ok-put.ensures.all in
          let short = cuts-behind holds head parts_text _ _ _ c.new-block.result _ first (rw c.deref.ensures.value at c.in_err-put_parts.ensures.short) in
          rw e.1 (λ tables is. rw (report-text results.header results.summary tables) (rw c.new-block.ensures at (short tables is)));
      cause = search (rules, arith);
    }

pub returns : goal.returns
returns g c =
    let results = c.args.results.now in
    let holds = EachHolds results.parts.items in
    let head : List Table → List ℕ = λ tables. head_text results.header results.summary in
    let first = puts-piece holds head c.as_slice.result.now _ _ c.new-block.result _
    (λ tables is. c.as_slice.ensures.value ∙ c.report_head-head.ensures) c.in_ok-put.ensures.all in
    let both =
    puts-more holds head parts_text _ _ _ c.new-block.result _ c.put_parts.new.block first (rw c.deref.ensures.value at c.in_ok-put_parts.ensures.all) in
    record {
      text = on_ok_weaker c.flush.result (λ flushed tables is. rw (report-text results.header results.summary tables)
          (Wrote-flushed _ _ _ _ _ (rw c.new-block.ensures at (both tables is)) flushed)) c.flush.ensures.all;
      short = on_err_weaker c.flush.result (λ cut tables is. rw (report-text results.header results.summary tables)
          (WroteShort-flushed _ _ _ _ _ (rw c.new-block.ensures at (both tables is)) cut)) c.flush.ensures.short;
      cause = search (rules, arith);
    }
