use Rattle.{std.proofs.{Common.{rules, ◌∙◌, arith}, lemmas.Result.err_from_is_err_and}, table_out.proofs.Putting.{first_texts-all, puts-part, cuts-part}}
use Rattle.table_out.proofs.report.put_parts.Goals as goal

pub returns-in_err-put_part : goal.returns-in_err-put_part
returns-in_err-put_part g c =
    record {
      all = search (rules, arith);
      short =
          let e = err_from_is_err_and c.from_residual.result c.from_residual.ensures.1 in
          rw e.1 (cuts-part c.args.parts.now c.loop-place.place c.number_of-number.result c.index-parts-place.result c.loop-place-test.true c.index-parts-place.is c.number_of-number.ensures _ _ _ c.args.block.now c.loop-place.block c.loop-place.invariant.put c.in_err-put_part.ensures.short);
      cause = search (rules, arith);
    }

pub loop-place-preserved : goal.loop-place-preserved
loop-place-preserved g c = record {
  put = puts-part c.args.parts.now c.loop-place.place c.number_of-number.result c.index-parts-place.result c.loop-place-test.true c.index-parts-place.is c.number_of-number.ensures _ _ _ c.args.block.now c.loop-place.block _ c.loop-place.invariant.put c.in_ok-put_part.ensures.all;
  kept = c.in_ok-put_part.ensures.cause.kept ∙ c.loop-place.invariant.kept;
}

pub returns : goal.returns
returns g c =
    record {
      all =
          λ tables each. rw (first_texts-all c.args.parts.now tables c.loop-place.place (search rules) each) at (c.loop-place.invariant.put tables each);
      short = search (rules, arith);
      cause = search (rules, arith);
    }
