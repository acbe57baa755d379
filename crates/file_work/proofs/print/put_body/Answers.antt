use Rattle.std.proofs.{Common.{◌++◌, ◌∙◌, take, append_assoc, ◌+◌, drop, sym, ap, refl}, lemmas.{List.take_more, Result.err_from_is_err_and}}
use Rattle.{list_out.{specs.HeaderText.body_text, proofs.Growing.body_text-grows}, command_work.proofs.Pieces.whole-piece, bench_io.proofs.Texts.PutText-next}
use Rattle.bench_io.proofs.Texts.{LostText-next}
use Rattle.file_work.proofs.print.put_body.Goals as goal

-- a body that is printed byte by byte

pub returns-in_err-put-clause-short : goal.returns-in_err-put-clause-short
returns-in_err-put-clause-short g c =
    let p = err_from_is_err_and c.from_residual.result c.from_residual.ensures.1 in
    let bytes = c.args.bytes.now in
    let i = c.loop-byte.byte-index in
    rw p.1 (λ kind part h.
    let rest = body_text-grows kind (part ++ take (i + 1) bytes) (drop (i + 1) bytes) in
    LostText-next _ _ (body_text kind (part ++ take (i + 1) bytes)) _ c.put.result.items rest.0 _ _ _ c.args.block.now c.loop-byte.block (c.loop-byte.invariant.all kind part h)
    (rw (take_more bytes i 0 c.loop-byte-test.true, ← append_assoc) (c.put.ensures.text kind (part ++ take i bytes) (c.loop-byte.invariant.taken kind part h)))
    (ap (body_text kind) (sym (whole-piece part bytes (drop (i + 1) bytes) (i + 1) refl)) ∙ rest.1) (rw c.as_slice.ensures.value at c.in_err-put.ensures.short))

pub loop-byte-preserved : goal.loop-byte-preserved
loop-byte-preserved g c =
    let bytes = c.args.bytes.now in
    let i = c.loop-byte.byte-index in
    record {
      taken = λ kind part h. rw (take_more bytes i 0 c.loop-byte-test.true, ← append_assoc)
          (c.put.ensures.taken kind (part ++ take i bytes) (c.loop-byte.invariant.taken kind part h));
      all = λ kind part h. PutText-next _ _ _ c.put.result.items _ _ _ c.args.block.now c.loop-byte.block c.put-in-loop-byte.new.self (c.loop-byte.invariant.all kind part h)
          (rw (take_more bytes i 0 c.loop-byte-test.true, ← append_assoc) (c.put.ensures.text kind (part ++ take i bytes) (c.loop-byte.invariant.taken kind part h)))
          (rw c.as_slice.ensures.value at c.in_ok-put.ensures.all);
      kept = c.in_ok-put.ensures.all.passed.kept ∙ c.loop-byte.invariant.kept;
    }
