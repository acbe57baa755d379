use Rattle.{std.proofs.Common.{◌≡◌, length, rules, ◌++◌, [], take, refl, sym, ap, ◌∙◌, append-nil, arith, inr, Ok, Err}, bench_io.proofs.States.Consumes-nil}
use Rattle.{bench_io.proofs.{States.{OnlyReads-refl, OnlyReads-trans}, Bytes.{Wrote-nil, Wrote-same}}, list_out.specs.HeaderText.header_text}
use Rattle.{list_out.proofs.StepTexts.header_text-nil, command_work.proofs.{Pieces.IsCut-nil, Told.{Decides-at_end, Decides-shown, reads-on}, Once.quiet-none}}
use Rattle.command_work.proofs.{Once.{once-refl, Rose-kept}, Reading.{leaves-unread, took-read, leaves-ended, leaves-cut}}
use Rattle.file_work.{proofs.Ends.{text-appended, text-cut, outcome-done, outcome-refused, outcome-at}, specs.FileOutcomes.header_outcome}
use Rattle.tally_base.specs.Faults.{fault_in}
use Rattle.file_work.proofs.data.PrintingFileWork.read.Goals as goal

pub pieces-init : goal.pieces-init
pieces-init g c = record {
  reads = OnlyReads-refl _ _;
  taken = ([], c.new-printer.ensures.start, record { once = once-refl _ _ quiet-none; consumes = Consumes-nil _; written = Wrote-same _ _ _ _ (sym header_text-nil) (Wrote-nil _); goes = IsCut-nil; unended = record { said_before = λ ended. ended } });
  is_open = c.new-printer.ensures.is_open;
}

pub pieces-preserved : goal.pieces-preserved
pieces-preserved g c =
    let so = c.pieces.invariant.taken in
    let piece = take c.in-Ok.len c.read.new.into in
    let took = took-read so.2 _ c.read.ensures.keeps_other c.read.ensures.opens_none c.in-Ok.len c.read.new.into c.in-Ok.ensures.cause.kept c.in-Ok.ensures.gives
    (let size : length c.read.new.into ≡ 8192 = Prim.search rules in omega (arith, size)) in
    let leaves = rw c.in-Ok-More.field-0-is at (c.in-Ok-More.ensures.leaves so.0 so.1) in
    record {
      reads = OnlyReads-trans _ _ _ _ c.pieces.invariant.reads
          (record { keeps = c.read.ensures.keeps; keeps_other = c.read.ensures.keeps_other; opens_none = c.read.ensures.opens_none });
      taken = (
        so.0 ++ piece,
        leaves.0,
        record {
          once = took.once;
          consumes = took.consumes;
          written = text-appended so.0 piece _ _ _ so.2.written (c.in-Ok-More.ensures.text so.0 so.1);
          goes = leaves.2;
          unended = reads-on _ _ _ _ _ so.2.unended c.in-Ok.ensures.gives c.if-len-eq0.false;
        },
      );
      is_open = leaves.1;
    }

pub returns-in_default-clause-leaves : goal.returns-in_default-clause-leaves
returns-in_default-clause-leaves g c =
    leaves-unread c.pieces.invariant.taken.2 _ c.read.ensures.keeps_other c.read.ensures.opens_none _ c.in_default.ensures.gives c.in_default.ensures.cause.once

pub returns-then-len-eq0-clause-leaves : goal.returns-then-len-eq0-clause-leaves
returns-then-len-eq0-clause-leaves g c =
    let so = c.pieces.invariant.taken in
    let piece = take c.in-Ok.len c.read.new.into in
    let took = took-read so.2 _ c.read.ensures.keeps_other c.read.ensures.opens_none c.in-Ok.len c.read.new.into c.in-Ok.ensures.cause.kept c.in-Ok.ensures.gives
    (let size : length c.read.new.into ≡ 8192 = Prim.search rules in omega (arith, size)) in
    let none : piece ≡ [] = rw c.if-len-eq0.true refl in
    let all : so.0 ++ piece ≡ so.0 = ap (λ l. so.0 ++ l) none ∙ append-nil so.0 in
    let size : length c.read.new.into ≡ 8192 = Prim.search rules in
    leaves-ended took _ _ _ _ (header_text so.0) (Err c.finish.result) c.finish.ensures.inside so.2.written
    (Decides-at_end header_outcome (so.0 ++ piece) _ _ (c.in-Ok.ensures.gives.1.1 (inr (c.if-len-eq0.true, omega (arith, size))))
    (ap header_outcome all ∙ outcome-at so.0 _ _ refl (ap fault_in (c.finish.ensures.answer so.0 so.1))))

pub returns-in-Err-clause-leaves : goal.returns-in-Err-clause-leaves
returns-in-Err-clause-leaves g c =
    let so = c.pieces.invariant.taken in
    let piece = take c.in-Ok.len c.read.new.into in
    let took = took-read so.2 _ c.read.ensures.keeps_other c.read.ensures.opens_none c.in-Ok.len c.read.new.into c.in-Ok.ensures.cause.kept c.in-Ok.ensures.gives
    (let size : length c.read.new.into ≡ 8192 = Prim.search rules in omega (arith, size)) in
    leaves-cut took _ _ _ _ (Rose-kept _ _ _ so.2.written.kept c.in-Err.ensures.cause.once) (λ more follows. text-cut so.0 piece more _ _ _ so.2.written (c.in-Err.ensures.short so.0 so.1))

pub returns-in-Ok-Done-clause-leaves : goal.returns-in-Ok-Done-clause-leaves
returns-in-Ok-Done-clause-leaves g c =
    let so = c.pieces.invariant.taken in
    let piece = take c.in-Ok.len c.read.new.into in
    let took = took-read so.2 _ c.read.ensures.keeps_other c.read.ensures.opens_none c.in-Ok.len c.read.new.into c.in-Ok.ensures.cause.kept c.in-Ok.ensures.gives
    (let size : length c.read.new.into ≡ 8192 = Prim.search rules in omega (arith, size)) in
    let leaves = rw c.in-Ok-Done.field-0-is at (c.in-Ok-Done.ensures.leaves so.0 so.1) in
    leaves-ended took _ _ _ _ (header_text (so.0 ++ piece)) (Ok tt) tt (text-appended so.0 piece _ _ _ so.2.written (c.in-Ok-Done.ensures.text so.0 so.1))
    (Decides-shown header_outcome (so.0 ++ piece) _ _ (λ more. outcome-done (so.0 ++ piece) more leaves.1 leaves.0 leaves.2))

pub returns-in-Ok-Refused-clause-leaves : goal.returns-in-Ok-Refused-clause-leaves
returns-in-Ok-Refused-clause-leaves g c =
    let so = c.pieces.invariant.taken in
    let piece = take c.in-Ok.len c.read.new.into in
    let took = took-read so.2 _ c.read.ensures.keeps_other c.read.ensures.opens_none c.in-Ok.len c.read.new.into c.in-Ok.ensures.cause.kept c.in-Ok.ensures.gives
    (let size : length c.read.new.into ≡ 8192 = Prim.search rules in omega (arith, size)) in
    let leaves = rw c.in-Ok-Refused.field-0-is at (c.in-Ok-Refused.ensures.leaves so.0 so.1) in
    leaves-ended took _ _ _ _ (header_text (so.0 ++ piece)) (Err c.in-Ok-Refused.fault) (rw c.in-Ok-Refused.field-0-is at c.in-Ok-Refused.ensures.ends)
    (text-appended so.0 piece _ _ _ so.2.written (c.in-Ok-Refused.ensures.text so.0 so.1))
    (Decides-shown header_outcome (so.0 ++ piece) _ _ (λ more. outcome-refused (so.0 ++ piece) more c.in-Ok-Refused.fault leaves))
