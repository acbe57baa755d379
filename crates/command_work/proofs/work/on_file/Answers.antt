use Rattle.std.{proofs.{Common.{ℕ, List, None, refl, sym, ap, ◌∙◌, subst, inl}, lemmas.Result.IfErr-weaker}, specs.declared.option.Option.Option}
use Rattle.{tally_base.specs.declared.slot.Slot.TheVariants.{Plan, Data}, bench_io.{specs.Inputs.IsOpened, proofs.Bytes.Wrote-nil}}
use Rattle.command_work.{specs.Endings.{span, HasCauses}, proofs.{Told.{read-agrees, file-answers, file-causes, few-told}, Once.{quiet-none, once-refl}}}
use Rattle.command_work.proofs.Once.{once-behind, once-opened, once-unopened}
use Rattle.command_work.proofs.work.on_file.Goals as goal

pub returns-in-Err : goal.returns-in-Err
unfolding HasCauses
returns-in-Err g c = record {
  answer = inl refl;
  causes = (tt, c.in-Err.ensures.cause.once, Wrote-nil _);
  asks = (
    c.open.ensures.keeps_other.asked ∙ c.requires.first Plan,
    λ opened. cc (g.met.I.Inputs.asked_first c.args.inputs.now Data (sym c.in-Err.ensures.unopened ∙ opened), c.requires.first Data),
  );
  once = record { inputs = once-unopened Data _ _ _ (once-refl _ None quiet-none) c.open.ensures.keeps_other c.open.ensures.reads c.in-Err.ensures.cause.once; out = refl };
  files = λ file told opened. cc (g.met.I.Inputs.asked_first c.args.inputs.now Data (sym c.in-Err.ensures.unopened ∙ opened), c.requires.first Data);
}

pub returns-in-Ok : goal.returns-in-Ok
returns-in-Ok g c =
    let before = g.I.Inputs.state c.args.inputs.now in
    let opened = g.I.Inputs.state c.open.new.self in
    let after = g.I.Inputs.state c.read.new.inputs in
    let writing = g.W.FileWork.writing in
    let is_open = ap (λ f. f Data) c.read.ensures.reads.opens_none.opened ∙ c.in-Ok.ensures.opened in
    let work = g.W.FileWork.work in
    let read = span g.I.Inputs g.O.Sink c.open.new.self c.read.new.inputs c.args.out.now c.read.new.out in
    let once = once-opened Data before before opened (once-refl before None quiet-none) c.open.ensures.keeps_other c.open.ensures.reads c.in-Ok.ensures.cause.kept in
    record {
      answer = file-answers c.args.file.now writing work after _ _ _ _ c.in-Ok.ensures.given is_open c.read.ensures.leaves.answer;
      causes = IfErr-weaker c.read.result _ _ (λ fault h. file-causes c.args.file.now writing work before read fault c.in-Ok.ensures.given is_open once h) c.read.ensures.leaves.reason;
      asks = (
        ap (λ f. f Plan) c.read.ensures.reads.opens_none.asked ∙ c.open.ensures.keeps_other.asked ∙ c.requires.first Plan,
        λ was. few-told work after _ c.in-Ok.ensures.given c.read.ensures.leaves.few,
      );
      once = record { inputs = once-behind before opened after _ once c.read.ensures.leaves.once.inputs; out = c.read.ensures.leaves.once.out };
      files = λ file. read-agrees (before.contents c.args.file.now) after Data file
          (λ o. subst (λ (told : Option (List ℕ)). IsOpened (before.contents c.args.file.now) told)
          (sym (ap (λ f. f Data) c.read.ensures.reads.opens_none.told)) c.in-Ok.ensures.file)
          (g.met.I.Inputs.agrees c.read.new.inputs Data);
    }
