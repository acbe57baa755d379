use Rattle.std.proofs.{Common.{rules, refl, sym, subst, List, ℕ, length, take, ◌-◌, arith, ◌≡◌, ◌+◌, ◌≤◌, ◌++◌, ap, ◌∙◌}, lemmas.List.{take-take, length-take}}
use Rattle.{std.proofs.{lemmas.Slice.take-put_mid, Math.Seq.take-append-add}, tally_base.specs.declared.slot.Slot.TheVariants.Plan as PlanSlot}
use Rattle.{bench_io.{specs.Given.Consumes, proofs.States.{Consumes-trans, OnlyReads-trans}}, command_work.proofs.{Told.{reads-on, fails-on}, Once.Rose-kept}}
use Rattle.command_work.proofs.Once.{quiet-none, once-read, once-unread}
use borrow.Rule.Slice.PartMut.{put_mid}
use Rattle.command_work.proofs.plan.read_text.Goals as goal

-- a text that is read into the rest of an array

-- the first bytes with those that were read after them
read_behind : (len k more : ℕ) (text new : List ℕ) → len ≤ length text → more ≤ length new
    → take (len + more) (put_mid len k text new) ≡ take len text ++ take more new
read_behind len k more text new fits few =
    let size : length (take len text) ≡ len = length-take len text ∙ omega arith in
    sym (take-take (len + more) (len + length new) (put_mid len k text new) (omega arith))
    ∙ ap (take (len + more)) (take-put_mid len k text new (len + length new) refl fits)
    ∙ ap (λ n. take (n + more) (take len text ++ new)) (sym size)
    ∙ take-append-add (take len text) new more

pub pieces-preserved : goal.pieces-preserved
pieces-preserved g c =
    let read = Consumes-trans _ _ _ (take c.pieces.len c.pieces.text) (take c.in-Ok.more c.read.new.into) c.pieces.invariant.taken c.in-Ok.ensures.gives.0 in
    record {
      reads = OnlyReads-trans _ _ _ _ c.pieces.invariant.reads
          (record { keeps = c.read.ensures.keeps; keeps_other = c.read.ensures.keeps_other; opens_none = c.read.ensures.opens_none });
      once = once-read PlanSlot _ _ _ _ quiet-none c.pieces.invariant.once c.read.ensures.keeps_other c.read.ensures.opens_none c.in-Ok.ensures.cause.kept;
      fits = Prim.search rules;
      size = Prim.search rules;
      unended = reads-on _ _ _ _ _ c.pieces.invariant.unended c.in-Ok.ensures.gives c.if-more-eq0.false;
      taken = subst (λ (l : List ℕ). Consumes ((g.I.Inputs.state c.args.inputs.now).given PlanSlot) ((g.I.Inputs.state c.read.new.self).given PlanSlot) l) (sym (read_behind c.pieces.len (length c.pieces.text - c.pieces.len) c.in-Ok.more c.pieces.text c.read.new.into c.pieces.invariant.fits (Prim.search rules))) read;
    }

pub returns-in_default-clause-once : goal.returns-in_default-clause-once
returns-in_default-clause-once g c = search (rules, arith, once-unread)

pub returns-then-more-eq0-clause-once : goal.returns-then-more-eq0-clause-once
returns-then-more-eq0-clause-once g c =
    once-read PlanSlot _ _ _ _ quiet-none c.pieces.invariant.once c.read.ensures.keeps_other c.read.ensures.opens_none c.in-Ok.ensures.cause.kept

pub returns-in_default-clause-reason : goal.returns-in_default-clause-reason
returns-in_default-clause-reason g c = (refl, Rose-kept _ _ _ (c.pieces.invariant.once.reads PlanSlot) c.in_default.ensures.cause.once)

pub returns-in_default-clause-unended : goal.returns-in_default-clause-unended
returns-in_default-clause-unended g c = fails-on _ _ _ c.pieces.invariant.unended c.in_default.ensures.gives
