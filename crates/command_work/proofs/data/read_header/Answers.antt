use Rattle.std.proofs.{Common.{arith, [], ◌++◌, Ok, Err, take, refl, sym, ap, ◌∙◌, append-nil, inr, rules}, lemmas.{List.length-take, Slice.between_is}}
use Rattle.{tally_base.{specs.declared.slot.Slot.TheVariants.Data, proofs.Reasons.HasReason-inside}, bench_io.proofs.States.{Consumes-nil, Consumes-kept}}
use Rattle.{bench_io.proofs.States.{Consumes-trans, OnlyReads-refl}, command_work.proofs.Pieces.{IsCut-nil, some_used, stops-unread, stops-piece}}
use Rattle.command_work.proofs.{Told.{Decides-shown, reads-on, fails-on}, Once.{Rose-kept, quiet-none, quiet-inside, once-refl, once-read, once-unread}}
use Rattle.{command_work.specs.Outcomes.IsCut, ptu_definitions.specs.Headers.header_answer}
use Rattle.command_work.proofs.data.read_header.Goals as goal

pub returns-then-len-eq0-clause-reason : goal.returns-then-len-eq0-clause-reason
returns-then-len-eq0-clause-reason g c = HasReason-inside _ _ _ _ c.finish.result c.finish.ensures.inside

-- a header that ended before this piece would not be cut
pub returns-in-Done : goal.returns-in-Done
returns-in-Done g c =
    let so_far = c.pieces.invariant.taken in
    let piece = take c.in-Ok.len c.read.new.into in
    let took = Consumes-trans _ _ _ so_far.0 piece so_far.1 c.in-Ok.ensures.gives.0 in
    let step = c.in-Done.ensures.ends so_far.0 so_far.2 in
    record {
      reads = Prim.search rules;
      reason = tt;
      once = once-read Data _ _ _ _ quiet-none c.pieces.invariant.once c.read.ensures.keeps_other c.read.ensures.opens_none c.in-Ok.ensures.cause.kept;
      part = record { ended = some_used so_far.0 piece c.in-Done.used c.in-Done.header so_far.3 step.2; order = omega (arith, step.0, length-take c.in-Ok.len c.read.new.into); within = omega (arith, c.in-Ok.ensures.bound) };
      answer = (so_far.0 ++ piece, took, λ more. step.1 more ∙ ap (λ l. Ok (c.in-Done.header, l ++ more)) (sym (between_is c.read.new.into c.in-Done.used c.in-Ok.len)));
      stops = stops-piece IsCut so_far.0 c.in-Ok.len c.read.new.into _ _ _ _ so_far.1 c.in-Ok.ensures.gives so_far.3 (omega (arith, c.requires.small, c.pieces.auto.buffer, c.read.auto.into)) tt
          (reads-on _ _ _ _ _ c.pieces.invariant.unended c.in-Ok.ensures.gives c.if-len-eq0.false);
    }

pub returns-in-Refused : goal.returns-in-Refused
returns-in-Refused g c =
    let so_far = c.pieces.invariant.taken in
    let piece = take c.in-Ok.len c.read.new.into in
    let took = Consumes-trans _ _ _ so_far.0 piece so_far.1 c.in-Ok.ensures.gives.0 in
    let fault = c.in-Refused.fault in
    let inside = c.in-Refused.ensures.inside in
    record {
      reads = Prim.search rules;
      reason = HasReason-inside _ _ _ _ fault inside;
      once = once-read Data _ _ _ _ (quiet-inside fault inside) c.pieces.invariant.once c.read.ensures.keeps_other c.read.ensures.opens_none c.in-Ok.ensures.cause.kept;
      part = tt;
      answer = (so_far.0 ++ piece, took, inr (Decides-shown header_answer (so_far.0 ++ piece) _ (Err fault) (c.in-Refused.ensures.ends so_far.0 so_far.2)));
      stops = stops-piece IsCut so_far.0 c.in-Ok.len c.read.new.into _ _ _ _ so_far.1 c.in-Ok.ensures.gives so_far.3 (omega (arith, c.requires.small, c.pieces.auto.buffer, c.read.auto.into)) inside tt;
    }

pub returns-then-len-eq0-clause-answer : goal.returns-then-len-eq0-clause-answer
returns-then-len-eq0-clause-answer g c = search (rules, arith, append-nil)

pub pieces-init : goal.pieces-init
pieces-init g c = record { reads = OnlyReads-refl _ _; taken = ([], Consumes-nil _, c.new-reader.ensures.start, IsCut-nil); is_open = c.new-reader.ensures.is_open; unended = record { said_before = λ ended. ended }; once = once-refl _ _ quiet-none }

pub returns-in_default-clause-stops : goal.returns-in_default-clause-stops
returns-in_default-clause-stops g c =
    let so_far = c.pieces.invariant.taken in
    stops-unread IsCut so_far.0 _ _ _ (Consumes-kept _ _ _ so_far.0 so_far.1 c.in_default.ensures.gives) so_far.3
    (fails-on _ _ _ c.pieces.invariant.unended c.in_default.ensures.gives)

pub returns-then-len-eq0-clause-stops : goal.returns-then-len-eq0-clause-stops
returns-then-len-eq0-clause-stops g c =
    stops-piece IsCut _ c.in-Ok.len c.read.new.into _ _ _ _ c.pieces.invariant.taken.1 c.in-Ok.ensures.gives c.pieces.invariant.taken.3
    (omega (arith, c.requires.small, c.pieces.auto.buffer, c.read.auto.into)) c.finish.ensures.inside tt

pub returns-in_default-clause-once : goal.returns-in_default-clause-once
returns-in_default-clause-once g c = search (rules, arith, once-unread)

pub returns-then-len-eq0-clause-once : goal.returns-then-len-eq0-clause-once
returns-then-len-eq0-clause-once g c = search (rules, arith, once-read, quiet-inside)

pub returns-in_default-clause-reason : goal.returns-in_default-clause-reason
returns-in_default-clause-reason g c = (refl, Rose-kept _ _ _ (c.pieces.invariant.once.reads Data) c.in_default.ensures.cause.once)
