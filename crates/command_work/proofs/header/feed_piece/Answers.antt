use Rattle.{std.proofs.Common.{[], ◌++◌, take, drop, ap, sym, ◌∙◌, append-nil, arith, rules}, ptu_definitions.specs.Headers.header_answer}
use Rattle.{ptu_header.specs.ReadHeader.{HasRead, bytes_taken}, command_work.proofs.Pieces.{whole-piece-more, Walked-next}}
use Rattle.command_work.proofs.header.feed_piece.Goals as goal

pub steps-smaller-in-Preamble : goal.steps-smaller-in-Preamble
steps-smaller-in-Preamble c = search (rules, arith)

pub steps-preserved-in-Preamble : goal.steps-preserved-in-Preamble
steps-preserved-in-Preamble c =
    Walked-next HasRead bytes_taken _ _ c.feed.new.self c.args.piece.now _ c.steps.used c.in-Preamble.more c.steps.invariant c.split_at.ensures.back
    c.in-Preamble.ensures.room.0 c.in-Preamble.ensures.room.1 (λ front h. (c.in-Preamble.ensures.step front h).1)

pub steps-smaller-in-Tag : goal.steps-smaller-in-Tag
steps-smaller-in-Tag c = search (rules, arith)

pub steps-preserved-in-Tag : goal.steps-preserved-in-Tag
steps-preserved-in-Tag c =
    Walked-next HasRead bytes_taken _ _ c.feed.new.self c.args.piece.now _ c.steps.used c.in-Tag.more c.steps.invariant c.split_at.ensures.back
    c.in-Tag.ensures.room.0 c.in-Tag.ensures.room.1 (λ front h. (c.in-Tag.ensures.step front h).1)

pub steps-smaller : goal.steps-smaller
steps-smaller c = search (rules, arith)

pub steps-preserved : goal.steps-preserved
steps-preserved c =
    Walked-next HasRead bytes_taken _ _ c.feed.new.self c.args.piece.now _ c.steps.used c.in-Body.more c.steps.invariant c.split_at.ensures.back
    c.in-Body.ensures.room.0 c.in-Body.ensures.room.1 (λ front h. (c.in-Body.ensures.step front h).1)

pub returns-in-Done-clause-ends : goal.returns-in-Done-clause-ends
returns-in-Done-clause-ends c = λ bytes h.
    let piece = c.args.piece.now in
    let step = c.in-Done.ensures.step (bytes ++ take c.steps.used piece) (c.steps.invariant.stood bytes h) in (
      c.steps.invariant.fits,
      λ more. ap header_answer (sym (whole-piece-more bytes piece more c.steps.used)) ∙ step.2 (drop c.steps.used piece ++ more),
      ap header_answer (sym (append-nil (bytes ++ take c.steps.used piece))) ∙ step.2 [],
    )
