use Rattle.{std.proofs.{Common.{◌∙◌, refl, sym, append-nil}, lemmas.Result.err_from_is_err_and}, file_work.proofs.EventSteps.{Listed-more, ListedShort-more}}
use Rattle.file_work.proofs.EventSteps.{floor-event}
use Rattle.file_work.proofs.events.EventLinesEventTaker.take.Goals as goal

pub returns-in_err-put-clause-broken : goal.returns-in_err-put-clause-broken
returns-in_err-put-clause-broken g c =
    let p = err_from_is_err_and c.from_residual.result c.from_residual.ensures.1 in
    rw p.1 (λ start l h. ListedShort-more l _ _ h (c.format_event-text.ensures.text ∙ sym (append-nil _)) c.in_err-put.ensures.short c.in_err-put.ensures.empty)

pub returns-clause-follows : goal.returns-clause-follows
returns-clause-follows g c = λ start l h. Listed-more l _ _ h refl refl (c.format_event-text.ensures.text ∙ sym (append-nil _)) c.in_ok-put.ensures.all refl (floor-event _ _ _ _ _ l _ _ c.requires.in_order c.moved_floor-self.ensures)
