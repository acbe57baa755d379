use Rattle.{std.proofs.Common.{refl, ◌∙◌}, bench_io.proofs.Texts.{writes-flushed, writes-unflushed}, gate_plan.specs.Groups.sorting_of}
use Rattle.{record_stream.{specs.Standing.how_of, proofs.Lasts.streamed-clear}, photon_pick.specs.{declared.taker.Picks.Picks, Chosen.is_chosen, Giving.stand}}
use Rattle.photon_pick.{specs.Giving.{pen_on, took_none}, proofs.Ends.ends-on}
use Rattle.photon_pick.proofs.end.end_picks.Goals as goal

pub returns-in-Ok-clause-writes : goal.returns-in-Ok-clause-writes
returns-in-Ok-clause-writes g c = λ bytes h has.
    let picks = c.args.picks.now in
    let it = ends-on _ _ _ (λ (t : Picks g.row.O.Denot g.O.Sink). stand (is_chosen (sorting_of t.gates.now) t.group) (pen_on g.O.Sink t.picker.now t.out.now t.block) t.mode t.taken t.floor t.fault)
    (is_chosen (sorting_of picks.gates.now) picks.group) (how_of c.args.stream) refl (picks.of_mode ∙ c.requires.begins.same_mode) c.requires.begins.empty (took_none _) (λ l is. is) (λ l is. is c.requires.unrefused) bytes (streamed-clear _ _ _ _ _ _ _ bytes h c.requires.going) has
    c.requires.unrefused c.finish-finished.result (c.finish-finished.ensures.answer (λ bad. let going = c.requires.going in cc) bytes h) in
    rw c.answer_at_end.ensures (writes-flushed _ _ _ _ _ _ _ _ c.in-Ok.ensures.all it)

pub returns-in-Err-clause-writes : goal.returns-in-Err-clause-writes
returns-in-Err-clause-writes g c = λ bytes h has.
    let picks = c.args.picks.now in
    let it = ends-on _ _ _ (λ (t : Picks g.row.O.Denot g.O.Sink). stand (is_chosen (sorting_of t.gates.now) t.group) (pen_on g.O.Sink t.picker.now t.out.now t.block) t.mode t.taken t.floor t.fault)
    (is_chosen (sorting_of picks.gates.now) picks.group) (how_of c.args.stream) refl (picks.of_mode ∙ c.requires.begins.same_mode) c.requires.begins.empty (took_none _) (λ l is. is) (λ l is. is c.requires.unrefused) bytes (streamed-clear _ _ _ _ _ _ _ bytes h c.requires.going) has
    c.requires.unrefused c.finish-finished.result (c.finish-finished.ensures.answer (λ bad. let going = c.requires.going in cc) bytes h) in
    writes-unflushed _ _ _ _ _ _ _ _ c.in-Err.ensures.short it
