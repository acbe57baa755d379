use Rattle.std.proofs.{Common.{◌≡◌, ℕ, ◌+◌, List, length, None, OnOk, Result, refl, ◌∙◌, arith, rules}, lemmas.Result.on_ok_weaker}
use Rattle.{std.specs.declared.option.Option.Option, tally_base.specs.{declared.fault.Fault.Fault, Faults.fault_in}, gate_plan.specs.Groups.sorting_of}
use Rattle.record_stream.specs.{declared.stream.RecordStream.RecordStream, Standing.{how_of, refused_with, bytes_in}}
use Rattle.{record_write.specs.declared.picker.Picker.Picker, photon_pick.specs.{declared.taker.Picks.Picks, Chosen.is_chosen, Giving.{stand, pen_on}}}
use Rattle.{photon_pick.{specs.{Giving.took_none, Texts.answer_by, Pieces.{IsNoFurther, GoesOn}}, proofs.Feeds.feeds-on}, bench_io.proofs.Texts.writes-flushed}
use Rattle.bench_io.proofs.Texts.{writes-unflushed}
use Rattle.photon_pick.proofs.piece.feed_picks.Goals as goal

goes-on : (old new : RecordStream) (picker : Picker) (piece : List ℕ) (kept : Option Fault) (r : Result (Unit {0}) Fault) → refused_with new ≡ fault_in r
    → OnOk r (bytes_in new ≡ bytes_in old + length piece) → (kept ≡ None → OnOk r (IsNoFurther new picker))
    → OnOk (answer_by kept r) (GoesOn old new picker piece)
goes-on old new picker piece kept r refused counted behind = search (rules, arith)

pub returns-in-Ok-clause-writes : goal.returns-in-Ok-clause-writes
returns-in-Ok-clause-writes g c = λ bytes h has.
    let picks = c.args.picks.now in
    let it = feeds-on _ _ _ (λ (t : Picks g.row.O.Denot g.O.Sink). stand (is_chosen (sorting_of t.gates.now) t.group) (pen_on g.O.Sink t.picker.now t.out.now t.block) t.mode t.taken t.floor t.fault)
    (is_chosen (sorting_of picks.gates.now) picks.group) (how_of c.args.stream.now) refl (picks.of_mode ∙ c.requires.begins.same_mode) c.requires.begins.empty (took_none _) (λ l is. is) (λ l is. is c.requires.unrefused) _ _ has c.requires.unrefused c.feed-fed.result (c.feed-fed.ensures.fed c.requires.going bytes h) in
    rw c.answer.ensures (writes-flushed _ _ _ _ _ _ _ _ c.in-Ok.ensures.all it.0, it.1)

pub returns-in-Err-clause-writes : goal.returns-in-Err-clause-writes
returns-in-Err-clause-writes g c = λ bytes h has.
    let picks = c.args.picks.now in
    let it = feeds-on _ _ _ (λ (t : Picks g.row.O.Denot g.O.Sink). stand (is_chosen (sorting_of t.gates.now) t.group) (pen_on g.O.Sink t.picker.now t.out.now t.block) t.mode t.taken t.floor t.fault)
    (is_chosen (sorting_of picks.gates.now) picks.group) (how_of c.args.stream.now) refl (picks.of_mode ∙ c.requires.begins.same_mode) c.requires.begins.empty (took_none _) (λ l is. is) (λ l is. is c.requires.unrefused) _ _ has c.requires.unrefused c.feed-fed.result (c.feed-fed.ensures.fed c.requires.going bytes h) in
    (writes-unflushed _ _ _ _ _ _ _ _ c.in-Err.ensures.short it.0, tt)

pub returns-in-Ok-clause-goes_on : goal.returns-in-Ok-clause-goes_on
returns-in-Ok-clause-goes_on g c = search (rules, arith, goes-on, on_ok_weaker)

pub returns-in-Ok-clause-fed : goal.returns-in-Ok-clause-fed
returns-in-Ok-clause-fed g c = record { same_how = c.feed-fed.ensures.same_how; taken = c.feed-fed.ensures.taken; limit = c.feed-fed.ensures.limit }

pub returns-in-Err-clause-fed : goal.returns-in-Err-clause-fed
returns-in-Err-clause-fed g c = record { same_how = c.feed-fed.ensures.same_how; taken = c.feed-fed.ensures.taken; limit = c.feed-fed.ensures.limit }
