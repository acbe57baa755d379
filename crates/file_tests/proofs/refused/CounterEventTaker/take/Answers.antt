use Rattle.{std.proofs.Common.{◌+◌, ◌∷◌, [], ◌∙◌, arith, length-append}, ptu_definitions.specs.Kept.Marked, abs_time.proofs.Floors.moved_floor-push}
use Rattle.file_tests.proofs.refused.CounterEventTaker.take.Goals as goal

pub returns-clause-follows : goal.returns-clause-follows
returns-clause-follows c = λ start l is.
    let event = c.args.event.now in
    let one : Marked = (event, c.args.late) ∷ [] in
    let in_order = rw is.0 at c.requires.in_order in
    let moved = rw is.0 at c.moved_floor-self.ensures in
    (is.0, omega (arith, is.1, length-append l one), moved ∙ moved_floor-push start.mode start.floor c.args.self.now.floor l event c.args.late is.2 in_order)
