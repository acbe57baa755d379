use Rattle.tally_engine.{specs.contracts.part.PartTally.TheImpl.ghosts, proofs.Takes.gave_late}
use Rattle.tally_engine.proofs.part_taker.PartTakerEventTaker.take.Goals as goal

pub returns-then-late-clause-follows : goal.returns-then-late-clause-follows
returns-then-late-clause-follows g c = λ start l gave. rw c.if-late.true (gave_late ghosts _ _ _ _ _ _ _ _ _ _ l c.args.event.now gave)
