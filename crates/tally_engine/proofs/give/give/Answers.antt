use Rattle.{tally_base.specs.Columns.gathered, gate_plan.specs.Groups.sorting_of, tally_engine.specs.contracts.part.PartTally.TheImpl.ghosts}
use Rattle.tally_engine.proofs.Takes.{can_take-shifted, took-shifted}
use Rattle.tally_engine.proofs.give.give.Goals as goal

pub give_all-requires : goal.give_all-requires
give_all-requires g c = record {
  sorted = c.sort_events.ensures.ready;
  may = λ k d within. can_take-shifted ghosts (sorting_of c.args.gates.now) (gathered c.args.block.now)
      (gathered c.sort_events.new.block) _ c.sort_events.ensures.shifted (c.requires.may k d within);
}

pub returns-then-len-gt0 : goal.returns-then-len-gt0
returns-then-len-gt0 g c = record {
  took = λ k d within. took-shifted ghosts (sorting_of c.args.gates.now) (gathered c.args.block.now) (gathered c.sort_events.new.block) _ _ _
      c.sort_events.ensures.shifted (rw c.sort_events.ensures.sorted at (c.give_all.ensures.took k d within));
}
