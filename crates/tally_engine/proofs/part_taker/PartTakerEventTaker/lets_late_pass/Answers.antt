use Rattle.tally_engine.specs.{contracts.part.PartTally.TheImpl.ghosts, Give.gave_alike}
use Rattle.tally_engine.proofs.part_taker.PartTakerEventTaker.lets_late_pass.Goals as goal

pub returns : goal.returns
returns g c = λ pass. record { passes = λ s t l m. gave_alike ghosts _ _ _ _ _ _ _ _ _ _ l m; unbroken = λ s t l broke. broke }
