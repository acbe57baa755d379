use Rattle.{std.proofs.{Common.{refl, []}, Math.Logic.∥∥₁_map}, coincidence.proofs.Visits.shuts}
use Rattle.coincidence.proofs.pairing.Pairing.end.Goals as goal

pub close-requires : goal.close-requires
close-requires g c = record { stands = ∥∥₁_map c.requires.stands (λ w. ([], w.0, shuts _ _ _ [] _ _ (rw c.in-Some.is at w.1.was) w.1.few)) }

pub returns-in-Some : goal.returns-in-Some
returns-in-Some g c = record {
  follows = λ came can. record { shut = refl; pending = c.close.ensures.follows [] came (shuts _ _ _ [] _ _ (rw c.in-Some.is at can.was) can.few) };
  steps = c.close.ensures.steps;
}
