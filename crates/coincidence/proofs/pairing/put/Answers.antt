use Rattle.{std.proofs.{Common.{[], refl}, Math.Logic.∥∥₁_map}, tally_base.specs.Settings.coincidence_view, coincidence.proofs.Visits.close_on}
use Rattle.coincidence.proofs.pairing.put.Goals as goal

pub join-closed-requires : goal.join-closed-requires
join-closed-requires g c = record { stands = ∥∥₁_map c.requires.stands (λ w. (coincidence_view c.args.set.now, c.args.pairing.now.ring, c.args.pairing.now.cells, [], w.0, w.1, w.2)) }

pub close-requires : goal.close-requires
close-requires g c = record {
  stands = ∥∥₁_map c.requires.stands (λ w. let now = c.join-closed.ensures.follows _ _ _ [] w.0 w.1 w.2 in ([], now.shut, rw c.in-Some.is at now.pending));
}

pub returns-in-Some : goal.returns-in-Some
returns-in-Some g c = record {
  follows = λ came xs can. let now = c.join-closed.ensures.follows _ _ _ [] came xs can in close_on _ _ _ _ _ _ _ _ [] now (c.close.ensures.follows [] now.shut (rw c.in-Some.is at now.pending));
  steps = c.close.ensures.steps;
}

pub returns-in_default : goal.returns-in_default
returns-in_default g c = record { follows = λ came xs can. rw c.in_default.is at (c.join-closed.ensures.follows _ _ _ [] came xs can); steps = refl }
