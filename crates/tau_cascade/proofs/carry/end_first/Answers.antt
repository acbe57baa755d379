use Rattle.std.proofs.{Common.{add-one, refl, true, ℕ, ◌+◌, ◌<◌, ◌++◌, List, [], ◌∷◌, arith, rules}, Math.Logic.∥∥₁_map}
use Rattle.{tally_base.specs.{Settings.{correlation_view, CorrelationView}, Tally.History}, lag_ring.specs.declared.ring.Entry.Entry}
use Rattle.tau_cascade.specs.{declared.level.{Level.Level, Coming.Coming}, Levels.LevelIs, Bins.{Come, CanTake, CanCome}, Opens.{coming_bins, closed_bins}}
use Rattle.tau_cascade.proofs.{Follows.{can_take, goes_up, up_one}, carry.end_first.{Goals.After-end-next, Given.Over}}
use Rattle.tau_cascade.proofs.carry.end_first.Goals as goal

-- the open bins in the end, from level to level

module _ (set : CorrelationView) (level : ℕ) (l : Level) (ls : List Level) (came : History) (can : CanCome set level (l ∷ ls) [] came []) where
  abbrev may : CanTake set level l [] can.chain.0 can.chain.1 []
  may = can_take set level l ls [] came [] can

  -- the bins that are closed then come to the next level
  next_come : (next : Coming) (list : List Entry) → 0 < next.levels → Come set level can.chain.0 (closed_bins next list) can.chain.1 → CanCome set (level + 1) ls (coming_bins next list) can.chain.0 can.chain.1
  next_come next list some come = rw (add-one, ← up_one next list some) (record { few = omega (arith, may.few); chain = can.chain.4; come = goes_up set level _ can.chain.0 can.chain.1 come })

pub end-next-requires : goal.end-next-requires
end-next-requires g c = record {
  room = (search (rules, arith), omega arith, c.empty-scratch.ensures);
  stands = ∥∥₁_map c.requires.stands (λ w. (w.1.chain.0, w.1.chain.1, may (correlation_view c.args.set.now) c.args.level _ _ w.0 w.1));
}

module _ (g : Over) (c : After-end-next g) (came : History) (can : CanCome (correlation_view c.args.set.now) c.args.level (c.args.first.now ∷ c.args.rest.now) [] came []) where
  ended : LevelIs (correlation_view c.args.set.now) c.args.level true c.end-next.new.self (can.chain.0 ++ can.chain.1) [] × Come (correlation_view c.args.set.now) c.args.level can.chain.0 (closed_bins c.end-next.result c.end-next.new.list) can.chain.1
  ended = c.end-next.ensures.follows can.chain.0 can.chain.1 (may (correlation_view c.args.set.now) c.args.level _ _ came can)

  coming : CanCome (correlation_view c.args.set.now) (c.args.level + 1) c.args.rest.now (coming_bins c.end-next.result c.end-next.new.list) can.chain.0 can.chain.1
  coming = next_come _ _ _ _ _ can c.end-next.result c.end-next.new.list c.end-next.ensures.goes.some ended.1

pub carry_all-requires-clause-stands : goal.carry_all-requires-clause-stands
carry_all-requires-clause-stands g c = rw c.end-next.ensures.goes.up (∥∥₁_map c.requires.stands (λ w. (w.1.chain.0, w.1.chain.1, coming g (goal.at.carry_all-requires-clause-stands g c).After-end-next w.0 w.1)))

pub returns-clause-first : goal.returns-clause-first
returns-clause-first g c = λ came can. rw can.chain.2 (ended g (goal.at.returns-clause-first g c).After-end-next came can).0

pub returns-clause-rest : goal.returns-clause-rest
returns-clause-rest g c = λ came can.
    let up = (rw c.end-next.ensures.goes.up at c.carry_all.ensures.follows) in
    record { few = can.few; come = refl; chain = rw can.chain.2 (up can.chain.0 can.chain.1 (coming g (goal.at.returns-clause-rest g c).After-end-next came can)) }
