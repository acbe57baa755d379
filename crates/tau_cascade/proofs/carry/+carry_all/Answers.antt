use Rattle.{std.proofs.{Common.{false, ℕ, ◌+◌, ◌<◌, List, ◌∷◌, ◌++◌, add-one, rules, arith}, Math.Logic.∥∥₁_map}, tally_base.specs.Settings.CorrelationView}
use Rattle.{tally_base.specs.{Settings.correlation_view, Tally.History}, lag_ring.specs.declared.ring.Entry.Entry, tau_cascade.specs.declared.level.Level.Level}
use Rattle.tau_cascade.specs.{declared.level.Coming.Coming, Levels.Chain, Bins.{CanCome, Takes, Carries}, Opens.{coming_bins, closed_bins}}
use Rattle.tau_cascade.proofs.Follows.{can_take, come_on, chain_took, up_one}
use Rattle.tau_cascade.proofs.carry.+carry_all.Goals as goal

module _ (set : CorrelationView) (level : ℕ) (l l' : Level) (ls : List Level) (es bins : List Entry) (coming : Coming) (some : 0 < coming.levels)
    (follows : Takes set level l l' es (closed_bins coming bins)) (came xs : History) (can : CanCome set level (l ∷ ls) es came xs) where
  gone_on : (came' : History) × (xs' : History) × CanCome set (level + 1) ls (coming_bins coming bins) came' xs'
  gone_on =
      let took = follows can.chain.0 can.chain.1 xs (can_take set level l ls es came xs can) in
      (can.chain.0, took.0, rw (add-one, ← up_one coming bins some) (come_on set level l ls es came xs can l' _ took.0 took.1 took.2))

  carried : (ls' : List Level) → Carries set (level + 1) ls ls' (coming_bins coming bins) → Chain false set level (l' ∷ ls') (came ++ xs)
  carried ls' carries =
      let took = follows can.chain.0 can.chain.1 xs (can_take set level l ls es came xs can) in
      chain_took set level l ls es came xs can l' _ took.0 took.1 took.2 ls' (λ came' xs' may. carries came' xs' (rw (← up_one coming bins some) may))

pub take-next-requires-clause-stands : goal.take-next-requires-clause-stands
take-next-requires-clause-stands g t c = ∥∥₁_map c.requires.stands (λ w.
    let can = (rw c.in-Some.ensures.cases.0 at w.2) in
    (can.chain.0, can.chain.1, w.1, can_take (correlation_view c.args.set.now) c.args.coming.level _ _ (coming_bins c.args.coming c.args.list.now) w.0 w.1 can))

pub carry_all-requires : goal.carry_all-requires
carry_all-requires g t c κs within =
    let stands = ∥∥₁_map c.requires.stands (λ w. gone_on _ _ _ _ _ (coming_bins c.args.coming c.args.list.now) c.take-next.new.list c.take-next.result
    c.take-next.ensures.goes.some c.take-next.ensures.follows w.0 w.1 (rw c.in-Some.ensures.cases.0 at w.2)) in
    rw c.take-next.ensures.goes.up (search (rules, arith))

pub returns-in-Some-clause-follows : goal.returns-in-Some-clause-follows
returns-in-Some-clause-follows g t c = λ came xs given.
    carried _ _ _ _ _ (coming_bins c.args.coming c.args.list.now) c.take-next.new.list c.take-next.result
    c.take-next.ensures.goes.some c.take-next.ensures.follows came xs (rw c.in-Some.ensures.cases.0 at given) _ (rw c.take-next.ensures.goes.up at c.carry_all.ensures.follows)
