use Rattle.std.proofs.{Common.{rules, arith, nat_lt}, lemmas.List.Sorted.{IsPartitionPoint-from_clause, IsPartitionedBy-ltb}}
use Rattle.{lag_ring.specs.declared.ring.Entry.Entry, coincidence.proofs.LagPairs.{never-falls, split-rising}}
use Rattle.coincidence.proofs.stretch.count_below.Goals as goal

pub returns-clause-below : goal.returns-clause-below
returns-clause-below c =
    let point = IsPartitionPoint-from_clause (λ (e : Entry). nat_lt e.index c.args.index) c.args.entries.now _ c.partition_point.ensures.partitioned
    (IsPartitionedBy-ltb (λ (e : Entry). e.index) c.args.entries.now c.args.index (never-falls _ c.requires.rising)) (λ a r f' k. search rules) in
    (split-rising c.args.entries.now _ c.args.index c.requires.rising (λ i inside e. point.0 i e (omega arith) inside) (λ i from inside e. point.1 i e from inside)).0

pub returns-clause-above : goal.returns-clause-above
returns-clause-above c =
    let point = IsPartitionPoint-from_clause (λ (e : Entry). nat_lt e.index c.args.index) c.args.entries.now _ c.partition_point.ensures.partitioned
    (IsPartitionedBy-ltb (λ (e : Entry). e.index) c.args.entries.now c.args.index (never-falls _ c.requires.rising)) (λ a r f' k. search rules) in
    (split-rising c.args.entries.now _ c.args.index c.requires.rising (λ i inside e. point.0 i e (omega arith) inside) (λ i from inside e. point.1 i e from inside)).1
