use Rattle.{std.{proofs.Common.{rules, ◌≡◌, ℕ, ◌+◌, ◌≤◌, ◌++◌, ◌∷◌, [], List, take, arith}, specs.List.AllByRecursion}, lag_ring.proofs.Rising.all_push}
use Rattle.lag_ring.proofs.bytes.put_spot.Goals.{then-times-gt1, else-times-gt1}
use Rattle.lag_ring.proofs.bytes.put_spot.Goals as goal

-- what holds of each holds of one more, or of none
none_or_one : (P : ℕ → Type 0) (xs ys : List ℕ) (count times spot : ℕ) → times ≤ 1 → take count ys ≡ take count xs
    → (times ≡ 1 → take (count + 1) ys ≡ take count xs ++ spot ∷ []) → P spot → AllByRecursion P (take count xs) → AllByRecursion P (take (count + times) ys)
none_or_one P xs ys count times spot few same once is all = search (rules, arith, all_push)

pub returns-clause-within : goal.returns-clause-within
returns-clause-within c = λ n upto all. elim c.if-times-gt1.branch [
  | then-times-gt1 w ↦ rw w.spots-is (w.put_times.ensures.within n upto all)
  | else-times-gt1 w ↦ rw w.spots-is (none_or_one (λ s. s ≤ n) c.args.spots.now w.put_once.new.spots c.args.count c.args.times c.args.spot (omega (arith, w.if-times-gt1.false)) w.put_once.ensures.others
      (λ one. w.put_once.ensures.once (omega (arith, one, c.requires.room))) upto all)
]
