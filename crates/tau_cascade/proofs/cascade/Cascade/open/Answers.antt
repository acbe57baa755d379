use Rattle.std.proofs.{Common.{false, arith, zero-add, rules, ◌≡◌, ℕ, suc, ◌+◌, List, [], ◌∷◌, ◌++◌, length, refl, add-zero}, lemmas.List.Sums.sum_by_push}
use Rattle.{tally_base.specs.Settings.CorrelationView, tau_cascade.specs.{declared.level.Level.Level, Levels.{LevelIs, Chain}}}
use Rattle.tau_cascade.proofs.cascade.Cascade.open.Goals as goal

-- levels to which nothing came
nil_left : {X : Type 0} (xs ys : List X) → [] ≡ xs ++ ys → xs ≡ []
nil_left [] ys same = refl
nil_left (x ∷ xs) ys same = cc

-- one level more, to which nothing came either
chain_more : (set : CorrelationView) (level : ℕ) (ls : List Level) (l : Level) → Chain false set level ls []
    → LevelIs set (level + length ls) false l [] [] → Chain false set level (ls ++ l ∷ []) []
chain_more set level [] l chain is = ([], [], refl, (rw add-zero at is), tt)
chain_more set level (x ∷ ls) l chain is =
    let none : chain.0 ≡ [] = nil_left chain.0 chain.1 chain.2 in
    let next : suc level + length ls ≡ level + length (x ∷ ls) = omega arith in
    (chain.0, chain.1, chain.2, chain.3, rw none (chain_more set (suc level) ls l ((rw none at chain.4)) (rw next is)))

pub loop-level-preserved : goal.loop-level-preserved
loop-level-preserved c = search (rules, arith, chain_more, zero-add, sum_by_push)
