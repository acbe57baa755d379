use Rattle.{std.proofs.Common.{◌-◌, ◌∙◌, refl, arith}, coincidence.{specs.Pairing.Came, proofs.Passed.lone_run}}
use Rattle.coincidence.proofs.lone.pass_lone.Goals as goal

pub returns-then-to-at-clause-follows : goal.returns-then-to-at-clause-follows
returns-then-to-at-clause-follows c = λ p cells h can came.
    let to = c.lone_upto-to.result in
    rw (c.restart.ensures.alone, c.bin_in.ensures, c.bin_in-then-to-at.ensures) (lone_run _ (Came _ p) c.args.given.block.now h can c.args.given.set.some_reach.0 cells c.args.ring.now c.in-Some.bin c.args.at (c.if-bin-time.true ∙ c.time.ensures) (c.if-is_alone.ensures refl)
    (to - c.args.at - 3) to (omega (arith, c.if-to-at.true)) (omega (arith, c.lone_upto-to.ensures.upto.1)) c.lone_upto-to.ensures.lone (rw c.in-Some.is at came))
