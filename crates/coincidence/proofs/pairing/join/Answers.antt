use Rattle.std.proofs.{Common.{rules, ◌≡◌, ◌∙◌, ◌+◌, ◌^◌, ◌<◌, Some, List, length, ap, arith, append-nil, length-append}, Props.props, Math.Logic.∥∥₁_elim}
use Rattle.{std.proofs.lemmas.List.Sums.count_by-le-length, tally_base.specs.{Settings.CoincidenceView, Tally.History}, lag_ring.specs.{Cells.Cells, Ring.Ring}}
use Rattle.coincidence.{specs.{declared.pairing.Bin.Bin, Pairing.{Gathered, CanPut}}, proofs.Visits.{joins, moves}}
use Rattle.coincidence.proofs.pairing.join.Goals as goal

-- the open bin can take more photons of its tick
fits : (set : CoincidenceView) (r : Ring) (counts : Cells) (bins : List Bin) (last bin : Bin) (came xs : History) → CanPut set (Gathered set (Some last) r counts bins) bin came xs
    → (last.weights.a + bin.weights.a < 2 ^ 64) × (last.weights.b + bin.weights.b < 2 ^ 64) × (last.both + bin.both < 2 ^ 64)
fits set r counts bins last bin came xs can =
    let was = can.was in
    let all : length came ≡ length was.shut + length was.rest = ap length was.parts ∙ length-append was.shut was.rest in (
      omega (arith, all, can.few, was.opened.0.weighs.a, can.is.weighs.a, count_by-le-length),
      omega (arith, all, can.few, was.opened.0.weighs.b, can.is.weighs.b, count_by-le-length),
      omega (arith, all, can.few, was.opened.0.both, can.is.both, count_by-le-length),
    )

pub with-requires : goal.with-requires
with-requires c =
    let few = ∥∥₁_elim c.requires.stands (hlevel props) (λ w. fits _ _ _ _ _ _ _ _ (rw c.in-Some.is at w.6)) in
    record { a = few.0; b = few.1; both = few.2 }

pub returns-then-open-bin : goal.returns-then-open-bin
returns-then-open-bin c = search (rules, arith, append-nil, joins)

pub returns-else-open-bin : goal.returns-else-open-bin
returns-else-open-bin c = record { follows = λ set ring cells bins came xs can. moves _ _ _ _ _ _ _ _ (rw c.in-Some.is at can) c.if-open-bin.false }

pub returns-in-None : goal.returns-in-None
returns-in-None c = search (rules, arith, append-nil)
