use Rattle.std.proofs.{Common.{[], refl, rules, arith}, lemmas.{List.get_or-replicate, Grind.common_steps}}
use Rattle.coincidence.proofs.pairing.Pairing.open.Goals as goal

pub returns-clause-empty : goal.returns-clause-empty
returns-clause-empty c = record {
  shut = [];
  rest = [];
  parts = refl;
  pending = record { closed = []; late = []; parts = refl; few = omega arith; are = refl; ring = search (rules, arith); cells = record { count = grind (arith, common_steps, c.in_ok-open-2.ensures.zeros, c.cells_of.ensures); pairs = λ at inside. search (rules, arith, get_or-replicate); work = search (rules, arith) } };
  opened = (refl, refl);
}
