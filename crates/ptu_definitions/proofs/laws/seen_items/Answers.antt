use Rattle.{std.proofs.{Common.arith, lemmas.Grind.common_steps}, ptu_definitions.proofs.SeenLemmas.{seen-tag, seen-body, seen-short, seen_preamble-short}}
use Rattle.ptu_definitions.proofs.laws.seen_items.Goals as goal

pub returns : goal.returns
returns c = grind (arith, common_steps, seen-tag, seen-body, seen_preamble-short, seen-short)
