use Rattle.{std.proofs.Common.{arith, rules}, ptu_definitions.proofs.{SeenLemmas.{seen-header, seen_preamble-header}, SeenLaws.{seen-longest, seen-none}}}
use Rattle.ptu_definitions.proofs.laws.seen_longest.Goals as goal

pub returns : goal.returns
returns c = record {
  front = λ bytes start items front rest longest.
      let shown = seen-longest bytes start items front rest longest in
      record { preamble = shown.0; items_are = shown.1 };
  header = search (rules, arith, seen_preamble-header, seen-header);
  none = seen-none;
}
