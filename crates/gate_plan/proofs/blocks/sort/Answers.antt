use Rattle.{std.proofs.Common.refl, gate_plan.specs.Groups.sorting_of}
use Rattle.gate_plan.proofs.blocks.sort.Goals as goal

pub returns-in-Some : goal.returns-in-Some
returns-in-Some c = record {
  same = c.sort.ensures.kept.0;
  found = c.sort.ensures.found (sorting_of c.args.gates.now).groups (c.in-Some.ensures.tells _ refl);
  ready = c.sort.ensures.kept.1;
}
