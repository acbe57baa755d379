use Rattle.{std.proofs.Common.{◌≡◌, ◌++◌, map, take}, tally_engine.specs.Parts.{settings_in, AllOpened}}
use Rattle.tally_engine.proofs.open.open_list.Given as goal

abbrev pub invariant-loop-set : goal.invariant-loop-set
invariant-loop-set g l = record {
  settings : settings_in l.parts.items ≡ settings_in l.initial.parts.items ++ map g.S.OpensPart.settings (take l.set-index l.sets);
  opened : AllOpened l.initial.parts.items → AllOpened l.parts.items;
}
