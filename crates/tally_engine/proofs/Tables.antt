-- What holds of a table of any kind, and of the tables of a plan.
use Rattle.{std.proofs.{Common.{◌≡◌, ◌≤◌, List, [], ◌∷◌, length, arith, sum_by}, lemmas.List.Sums.sum_by-cons}, tally_base.specs.Settings.{entries, is_strict}}
use Rattle.{tally_base.specs.Tally.{History, greatest_time}, tau_cascade.proofs.Work.work_within, tally_engine.specs.declared.part.Part.Part}
use Rattle.tally_engine.specs.{declared.part.Part.TheVariants.Correlation as InCorrelation, contracts.part.PartTally.TheImpl.ghosts, Part.laws_of}
use Rattle.tally_engine.specs.Parts.{settings_in, entries_in, IsWithinWork}

pub part_taken : (p : Part) (h : History) → ghosts.holds p h → ghosts.taken p ≡ length h
part_taken p = (laws_of p).taken_is

pub part_floor : (p : Part) (h : History) → ghosts.holds p h → ghosts.floor p ≡ greatest_time (is_strict (ghosts.settings p)) h
part_floor p = (laws_of p).floor_is

part_within : (p : Part) → ghosts.held p ≤ entries (ghosts.settings p)
part_within p = (laws_of p).within

-- The tables keep no more entries than their settings say.
pub tables_within : (parts : List Part) → entries_in parts ≤ sum_by entries (settings_in parts)
tables_within [] = omega arith
tables_within (p ∷ parts) =
    omega (arith, part_within p, tables_within parts, sum_by-cons ghosts.held p parts, sum_by-cons entries (ghosts.settings p) (settings_in parts))

-- What a correlation spent on the events that it stands for is within their work.
pub part_worked : (h : History) (p : Part) → ghosts.holds p h → IsWithinWork h p
part_worked h (InCorrelation t) is = work_within t h is
part_worked h _ is = tt
