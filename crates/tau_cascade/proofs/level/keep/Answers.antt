use Rattle.{std.proofs.{Common.{rules, arith}, lemmas.List.{take_rest, length-map}}, tau_cascade.proofs.Near.{kept_bins, laid_kept}}
use Rattle.tau_cascade.proofs.level.keep.Goals as goal

pub merge-count-requires : goal.merge-count-requires
merge-count-requires c =
    search (rules, arith, laid_kept, kept_bins _ _ _ _ c.requires.list.1 c.first_kept-first.ensures.left c.first_kept-first.ensures.kept, length-map, take_rest)
