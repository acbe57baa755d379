use Rattle.std.specs.{Prelude.{◌≡◌, ◌++◌}, Vec.Iter.{into_iter_items, into_iter_len}}
use Rattle.ptu_cli.proofs.top.behind_first.Given as goal

-- the words so far and those that are left are those after the first
abbrev pub invariant-words : goal.invariant-words
invariant-words l = l.line.items ++ into_iter_items l.args ≡ into_iter_items l.initial.args

abbrev pub decreases-words : goal.decreases-words
decreases-words l = into_iter_len l.args
