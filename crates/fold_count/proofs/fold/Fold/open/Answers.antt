use Rattle.std.proofs.{Common.{◌≡◌, ◌^◌, ℕ, [], length, replicate, refl, ap, rules, arith, slice_index}, lemmas.Grind.common_steps}
use Rattle.{tally_base.specs.Settings.fold_view, lag_ring.specs.{declared.ring.Entry.Entry, Ring.Ring}, fold_count.specs.Folded.{Parted, as_met}}
use Rattle.fold_count.proofs.Pushed.{parted_empty}
use Rattle.fold_count.proofs.fold.Fold.open.Goals as goal

pub returns-clause-empty : goal.returns-clause-empty
returns-clause-empty c =
    let set = fold_view c.args.set in
    let none : Entry = record { index = 0; a = 0; b = 0 } in
    let ring = c.in_ok-ring.ring in
    let cells = c.in_ok-cells.cells.items in
    let empty : ring.entries ≡ [] = ap (λ (r : Ring). r.entries) c.in_ok-ring.ensures.empty in
    let filled : cells ≡ replicate (2 ^ length set.groups) 0 = search (rules, arith) in
    let nothing : (s : ℕ) → slice_index cells s ≡ 0 = λ s. grind (arith, common_steps) in
    let stands : Parted set cells (as_met ring none) 0 [] = rw empty (parted_empty set cells nothing) in
    record { counts = rw c.at.ensures stands; taken = refl; floor = refl }
