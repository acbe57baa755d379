use Rattle.std.proofs.Common.{◌≡◌, ◌-◌, ◌∙◌, arith, ℕ, ◌^◌, ◌<◌, ◌≤◌, Bool, true, false, ◌&&◌, cond, nat_lt, ◌==◌, List, length, slice_index, rules}
use Rattle.{std.proofs.lemmas.List.{get_or_read, Sums.sum_by-le-sum_by}, tally_base.specs.{Settings.{fold_view, FoldView}, Tally.History}}
use Rattle.{lag_ring.specs.{declared.ring.Entry.Entry, Ring.Ring}, fold_count.specs.{FoldCounts.{seen_set, in_set}, Folded.{Counts, photons}}}
use Rattle.fold_count.proofs.Totals.{in_photons}
use Rattle.fold_count.proofs.fold.Fold.cell.Goals as goal

-- a cell is its count, and no greater while photons wait
cell_of : (closed : Bool) (set : FoldView) (cells : List ℕ) (ring : Ring) (bin : Entry) (s : ℕ) (h : History) → s < 2 ^ length set.groups
    → Counts closed set cells ring bin (photons set h) → (closed ≡ true → slice_index cells s ≡ in_set set s h) × (slice_index cells s ≤ in_set set s h)
cell_of true set cells ring bin s h inside is = let e = is s inside ∙ in_photons set s h in ((λ closed. e), omega (arith, e))
cell_of false set cells ring bin s h inside is =
    let fewer = sum_by-le-sum_by (λ x. cond (nat_lt x.0.time (bin.index - set.window) && (seen_set set (photons set h) x.0.time == s)) 1 0) (λ x. cond (seen_set set (photons set h) x.0.time == s) 1 0) (photons set h) (λ x. search (rules, arith)) in
    ((λ closed. cc), omega (arith, is.counted s inside, in_photons set s h, fewer))

pub returns-clause-photons : goal.returns-clause-photons
returns-clause-photons c = λ closed h is.
    let t = c.args.self.now in
    let read = get_or_read t.cells.items c.args.set _ (omega (arith, t.sound.sized, c.requires)) c.index.ensures 0 in
    rw read ((cell_of t.closed (fold_view t.set) t.cells.items t.ring t.bin c.args.set h c.requires is.counts).0 closed)

pub returns-clause-at_most : goal.returns-clause-at_most
returns-clause-at_most c = λ h is.
    let t = c.args.self.now in
    let read = get_or_read t.cells.items c.args.set _ (omega (arith, t.sound.sized, c.requires)) c.index.ensures 0 in
    rw read (cell_of t.closed (fold_view t.set) t.cells.items t.ring t.bin c.args.set h c.requires is.counts).1
