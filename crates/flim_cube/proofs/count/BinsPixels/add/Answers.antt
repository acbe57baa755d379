use Rattle.std.proofs.Common.{◌≡◌, ◌∙◌, ◌+◌, ◌*◌, ◌/◌, ◌<◌, ℕ, Bool, ◌&&◌, List, cond, eqb, ap, sym, refl, rules, arith, length, get_or, set, Some, false}
use Rattle.{std.proofs.{Common.nat_le, lemmas.{Bool.Decides.nat_tests, Grind.common_steps}}, scan_image.proofs.Cells.{same_cell, one_raised}}
use Rattle.flim_cube.specs.{Cells.counts_of, CubeCounts.is_in_cell}
use Rattle.flim_cube.proofs.count.BinsPixels.add.Goals as goal

-- one more in one cell of a cube
turned : (a b c : Bool) → (a && b) ≡ c → (d : Bool) → (d && c) ≡ ((a && b) && d)
turned a b c is d = grind arith

-- Two cells are one where their columns, their rows and their bins are.
same_bin : (width bins x₁ y₁ b₁ x₂ y₂ b₂ : ℕ) → x₁ < width → x₂ < width → b₁ < bins → b₂ < bins
    → eqb ((y₁ * width + x₁) * bins + b₁) ((y₂ * width + x₂) * bins + b₂) ≡ ((eqb x₁ x₂ && eqb y₁ y₂) && eqb b₁ b₂)
same_bin width bins x₁ y₁ b₁ x₂ y₂ b₂ in₁ in₂ low₁ low₂ = search (rules, arith, same_cell, turned)

-- where the cells are counts, and the count of one place and bin rises, the cells are the new counts once its cell does
raised_in : (cells : List ℕ) (width height bins x₁ y₁ b₁ k v more : ℕ) (before after : ℕ → ℕ → ℕ → ℕ) → k ≡ (y₁ * width + x₁) * bins + b₁ → x₁ < width → b₁ < bins → k < length cells → v ≡ get_or cells k v → ((x y b : ℕ) → x < width → y < height → b < bins → get_or cells ((y * width + x) * bins + b) 0 ≡ before x y b) → ((x y b : ℕ) → after x y b ≡ before x y b + cond ((eqb x₁ x && eqb y₁ y) && eqb b₁ b) more 0) → (x y b : ℕ) → x < width → y < height → b < bins → get_or (set cells k (v + more)) ((y * width + x) * bins + b) 0 ≡ after x y b
raised_in cells width height bins x₁ y₁ b₁ k v more before after is column low inside read were step x y b in_width in_height in_bins =
    let one : eqb k ((y * width + x) * bins + b) ≡ ((eqb x₁ x && eqb y₁ y) && eqb b₁ b) =
    ap (λ k. eqb k ((y * width + x) * bins + b)) is ∙ same_bin width bins x₁ y₁ b₁ x y b column in_width low in_bins in
    one_raised cells k ((y * width + x) * bins + b) v (before x y b) more
    ((eqb x₁ x && eqb y₁ y) && eqb b₁ b) inside read (were x y b in_width in_height in_bins) one ∙ sym (step x y b)

pub returns-in-Some-2-clause-follows : goal.returns-in-Some-2-clause-follows
returns-in-Some-2-clause-follows c = λ many is.
    let set = c.args.self.now.set in
    let cells = counts_of c.args.counts.now.cells in
    let column = c.in-Some-2.column in
    let row = c.in-Some-2.row in
    let bin = c.bin_by-bin.result in
    let more = c.args.more in
    let k = c.cell_of.result in
    let inside : k < length cells = search (rules, arith) in
    let read : get_or cells k 0 ≡ get_or cells k (get_or cells k 0) = grind (arith, common_steps) in
    let narrow : column < set.image.width = search rules in
    let low : bin < set.dbins = omega (arith, c.if-bin-self.false) in
    let past : nat_le set.dbins bin ≡ false = grind (arith, common_steps, nat_tests, low) in
    let of_dtime : bin ≡ c.args.dtime / set.dwidth = c.bin_by-bin.ensures ∙ ap (λ width. c.args.dtime / width) c.args.self.now.width in
    let before : ℕ → ℕ → ℕ → ℕ = λ x y b. many (λ place dtime. is_in_cell x y b place (dtime / set.dwidth)) in
    rw (c.in-Some-2.is, c.add.ensures) (record {
      each = λ x y b in_width in_height in_bins. rw (← of_dtime) (raised_in cells set.image.width set.image.height set.dbins column row bin k (get_or cells k 0) more before (λ x y b. before x y b + cond (is_in_cell x y b (Some (column, row)) bin) more 0) c.cell_of.ensures.place narrow low inside read is.each (λ x y b. refl) x y b in_width in_height in_bins);
      without = grind (arith, common_steps, is.without);
      behind = rw (← of_dtime, past) (omega (arith, is.behind));
    })
