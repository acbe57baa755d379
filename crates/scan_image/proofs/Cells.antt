-- One more in one cell of a table of rows and columns.
use Rattle.std.proofs.Common.{◌≡◌, ◌∙◌, ℕ, ◌+◌, ◌*◌, ◌/◌, ◌%◌, ◌<◌, Bool, ◌&&◌, List, length, get_or, set, cond, eqb, ap, sym, arith}
use Rattle.std.proofs.lemmas.{Grind.common_steps, Nat.{mod-mul-add, div-mul-add}}

same_column : (width x₁ y₁ x₂ y₂ : ℕ) → x₁ < width → x₂ < width → y₁ * width + x₁ ≡ y₂ * width + x₂ → x₁ ≡ x₂
same_column width x₁ y₁ x₂ y₂ in₁ in₂ same = sym (mod-mul-add y₁ width x₁ in₁) ∙ (ap (λ n. n % width) same ∙ mod-mul-add y₂ width x₂ in₂)

same_row : (width x₁ y₁ x₂ y₂ : ℕ) → x₁ < width → x₂ < width → y₁ * width + x₁ ≡ y₂ * width + x₂ → y₁ ≡ y₂
same_row width x₁ y₁ x₂ y₂ in₁ in₂ same = sym (div-mul-add y₁ width x₁ in₁) ∙ (ap (λ n. n / width) same ∙ div-mul-add y₂ width x₂ in₂)

same_place : (width x₁ y₁ x₂ y₂ : ℕ) → x₁ ≡ x₂ → y₁ ≡ y₂ → y₁ * width + x₁ ≡ y₂ * width + x₂
same_place width x₁ y₁ x₂ y₂ column row = ap (λ y. y * width + x₁) row ∙ ap (λ x. y₂ * width + x) column

-- Two cells are one where their columns and their rows are.
pub same_cell : (width x₁ y₁ x₂ y₂ : ℕ) → x₁ < width → x₂ < width → eqb (y₁ * width + x₁) (y₂ * width + x₂) ≡ (eqb x₁ x₂ && eqb y₁ y₂)
same_cell width x₁ y₁ x₂ y₂ in₁ in₂ =
    grind (arith, common_steps, same_column width x₁ y₁ x₂ y₂ in₁ in₂, same_row width x₁ y₁ x₂ y₂ in₁ in₂, same_place width x₁ y₁ x₂ y₂)

pub one_raised : (cells : List ℕ) (k n v count more : ℕ) (test : Bool) → k < length cells → v ≡ get_or cells k v
    → get_or cells n 0 ≡ count → eqb k n ≡ test → get_or (set cells k (v + more)) n 0 ≡ count + cond test more 0
one_raised cells k n v count more test inside read was is = grind (arith, common_steps)

-- where the cells are counts, and the count of one place rises by one, the cells are the new counts once its cell does
pub raised_at : (cells : List ℕ) (width height x₁ y₁ k v more : ℕ) (before after : ℕ → ℕ → ℕ) → k ≡ y₁ * width + x₁ → x₁ < width → k < length cells → v ≡ get_or cells k v → ((x y : ℕ) → x < width → y < height → get_or cells (y * width + x) 0 ≡ before x y) → ((x y : ℕ) → after x y ≡ before x y + cond (eqb x₁ x && eqb y₁ y) more 0) → (x y : ℕ) → x < width → y < height → get_or (set cells k (v + more)) (y * width + x) 0 ≡ after x y
raised_at cells width height x₁ y₁ k v more before after is column inside read were step x y in_width in_height =
    let one : eqb k (y * width + x) ≡ (eqb x₁ x && eqb y₁ y) = ap (λ k. eqb k (y * width + x)) is ∙ same_cell width x₁ y₁ x y column in_width in
    one_raised cells k (y * width + x) v (before x y) more (eqb x₁ x && eqb y₁ y) inside read (were x y in_width in_height) one ∙ sym (step x y)
