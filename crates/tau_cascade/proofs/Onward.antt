-- Grids from level to level.
use Rattle.std.proofs.Common.{rules, ◌≡◌, ℕ, ◌+◌, ◌<◌, ◌≤◌, ◌≢◌, zero, suc, eqb, cond, List, [], ◌∷◌, ◌++◌, length, set, take, drop, arith}
use Rattle.std.proofs.lemmas.{Bool.Decides.nat_tests, Grind.get_or-set_at, List.{get_or-set_other, take-append-drop, length-drop, Sums.sum_by-append}}
use Rattle.{std.specs.List.{sum_by, AllByRecursion}, lag_ring.specs.declared.{ring.Entry.Entry, window.Side.{Side, TheVariants.{First, Second}}}}
use Rattle.lag_ring.{specs.Bytes.weight_of, proofs.{Lists.{all_front, all_back, all_both, of_some}, Sums.sum_by-zero}}
use Rattle.tau_cascade.specs.{declared.grid.Grid.Grid, Bins.IsCut, Grid.{HaveWeights, Stands, IsGrid, photons}}

-- where a grid has no places, it stands for no bins
pub is_grid : (g : Grid) (es : List Entry) → Stands g es → IsGrid g es
is_grid g [] stands = record { on = λ some. stands; off = λ none. stands }
is_grid g (e ∷ es) stands = record { on = λ some. stands; off = λ none. absurd (omega (arith, stands.within.0)) }

cut_bins : (side : Side) (base at' index : ℕ) (old : List ℕ) (es fs : List Entry) → base + at' ≡ index → at' < length old → HaveWeights side base old (es ++ fs)
    → AllByRecursion (λ e. e.index < index) es → AllByRecursion (λ e. e.index ≡ index) fs → HaveWeights side base (set old at' 0) es
cut_bins side base at' index old es fs is long has before here = λ p inside.
    let f : Entry → ℕ = λ e. cond (eqb (e.index + 0) (base + p)) (weight_of side e) 0 in
    let none : at' ≡ p → sum_by f es ≡ 0 = λ same. sum_by-zero (λ e. e.index < index) f es before (λ e under. grind (arith, nat_tests)) in
    let other : at' ≢ p → sum_by f fs ≡ 0 = λ away. sum_by-zero (λ e. e.index ≡ index) f fs here (λ e there. grind (arith, nat_tests)) in
    grind (arith, nat_tests, get_or-set_at, get_or-set_other, sum_by-append f es fs, has p inside)

-- the bins of an index are taken out, after which there are none
pub stands_cut : (g : Grid) (at' index : ℕ) (es fs : List Entry) → g.base + at' ≡ index → at' < g.len → at' < length g.firsts → at' < length g.seconds
    → Stands g (es ++ fs) → AllByRecursion (λ e. e.index < index) es → AllByRecursion (λ e. e.index ≡ index) fs
    → Stands (record { base = g.base; len = at'; total = g.total; firsts = set g.firsts at' 0; seconds = set g.seconds at' 0 }) es
stands_cut g at' index es fs is inside first second was before here = record {
  firsts = cut_bins First g.base at' index g.firsts es fs is first was.firsts before here;
  seconds = cut_bins Second g.base at' index g.seconds es fs is second was.seconds before here;
  within = search (rules, arith, all_both, all_front, was.within, before);
  few = omega (arith, was.few);
  even = was.even;
  fits = omega (arith, was.fits);
  total = (omega (arith, was.total, sum_by-append photons es fs), was.total.1);
}

-- a grid without places stands beside any bins
pub off_grid : (g : Grid) (es fs : List Entry) → g.len ≤ 0 → IsGrid g es → IsGrid g fs
off_grid g es fs none is = record { on = λ some. absurd (omega arith); off = λ no. is.off no }

pub grid_some : (g : Grid) (es : List Entry) (n : ℕ) → g.len ≡ n → IsGrid g es → ∥ ((fs : List Entry) × Stands g fs) ∥₁
grid_some g es zero is grid = ∣ ([], grid.off is) ∣₁
grid_some g es (suc n) is grid = ∣ (es, grid.on (omega arith)) ∣₁

-- the last bins of a list have places
pub last_inside : (g : Grid) (n : ℕ) (es : List Entry) (last : Entry) → IsCut es n last → Stands g es → (g.base ≤ last.index) × (last.index < g.base + g.len)
last_inside g n es last cut stands =
    let late = all_back (λ (e : Entry). (g.base ≤ e.index) × (e.index < g.base + g.len)) (take n es) (drop n es) (rw take-append-drop stands.within) in
    of_some (λ e. e.index) last.index (λ i. (g.base ≤ i) × (i < g.base + g.len)) (drop n es) (omega (arith, cut.few, length-drop n es)) cut.here late
