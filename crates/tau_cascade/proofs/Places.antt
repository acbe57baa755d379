-- Bins at their places in a grid.
use Rattle.std.proofs.Common.{◌≡◌, ℕ, ◌+◌, ◌-◌, ◌*◌, ◌%◌, ◌/◌, ◌∙◌, sym, ◌^◌, ◌<◌, ◌≤◌, eqb, ltb, leb, cond, replicate, drop, List, [], ◌∷◌, ◌++◌, length, map}
use Rattle.std.proofs.{Common.{take, get_or, arith, rules}, Props.props, Math.Logic.∥∥₁_elim, lemmas.List.{places, get_or_past, get_or-map, length-map}}
use Rattle.std.{proofs.lemmas.{List.Sums.{sum_by-cons, sum_by-le-sum_by}, Grind.common_steps}, specs.List.{sum_by, AllByRecursion}}
use Rattle.lag_ring.{specs.{declared.{ring.Entry.Entry, window.Side.{Side, TheVariants.{First, Second}}}, Bytes.{weight_of, weight_at}}, proofs.Lists.all_map}
use Rattle.{lag_ring.proofs.{Lists.each_at, Rising.all_weaker, Sums.{weight_at-le, sum_by-zero}}, tau_cascade.proofs.{Gridded.sum_by-map, Close.no_bin}}
use Rattle.tau_cascade.{proofs.Close.zeros_at, specs.{declared.grid.Grid.Grid, Bins.{raised, IsSpaced}, Grid.{HaveWeights, Stands, photons, halved}}}
use borrow.Rule.Slice.PartMut.{put_mid}

-- bins have one of so many places
abbrev pub AreIn : ℕ → ℕ → List Entry → Type 0
AreIn base len es = AllByRecursion (λ e. (base ≤ e.index) × (e.index < base + len)) es

-- a place has no more than all photons
pub weight_few : (side : Side) (base p : ℕ) (es : List Entry) → weight_at side 0 base p es ≤ sum_by photons es
weight_few side base p es = search (rules, arith, weight_at-le, sum_by-le-sum_by)

-- the place of a bin so many levels up
pub has_place : (base levels : ℕ) (es : List Entry) (i : ℕ) → i < length es → AreIn base 4096 (map (raised levels) es)
    → (base ≤ (raised levels (get_or es i no_bin)).index) × ((raised levels (get_or es i no_bin)).index < base + 4096)
has_place base levels es i inside near =
    (rw (get_or-map (raised levels) es i no_bin no_bin inside) at
    (each_at (λ e. (base ≤ e.index) × (e.index < base + 4096)) (map (raised levels) es) i no_bin (omega (arith, inside, length-map es (raised levels))) near))

-- a place of a list where zeros were written before it
pub front_zero : (xs ys : List ℕ) (n p : ℕ) → n ≤ length xs → ys ≡ replicate (length (take n xs)) 0
    → get_or (ys ++ drop n xs) p 0 ≡ cond (ltb p n) 0 (get_or xs p 0)
front_zero xs ys n p inside are = rw are (search (rules, places, zeros_at))

-- a place of a list of which a part was written
pub mid_put : (xs ys : List ℕ) (a n p : ℕ) → a + n ≤ length xs → length ys ≡ n
    → get_or (put_mid a (a + n - a) xs ys) p 0 ≡ cond (ltb p a) (get_or xs p 0) (cond (ltb p (a + n)) (get_or ys (p - a) 0) (get_or xs p 0))
mid_put xs ys a n p room long = search (rules, places)

-- one bin where two places become one
one_halved : (side : Side) (base low off p : ℕ) (e : Entry) → base % 2 ≡ 0 → low + off ≡ base / 2 → base ≤ e.index
    → cond (eqb ((raised 1 e).index + 0) (low + p)) (weight_of side (raised 1 e)) 0 ≡ cond (leb off p)
    (cond (eqb (e.index + 0) (base + 2 * (p - off))) (weight_of side e) 0 + cond (eqb (e.index + 0) (base + (2 * (p - off) + 1))) (weight_of side e) 0) 0
one_halved side base low off p e even is from = grind (arith, common_steps)

-- two places are one now
abbrev pub AreHalved : ℕ → List ℕ → List ℕ → Type 0
AreHalved off old new = (p : ℕ) → p < 4096 → get_or new p 0 ≡ cond (leb off p) (halved off old p) 0

-- a place has few photons, and none after so many
abbrev pub IsLow : ℕ → List ℕ → ℕ → Type 0
IsLow len places p = (get_or places p 0 < 32768) × (len ≤ p → get_or places p 0 ≡ 0)

-- what bins have that a list has the weights of, on one side
module _ (side : Side) (base len : ℕ) (places : List ℕ) (es : List Entry) (have : HaveWeights side base places es)
    (within : AreIn base len es) (few : len ≤ 4096) (long : length places ≡ 4096) where
  behind : (p : ℕ) → len ≤ p → weight_at side 0 base p es ≡ 0
  behind p far = search (rules, arith, sum_by-zero)

  at_all : (p : ℕ) → get_or places p 0 ≡ weight_at side 0 base p es
  at_all p = search (rules, arith, have p, behind p, get_or_past)

  places_few : (total : ℕ) → (sum_by photons es ≤ total) × (total < 32768) → (p : ℕ) → IsLow len places p
  places_few total light p = rw (at_all p) (omega (arith, weight_few side base p es, light), behind p)

  -- two places as one
  weight_halved : (low off p : ℕ) → base % 2 ≡ 0 → low + off ≡ base / 2 → (fs : List Entry) → AreIn base len fs
      → weight_at side 0 low p (map (raised 1) fs)
      ≡ cond (leb off p) (weight_at side 0 base (2 * (p - off)) fs + weight_at side 0 base (2 * (p - off) + 1) fs) 0
  weight_halved low off p even is [] all = search (rules, arith)
  weight_halved low off p even is (e ∷ fs) all =
      grind (arith, common_steps, sum_by-cons, one_halved side base low off p e even is all.0.0, weight_halved low off p even is fs all.1)

  pub have_halved : (low off : ℕ) (new : List ℕ) → base % 2 ≡ 0 → low + off ≡ base / 2 → AreHalved off places new → HaveWeights side low new (map (raised 1) es)
  have_halved low off new even is halves = λ p inside.
      halves p inside ∙ rw (at_all (2 * (p - off)), at_all (2 * (p - off) + 1)) (sym (weight_halved low off p even is es within))

-- what holds of a grid, whatever its bins are
pub sound : (g : Grid) → length g.firsts ≡ 4096 → length g.seconds ≡ 4096 → ∥ ((es : List Entry) × Stands g es) ∥₁
    → (g.len ≤ 4096) × (g.base % 2 ≡ 0) × (g.base + g.len ≤ 2 ^ 64) × (g.total < 32768)
    × ((p : ℕ) → IsLow g.len g.firsts p) × ((p : ℕ) → IsLow g.len g.seconds p)
sound g firsts seconds stands = ∥∥₁_elim stands (hlevel props) (λ w. (
  w.1.few,
  w.1.even,
  w.1.fits,
  w.1.total.1,
  places_few First g.base g.len g.firsts w.0 w.1.firsts w.1.within w.1.few firsts g.total w.1.total,
  places_few Second g.base g.len g.seconds w.0 w.1.seconds w.1.within w.1.few seconds g.total w.1.total,
))

-- a grid on the next level
pub stands_halved : (g h : Grid) (es : List Entry) → length g.firsts ≡ 4096 → length g.seconds ≡ 4096 → Stands g es → h.base ≤ g.base / 2 → h.base % 2 ≡ 0
    → h.len ≡ g.base / 2 - h.base + (g.len + 1) / 2 → h.len ≤ 4096 → h.total ≡ g.total
    → AreHalved (g.base / 2 - h.base) g.firsts h.firsts → AreHalved (g.base / 2 - h.base) g.seconds h.seconds → Stands h (map (raised 1) es)
stands_halved g h es firsts seconds was low even len few total one two =
    let off : ℕ = g.base / 2 - h.base in
    record {
      firsts = have_halved First g.base g.len g.firsts es was.firsts was.within was.few firsts h.base off h.firsts was.even (omega (arith, low)) one;
      seconds = have_halved Second g.base g.len g.seconds es was.seconds was.within was.few seconds h.base off h.seconds was.even (omega (arith, low)) two;
      within = search (rules, arith, all_map, all_weaker, was.within);
      few = few;
      even = even;
      fits = omega (arith, was.fits, len, low);
      total = rw (total, sum_by-map photons (raised 1) es) was.total;
    }

-- bins that don't fall, so many levels up, are from the first on and up to the last
pub from_to : (levels : ℕ) (es : List Entry) (base top : ℕ) → IsSpaced 0 (map (raised levels) es) → base ≤ (raised levels (get_or es 0 no_bin)).index
    → (raised levels (get_or es (length es - 1) no_bin)).index < top → AllByRecursion (λ e. (base ≤ e.index) × (e.index < top)) (map (raised levels) es)
from_to levels [] base top spaced from to = tt
from_to levels (e ∷ []) base top spaced from to = ((from, to), tt)
from_to levels (e ∷ f ∷ fs) base top spaced from to = search (rules, arith, from_to levels (f ∷ fs) base top spaced.1)
