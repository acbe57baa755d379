-- Sums of products by place.
use Rattle.std.proofs.Common.{◌≡◌, ◌∙◌, ℕ, zero, suc, ◌+◌, ◌-◌, ◌*◌, ◌<◌, ◌≤◌, ◌&&◌, leb, eqb, ltb, cond, ◌%◌, List, [], ◌∷◌, length, get_or, arith, rules}
use Rattle.std.proofs.{Common.add-one, lemmas.{Bool.Decides.nat_tests, Grind.common_steps, List.Sums.{sum_by-cons, sum-map, sum_by-le}}}
use Rattle.std.{proofs.lemmas.{List.FromFn.{sum_by-map-range_with_len_more, length-range_with_len}, Simd.{length-zip2, get_or-zip2}}, specs.List.sum_by}
use Rattle.{std.specs.List.{range_with_len, AllByRecursion}, lag_ring.specs.{declared.{ring.Entry.Entry, window.Side.Side}, Bytes.{weight_of, weight_at}}}
use Rattle.lag_ring.proofs.Sums.{sum_by-same, sum_by-plus, sum_by-agree, sum_by-times}
use lib.Lanes.{zip2}

-- one number more in a range from 0 on
pub range_more : (f : ℕ → ℕ) (n : ℕ) → sum_by f (range_with_len 0 (n + 1)) ≡ sum_by f (range_with_len 0 n) + f n
range_more f n = (simp sum-map at (sum_by-map-range_with_len_more (λ x. x) f 0 n n (omega arith)))

range_next : (f : ℕ → ℕ) (n : ℕ) → sum_by f (range_with_len 0 (suc n)) ≡ sum_by f (range_with_len 0 n) + f n
range_next f n = (rw add-one at (range_more f n))

pub below_range : (a n m : ℕ) → n ≤ m - a → AllByRecursion (λ p. p < m) (range_with_len a n)
below_range a zero m room = tt
below_range a (suc n) m room = (omega (arith, room), below_range (a + 1) n m (omega (arith, room)))

-- functions that agree in a range have one sum over it
pub range_agree : (f g : ℕ → ℕ) (n : ℕ) → ((q : ℕ) → q < n → f q ≡ g q) → sum_by f (range_with_len 0 n) ≡ sum_by g (range_with_len 0 n)
range_agree f g n same = sum_by-agree (λ q. q < n) f g (range_with_len 0 n) (below_range 0 n n (omega arith)) same

-- what is no more than a number each time
pub range_few : (f : ℕ → ℕ) (most n : ℕ) → ((q : ℕ) → f q ≤ most) → sum_by f (range_with_len 0 n) ≤ n * most
range_few f most n low = (rw length-range_with_len at (sum_by-le f most (range_with_len 0 n) (search (rules, low))))

-- two ranges as one
pub range_parts : (f : ℕ → ℕ) (n m : ℕ) → sum_by f (range_with_len 0 (n + m)) ≡ sum_by f (range_with_len 0 n) + sum_by (λ q. f (n + q)) (range_with_len 0 m)
range_parts f n zero = search (rules, arith)
range_parts f n (suc m) =
    let one : n + suc m ≡ suc (n + m) = omega arith in
    rw (one, range_next f (n + m), range_next (λ q. f (n + q)) m, range_parts f n m) (omega arith)

-- a sum by lanes is one by places
pub by_lanes : (f : ℕ → ℕ) (lanes rows : ℕ)
    → sum_by (λ q. sum_by (λ r. f (lanes * r + q)) (range_with_len 0 rows)) (range_with_len 0 lanes) ≡ sum_by f (range_with_len 0 (lanes * rows))
by_lanes f lanes zero = search (rules, arith, range_few (λ q. 0) 0 lanes)
by_lanes f lanes (suc rows) =
    let more : lanes * suc rows ≡ lanes * rows + lanes = grind arith in
    rw (more, range_parts f (lanes * rows) lanes, ← by_lanes f lanes rows, ← sum_by-plus)
    (sum_by-same _ _ (range_with_len 0 lanes) (λ q. range_next (λ r. f (lanes * r + q)) rows))

-- of a sum over places one counts
pub one_place : (f : ℕ → ℕ) (base k w a n : ℕ) → sum_by (λ q. f (base + q) * cond (eqb (k + 0) (base + q)) w 0) (range_with_len a n)
    ≡ cond (leb (base + a) k && ltb k (base + a + n)) (f k * w) 0
one_place f base k w a zero = grind (arith, nat_tests)
one_place f base k w a (suc n) = grind (arith, common_steps, sum_by-cons, one_place f base k w (a + 1) n)

-- the products by place with weights of bins are those by bin
pub by_bins : (f : ℕ → ℕ) (side : Side) (base a n : ℕ) (es : List Entry) → sum_by (λ q. f (base + q) * weight_at side 0 base q es) (range_with_len a n)
    ≡ sum_by (λ e. cond (leb (base + a) e.index && ltb e.index (base + a + n)) (f e.index * weight_of side e) 0) es
by_bins f side base a n [] = sum_by-times (λ q. f (base + q)) 0 (range_with_len a n) ∙ grind arith
by_bins f side base a n (e ∷ es) = simp sum_by-cons
    (simp (← one_place f base e.index (weight_of side e) a n, ← by_bins f side base a n es, ← sum_by-plus)
    (sum_by-same _ _ (range_with_len a n) (λ q. grind arith)))

-- products by lane that are added in 16 bits
module _ (lanes : ℕ) (sums xs ys : List ℕ) (long : (length sums ≡ lanes) × (length xs ≡ lanes) × (length ys ≡ lanes)) where
  pub lane : (q x y : ℕ) → get_or xs q 0 ≡ x → get_or ys q 0 ≡ y → q < lanes → get_or sums q 0 + x * y < 65536
      → get_or (zip2 (λ x y. (x + y) % 65536) sums (zip2 (λ x y. x * y % 65536) xs ys)) q 0 ≡ get_or sums q 0 + x * y
  lane q x y is_x is_y inside fits =
      search (rules, arith, get_or-zip2, length-zip2, get_or-zip2 (λ x y. x * y % 65536) xs ys q 0 0 0 (omega (arith, long)) (omega (arith, long)))
