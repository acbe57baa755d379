-- Lanes of 64 bits.
use Rattle.std.proofs.{Common.{◌≡◌, ◌+◌, ◌*◌, ◌%◌, ◌^◌, ◌<◌, ℕ, List, length, map, get_or, replicate, ap, ◌∙◌, arith}, lemmas.Simd.{length-zip2, get_or-zip2}}
use Rattle.std.proofs.lemmas.{Simd.get_or-replicate, List.{length-map, get_or-map}}
use lib.Lanes.{zip2}

abbrev pub add64 : List ℕ → List ℕ → List ℕ
add64 = zip2 (λ a b. (a + b) % 2 ^ 64)

abbrev pub mul64 : List ℕ → List ℕ → List ℕ
mul64 = zip2 (λ a b. (a * b) % 2 ^ 64)

-- numbers of 32 bits in lanes of 64
abbrev pub wide : List ℕ → List ℕ
wide xs = map (λ x. x) xs

pub long-wide : (xs : List ℕ) → length xs ≡ 8 → length (wide xs) ≡ 8
long-wide xs long = length-map xs (λ x. x) ∙ long

-- what one number for all lanes does with those of others
with-all : (f : ℕ → ℕ → ℕ) (x : ℕ) (ys : List ℕ) (j : ℕ) → length ys ≡ 8 → j < 8 → get_or (zip2 f (replicate 8 x) ys) j 0 ≡ f x (get_or ys j 0)
with-all f x ys j long lt =
    get_or-zip2 f (replicate 8 x) ys j 0 0 0 lt (omega (arith, long, lt)) ∙ ap (λ a. f a (get_or ys j 0)) (get_or-replicate 8 j x 0 lt)

wide-at : (xs : List ℕ) (j : ℕ) → length xs ≡ 8 → j < 8 → get_or (wide xs) j 0 ≡ get_or xs j 0
wide-at xs j long lt = get_or-map (λ x. x) xs j 0 0 (omega (arith, long, lt))

pub long-places : (first : ℕ) (ls : List ℕ) → length ls ≡ 8 → length (add64 (replicate 8 first) (wide ls)) ≡ 8
long-places first ls long = length-zip2 (λ a b. (a + b) % 2 ^ 64) (replicate 8 first) (wide ls) (omega (arith, long-wide ls long))

pub places-at : (first : ℕ) (ls : List ℕ) (j : ℕ) → length ls ≡ 8 → j < 8
    → get_or (add64 (replicate 8 first) (wide ls)) j 0 ≡ (first + get_or ls j 0) % 2 ^ 64
places-at first ls j long lt =
    with-all (λ a b. (a + b) % 2 ^ 64) first (wide ls) j (long-wide ls long) lt ∙ ap (λ x. (first + x) % 2 ^ 64) (wide-at ls j long lt)

module _ (base unit : ℕ) (ws ts : List ℕ) (long_ws : length ws ≡ 8) (long_ts : length ts ≡ 8) where
  abbrev pub behind : List ℕ
  behind = add64 (mul64 (replicate 8 unit) (wide ws)) (wide ts)

  long-more : length (mul64 (replicate 8 unit) (wide ws)) ≡ 8
  long-more = length-zip2 (λ a b. (a * b) % 2 ^ 64) (replicate 8 unit) (wide ws) (omega (arith, long-wide ws long_ws))

  long-behind : length behind ≡ 8
  long-behind = length-zip2 (λ a b. (a + b) % 2 ^ 64) (mul64 (replicate 8 unit) (wide ws)) (wide ts) (omega (arith, long-more, long-wide ts long_ts)) ∙ long-more

  pub long-times : length (add64 (replicate 8 base) behind) ≡ 8
  long-times = length-zip2 (λ a b. (a + b) % 2 ^ 64) (replicate 8 base) behind (omega (arith, long-behind))

  behind-at : (j : ℕ) → j < 8 → get_or behind j 0 ≡ ((unit * get_or ws j 0) % 2 ^ 64 + get_or ts j 0) % 2 ^ 64
  behind-at j lt =
      get_or-zip2 (λ a b. (a + b) % 2 ^ 64) (mul64 (replicate 8 unit) (wide ws)) (wide ts) j 0 0 0 (omega (arith, long-more, lt)) (omega (arith, long-wide ts long_ts, lt))
      ∙ ap (λ a. (a + get_or (wide ts) j 0) % 2 ^ 64) (with-all (λ a b. (a * b) % 2 ^ 64) unit (wide ws) j (long-wide ws long_ws) lt ∙ ap (λ x. (unit * x) % 2 ^ 64) (wide-at ws j long_ws lt))
      ∙ ap (λ b. ((unit * get_or ws j 0) % 2 ^ 64 + b) % 2 ^ 64) (wide-at ts j long_ts lt)

  added : (b p t : ℕ) → (b + (p % 2 ^ 64 + t) % 2 ^ 64) % 2 ^ 64 ≡ (b + p + t) % 2 ^ 64
  added b p t = omega arith

  pub times-at : (j : ℕ) → j < 8 → get_or (add64 (replicate 8 base) behind) j 0 ≡ (base + unit * get_or ws j 0 + get_or ts j 0) % 2 ^ 64
  times-at j lt = with-all (λ a b. (a + b) % 2 ^ 64) base behind j long-behind lt ∙ ap (λ x. (base + x) % 2 ^ 64) (behind-at j lt) ∙ added base (unit * get_or ws j 0) (get_or ts j 0)
