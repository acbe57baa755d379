use Rattle.std.proofs.{Common.{◌≡◌, ◌+◌, ◌*◌, ◌^◌, ◌<◌, ◌≤◌, ◌⊎◌, ⊎_elim, ℕ, get_or, refl, arith, rules, bit_or, ltb}, lemmas.Nat.{le_or_l, le_or_r}}
use Rattle.{std.proofs.lemmas.Bool.{cases_Bool, ltb-false}, lane_decode.{specs.InColumns.{wraps_at, sum_to, before, time_in}, proofs.Added.sum-more}}
use Rattle.lane_decode.proofs.columns.Columns.rises.Goals.{then-self-i-eq0, else-self-i-eq0}
use mir.Val.{bool_byte}
use Rattle.lane_decode.proofs.columns.Columns.rises.Goals as goal

last_or : (i n : ℕ) → i < n + 1 → (i ≡ n) ⊎ (i < n)
last_or i n lt = grind (arith, lt)

before-next : (low : ℕ) (f : ℕ → ℕ) (i : ℕ) → before low f (i + 1) ≡ f i
before-next low f i = search (rules, arith)

-- a comparison as a number
not-less : (most last flag : ℕ) → flag ≡ bool_byte (ltb most last) → flag ≡ 0 → last ≤ most
not-less most last flag is none = search (rules, arith, ltb-false, cases_Bool)

-- a wrap or more
some-wraps : (unit wraps t : ℕ) → (wraps ≡ 0 → ⊥) → unit ≤ unit * wraps + t
some-wraps unit wraps t some = grind (arith, some)

-- one record more
rises-more : (low : ℕ) (f w : ℕ → ℕ) (base unit i last most t : ℕ) → f i ≡ base + unit * sum_to w (i + 1) + t → most ≤ unit * w i + t
    → last ≤ most → before low f i ≤ base + unit * sum_to w i + last → before low f i ≤ f i
rises-more low f w base unit i last most t is few le reached = search (rules, arith, sum-more)

pub loop-i-init : goal.loop-i-init
unfolding sum_to
loop-i-init g c = search (rules, arith)

pub loop-i-preserved : goal.loop-i-preserved
loop-i-preserved g c =
    let inv = c.loop-i.invariant in
    let unit = g.R.RecordLayout.UNIT in
    let columns = c.args.self.now in
    let base = c.args.base in
    let low = c.args.low in
    let i = c.loop-i.i in
    let f = time_in base unit columns in
    let falls = c.loop-i.falls in
    let most = c.if-self-i-eq0.most in
    let flag = c.from-falls.result in
    let time_few : get_or columns.times i 0 < 2 ^ 32 = search (rules, arith, c.loop-i-test.true) in
    let was : bit_or falls flag ≡ 0 → falls ≡ 0 = λ none. omega (arith, none, le_or_l falls flag) in
    let holds : bit_or falls flag ≡ 0 → c.loop-i.last ≤ most = λ none.
    not-less most c.loop-i.last flag c.from-falls.ensures (omega (arith, none, le_or_r falls flag)) in
    let few_most : most ≤ unit * wraps_at columns i + get_or columns.times i 0 =
    elim c.if-self-i-eq0.branch [
      | then-self-i-eq0 w ↦ search (rules, arith)
      | else-self-i-eq0 w ↦
          omega (arith, w.most-is, w.UNIT.ensures, some-wraps unit (wraps_at columns i) (get_or columns.times i 0) w.if-self-i-eq0.false)
    ] in
    let next : before low f (i + 1) ≡ base + unit * sum_to (wraps_at columns) (i + 1) + get_or columns.times i 0 = before-next low f i in
    record {
      few = λ k lt. ⊎_elim (λ (here : k ≡ i). rw here time_few) (λ (below : k < i). inv.few k below) (last_or k i lt);
      reached = λ none. omega (arith, next);
      rises = λ none k lt.
          ⊎_elim
          (λ (here : k ≡ i). rw here
          (rises-more low f (wraps_at columns) base unit i c.loop-i.last most (get_or columns.times i 0) refl
          few_most (holds none) (inv.reached (was none))))
          (λ (below : k < i). inv.rises (was none) k below)
          (last_or k i lt);
    }

pub returns-clause-few : goal.returns-clause-few
returns-clause-few g c = λ i lt. c.loop-i.invariant.few i (omega (arith, lt, c.loop-i-test.false))
