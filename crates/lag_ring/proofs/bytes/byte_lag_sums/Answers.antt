use Rattle.std.proofs.{Common.{◌≡◌, ◌∙◌, ◌+◌, ◌*◌, ◌/◌, ◌≤◌, ℕ, List, [], ◌++◌, length, sym, ap, arith, rules, append_assoc}, Math.Nat.mul-div-le}
use Rattle.std.{proofs.{Math.Nat.mul-le-mul_left, lemmas.List.{get_or-replicate, Sums.sum_by-append}}, specs.List.{sum_by, AllByRecursion}}
use Rattle.{std.specs.Slice.Iter.chunks_rest, lag_ring.{specs.Bytes.behind, proofs.{Lists.{all_front, all_back}, Sums.behind-le}}}
use Rattle.lag_ring.proofs.bytes.byte_lag_sums.Goals as goal

-- the sum over the spots that are done, a part, and those left
three : (f : ℕ → ℕ) (done part rest all left : List ℕ) → done ++ left ≡ all → left ≡ part ++ rest → sum_by f done + sum_by f part ≤ sum_by f all
three f done part rest all left is parts = search (rules, arith, sum_by-append)

inside-part : (P : ℕ → Type 0) (done part rest all left : List ℕ) → done ++ left ≡ all → left ≡ part ++ rest → AllByRecursion P all → AllByRecursion P part
inside-part P done part rest all left is parts holds = all_front P part rest (rw parts at (all_back P done left (rw (sym is) at holds)))

pub loop-part-init : goal.loop-part-init
loop-part-init g c = (search rules, tt, search rules, [], search rules, λ q inside. get_or-replicate g.row.N q 0 0 inside)

pub byte_sums-bytes-requires : goal.byte_sums-bytes-requires
byte_sums-bytes-requires g c =
    let inv = c.loop-part.invariant in
    let steps = c.in-Some.ensures.steps in
    let most : ℕ = c.args.most in
    let part = c.in-Some.part.now in
    let inside = inside-part (λ s. s + c.args.from + g.row.N ≤ length c.args.window.now) inv.3 part
    (chunks_rest c.next.new.self) c.args.spots.now (chunks_rest c.loop-part.part-iterator) inv.4 steps.1.0 c.requires.inside in
    let few : length part ≤ 255 / most = omega (arith, steps.1.1, inv.2) in
    let all : most * length part ≤ most * (255 / most) = mul-le-mul_left most few in (
      omega (arith, c.requires.lags),
      (
        c.requires.lags,
        (
          λ q lag. omega (arith, behind-le g.row.N c.args.window.now most c.args.from q part lag c.requires.light inside, all, mul-div-le 255 most),
          inside,
        ),
      ),
    )

pub add_wide-requires : goal.add_wide-requires
add_wide-requires g c = (
  omega (arith, c.requires.lags),
  (
    omega (arith, c.requires.lags),
    λ q lag.
        let inv = c.loop-part.invariant in
        let steps = c.in-Some.ensures.steps in
        let most : ℕ = c.args.most in
        let f : ℕ → ℕ = behind c.args.window.now (c.args.from + q) in
        let parts = three f inv.3 c.in-Some.part.now (chunks_rest c.next.new.self) c.args.spots.now (chunks_rest c.loop-part.part-iterator) inv.4 steps.1.0 in
        let few : most * length c.args.spots.now ≤ most * 65536 = mul-le-mul_left most c.requires.few in
        omega (arith, parts, few, c.requires.most.1, behind-le g.row.N c.args.window.now most c.args.from q c.args.spots.now lag c.requires.light c.requires.inside, inv.5 q lag, c.byte_sums-bytes.ensures.sums q lag),
  ),
)

pub loop-part-preserved : goal.loop-part-preserved
loop-part-preserved g c =
    let inv = c.loop-part.invariant in
    let steps = c.in-Some.ensures.steps in
    let part = c.in-Some.part.now in (
      search rules,
      tt,
      steps.0 ∙ inv.2,
      inv.3 ++ part,
      append_assoc inv.3 part (chunks_rest c.next.new.self) ∙ ap (λ (t : List ℕ). inv.3 ++ t) (sym steps.1.0) ∙ inv.4,
      λ q lag. omega (arith, c.add_wide.ensures.sums q lag, inv.5 q lag, c.byte_sums-bytes.ensures.sums q lag, sum_by-append (behind c.args.window.now (c.args.from + q)) inv.3 part),
    )
