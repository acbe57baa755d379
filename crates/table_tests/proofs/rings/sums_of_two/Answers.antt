use Rattle.std.{proofs.{Common.{◌≡◌, ℕ, ◌+◌, ◌<◌, ◌≤◌, List, [], ◌∷◌, get_or, length, refl, arith}, lemmas.List.get_or-replicate}, specs.List.sum_by}
use Rattle.lag_ring.{specs.{declared.{ring.Entry.Entry, window.Side.TheVariants.First}, Bytes.weight_of}, proofs.{Rising.all_weaker, Sums.weight_at-le}}
use Rattle.table_tests.proofs.rings.sums_of_two.Goals as goal

abbrev earlier : List Entry
earlier = record { index = 90; a = 2; b = 9 } ∷ record { index = 99; a = 1; b = 0 } ∷ []

three : sum_by (weight_of First) earlier ≡ 3
three = refl

pub put_side-requires-clause-fit : goal.put_side-requires-clause-fit
put_side-requires-clause-fit c = λ p inside. omega (arith, get_or-replicate {A = ℕ} 128 p 0 0 inside, weight_at-le First 64 100 p earlier, three)

pub byte_lag_sums-many-requires : goal.byte_lag_sums-many-requires
byte_lag_sums-many-requires c =
    let light : (p : ℕ) → p < length c.put_side.new.window → get_or c.put_side.new.window p 0 ≤ 3 = λ p inside.
    (let at : p < 128 = omega (arith, inside, c.put_side.ensures.same) in
    omega (arith, c.put_side.ensures.have p at, get_or-replicate {A = ℕ} 128 p 0 0 at, weight_at-le First 64 100 p earlier, three)) in
    let upto = c.spots_of-spots.ensures.within 3 (omega arith, (omega arith, tt)) in
    let inside = all_weaker (λ s. s ≤ 3) (λ s. s + 0 + 64 ≤ length c.put_side.new.window)
    (λ s at. omega (arith, at, c.put_side.ensures.same)) c.deref.result.now (rw c.deref.ensures.0 upto) in
    (omega arith, (omega arith, ((omega arith, omega arith), (light, (omega (arith, c.spots_of-spots.ensures.few, c.deref.ensures.1), inside)))))

pub byte_lag_sums-few-requires : goal.byte_lag_sums-few-requires
byte_lag_sums-few-requires c =
    let light : (p : ℕ) → p < length c.put_side.new.window → get_or c.put_side.new.window p 0 ≤ 3 = λ p inside.
    (let at : p < 128 = omega (arith, inside, c.put_side.ensures.same) in
    omega (arith, c.put_side.ensures.have p at, get_or-replicate {A = ℕ} 128 p 0 0 at, weight_at-le First 64 100 p earlier, three)) in
    let upto = c.spots_of-spots.ensures.within 3 (omega arith, (omega arith, tt)) in
    let inside = all_weaker (λ s. s ≤ 3) (λ s. s + 48 + 16 ≤ length c.put_side.new.window)
    (λ s at. omega (arith, at, c.put_side.ensures.same)) c.deref-2.result.now (rw c.deref-2.ensures.0 upto) in
    (omega arith, (omega arith, ((omega arith, omega arith), (light, (omega (arith, c.spots_of-spots.ensures.few, c.deref-2.ensures.1), inside)))))
