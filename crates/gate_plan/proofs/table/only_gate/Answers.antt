use Rattle.std.proofs.Common.{◌≡◌, ◌+◌, ◌*◌, ◌^◌, ◌-◌, ◌<◌, ◌∷◌, ◌&&◌, ◌||◌, ℕ, Bool, true, false, [], List, length, min, slice_index, slice_index_or}
use Rattle.{std.proofs.{Common.{if◌then◌else◌, refl, rules, arith}, lemmas.List.nil_from_length}, gate_plan.specs.{declared.gated.Gated.Gated, Taking.one_if}}
use Rattle.gate_plan.{specs.{Taking.is_in_gate, Parting.{groups_by, on_sides}}, proofs.Parts.two_groups}
use Rattle.gate_plan.proofs.table.only_gate.Goals as goal

single : {X : Type 0} (xs : List X) (x : X) → length xs ≡ 1 → x ≡ slice_index_or xs 0 x → xs ≡ x ∷ []
single [] x long is = absurd (omega (arith, long))
single (y ∷ xs) x long is = let rest : xs ≡ [] = nil_from_length xs (omega (arith, long)) in rw (rest, is) refl

-- the number on one of two sides of a gate
on_side : (has inside : Bool) (plain bit : ℕ) → plain + (0 + one_if (has && (inside || false)) * bit) < 2 ^ 64
    → slice_index (plain ∷ min (plain + one_if has * bit) (2 ^ 64 - 1) ∷ []) (if inside then 1 else 0) ≡ plain + (0 + one_if (has && (inside || false)) * bit)
on_side true true plain bit fits = omega (arith, fits)
on_side true false plain bit fits = omega arith
on_side false true plain bit fits = omega (arith, fits)
on_side false false plain bit fits = omega arith

behind : (gated : List Gated) (group : Gated) (plain : List ℕ) (input dtime : ℕ) → gated ≡ group ∷ []
    → group.others.items ≡ [] → groups_by plain gated input dtime < 2 ^ 64
    → slice_index (on_sides plain group input) (if is_in_gate dtime group.gate then 1 else 0) ≡ groups_by plain gated input dtime
behind gated group plain input dtime one alone fits =
    let fits2 = rw (one, alone) at fits in
    rw (one, alone) (on_side (slice_index_or group.has input false) (is_in_gate dtime group.gate) (slice_index plain input) (2 ^ group.place) fits2)

pub returns-in-len1-clause-groups : goal.returns-in-len1-clause-groups
returns-in-len1-clause-groups c = λ gate is input dtime below fits.
    let group = c.group-item.result in
    let same : gate ≡ c.new.result = cc in
    let one : c.args.gated.now ≡ group ∷ [] = single c.args.gated.now group (omega (arith, c.in-len1.len_at_least, c.in-len1.len_below)) c.group-item.is in
    let alone : group.others.items ≡ [] = nil_from_length group.others.items (let h = c.is_empty.ensures in search (rules, arith)) in
    rw (same, c.new.ensures input dtime, c.sides_table.ensures.inputs input below)
    (behind c.args.gated.now group c.args.plain.now input dtime one alone fits)

pub returns-in_default-3-clause-one : goal.returns-in_default-3-clause-one
returns-in_default-3-clause-one c = two_groups c.args.gated.now c.in_default.len_at_least
