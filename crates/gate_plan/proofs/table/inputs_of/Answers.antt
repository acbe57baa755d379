use Rattle.std.proofs.{Common.{rules, arith, ◌≡◌, ℕ, ◌^◌, ◌<◌, ◌≤◌, Bool, false, List, length, get_or, ◌⊎◌}, lemmas.Grind.common_steps}
use Rattle.{std.proofs.{lemmas.{Bool.Decides.nat_tests, Nat.Bits.bit_at_above}, Math.ListN.get_or-eq_default}, gate_plan.specs.Taking.is_among}
use Rattle.gate_plan.proofs.Parts.{filled_more}
use Rattle.gate_plan.proofs.table.inputs_of.Goals as goal

side : (i : ℕ) → (i < 256) ⊎ (256 ≤ i)
side i = grind arith

no_such : (inputs i : ℕ) → inputs < 2 ^ 128 → 256 ≤ i → is_among inputs i ≡ false
no_such inputs i few past = rw (bit_at_above inputs 128 i few (omega (arith, past))) (grind (arith, nat_tests))

has_all : (has : List Bool) (inputs : ℕ) → length has ≡ 256 → inputs < 2 ^ 128
    → ((i : ℕ) → i < 256 → get_or has i false ≡ is_among inputs i) → (i : ℕ) → get_or has i false ≡ is_among inputs i
has_all has inputs all few filled i = search (rules, arith, side, get_or-eq_default, no_such)

pub loop-input-preserved : goal.loop-input-preserved
loop-input-preserved c = search (rules, arith, filled_more)

pub returns : goal.returns
returns c = grind (arith, common_steps, has_all)
