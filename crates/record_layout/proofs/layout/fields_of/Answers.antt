use Rattle.std.proofs.{Common.{◌<◌, ◌≤◌, ◌^◌, ◌/◌, ℕ, arith}, Math.Nat.pow-le-pow_right, lemmas.Nat.{div_below, pow_pos}}
use Rattle.record_layout.proofs.layout.fields_of.Goals as goal

-- the fields of a word fit

-- what is above bit 25 is below 128
top-small : (word shift : ℕ) → word < 2 ^ 32 → 25 ≤ shift → word / 2 ^ shift < 256
top-small word shift small high =
    let room : 2 ^ 25 ≤ 2 ^ shift = pow-le-pow_right (omega arith) high in
    div_below word (2 ^ shift) 256 (pow_pos shift) (omega arith)

pub overflow_cast-result : goal.overflow_cast-result
overflow_cast-result g c = rw c.TOP_SHIFT.ensures (record { fits = top-small c.args.word _ c.ranges.word.fits g.met.R.RecordLayout.top_shift_low })
