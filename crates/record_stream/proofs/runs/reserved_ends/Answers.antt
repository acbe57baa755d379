use Rattle.std.proofs.{Common.{rules, arith, ◌≡◌, ◌-◌, ◌<◌, ◌≤◌, ◌⊎◌, ℕ}, lemmas.List.{length-set, get_or-set_same, get_or-set_other}}
use Rattle.{lane_decode.specs.{declared.columns.Columns.Columns, InColumns.row_at}, record_stream.specs.Runs.EndsReserved}
use Rattle.record_stream.proofs.runs.reserved_ends.Goals.{then-get-le512, else-get-le512}
use Rattle.record_stream.proofs.runs.reserved_ends.Goals as goal

first_or : (at i : ℕ) → 0 < at → at - 1 ≤ i → (i ≡ at - 1) ⊎ (at ≤ i)
first_or at i some low = grind (arith, some, low)

ends-here : (columns : Columns) (at : ℕ) → at ≤ 64 → EndsReserved columns at at
ends-here columns at few = record { later = omega arith; inside = few; reserved = λ i low high. omega (arith, low, high) }

-- one reserved record more
ends-before : (columns : Columns) (at end : ℕ) → 0 < at → EndsReserved columns at end → 512 < (row_at columns (at - 1)).code → EndsReserved columns (at - 1) end
ends-before columns at end some ends high = search (rules, arith)

pub back-preserved : goal.back-preserved
back-preserved c = search (rules, arith, ends-here, ends-before, length-set, get_or-set_same, get_or-set_other)
