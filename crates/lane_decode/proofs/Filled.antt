-- Columns with one record more.
use Rattle.std.{proofs.Common.{◌≡◌, ◌<◌, ◌+◌, ℕ, List, [], get_or, ◌∙◌, arith, ◌⊎◌, ⊎_elim}, specs.Int.{from_le_bytes, w32}}
use Rattle.{ptu_definitions.specs.declared.records.Raw.Raw, record_layout.specs.{declared.row.Row.Row, Rowed.raw_of}}
use Rattle.lane_decode.specs.{declared.columns.Columns.Columns, InColumns.{IsRow, HasRowsTo, row_at}}

last_or : (i n : ℕ) → i < n + 1 → (i ≡ n) ⊎ (i < n)
last_or i n lt = grind (arith, lt)

pub rows-more : (meaning : ℕ → Raw) (unit : ℕ) (old new : Columns) (words : List (List ℕ)) (n : ℕ) (row : Row)
    → HasRowsTo meaning unit old words n → ((i : ℕ) → i < n → row_at new i ≡ row_at old i)
    → raw_of unit (row_at new n) ≡ raw_of unit row → (row_at new n).wraps ≡ row.wraps
    → IsRow meaning unit row (from_le_bytes w32 (get_or words n [])) → HasRowsTo meaning unit new words (n + 1)
rows-more meaning unit old new words n row has kept raw wraps is = λ k lt. ⊎_elim
    (λ (here : k ≡ n). rw here (record { raw = raw ∙ is.raw; amounts = rw wraps is.amounts }))
    (λ (below : k < n). rw (kept k below) (has k below))
    (last_or k n lt)
