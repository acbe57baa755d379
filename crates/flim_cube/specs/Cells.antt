-- What cells stand for.
use Rattle.std.{specs.Prelude.{ℕ, ◌+◌, ◌*◌, ◌≤◌, List, length}, proofs.{Common.arith, lemmas.Nat.mul-le}}
use Rattle.flim_cube.specs.{declared.spread.Cells.Cells, Bytes.{byte_in, counts_in, length_counts}}

-- the count of each cell
abbrev pub counts_of : Cells → List ℕ
counts_of cells = counts_in cells.bytes.items cells.size

-- a byte of the count of a cell, the lowest of which is byte 0
abbrev pub part_of : Cells → ℕ → ℕ → ℕ
part_of cells i cell = byte_in cells.bytes.items (i * cells.size + cell)

-- how many bytes of each count are kept
abbrev pub width_of_each : Cells → ℕ
width_of_each cells = cells.wide

-- how many entries of eight bytes are in the one list
abbrev pub entries_of : Cells → ℕ
entries_of cells = length cells.bytes.items

-- There are no more entries than counts.
pub few_entries : (cells : Cells) → entries_of cells ≤ length (counts_of cells)
few_entries cells = omega (arith, cells.there, mul-le cells.wide cells.size 8 cells.size cells.some.1 (omega arith), length_counts cells.bytes.items cells.size)
