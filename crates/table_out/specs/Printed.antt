-- How a table of any kind is printed.
use Rattle.std.specs.Prelude.{ℕ, zero, suc, ◌==◌, List, [], ◌++◌, codes, decimal, if◌then◌else◌}
use Rattle.{tally_base.specs.Tally.History, list_out.specs.Lines.line}

-- the texts of the first places, one after the other
abbrev pub texts : (ℕ → List ℕ) → ℕ → List ℕ
texts text zero = []
texts text (suc n) = texts text n ++ text n

-- the texts of the first places, by what the table stands for
abbrev pub texts_of : {A : Type 0} → (ℕ → A → List ℕ) → ℕ → A → List ℕ
texts_of text size h = texts (λ place. text place h) size

-- the lines of the first rows of cells, each with so many columns
abbrev pub rows_of : {A : Type 0} → (ℕ → ℕ → A → List ℕ) → (ℕ → ℕ) → ℕ → A → List ℕ
rows_of text columns rows = texts_of (λ row. texts_of (text row) (columns row)) rows

-- the number of a cell and its count. A cell that is 0 has no line.
abbrev pub cell_line : ℕ → ℕ → List ℕ
cell_line cell count = if count == 0 then [] else line (decimal cell) (decimal count)

-- the two numbers of a cell and its count. A cell that is 0 has no line.
abbrev pub pair_line : ℕ → ℕ → ℕ → List ℕ
pair_line first second count = if count == 0 then [] else decimal first ++ codes " " ++ line (decimal second) (decimal count)

-- How a table is printed.
pub record Printed : Type 0 where
  -- the name of its kind
  pub word : List ℕ
  -- its settings, as its first line has them after its number
  pub settings : List ℕ
  -- how many rows of cells it has, and how many columns a row has
  pub rows : ℕ
  pub columns : ℕ → ℕ
  -- the line of the cell in a row and a column
  pub cell : ℕ → ℕ → History → List ℕ
  -- the lines after the cells
  pub rest : History → List ℕ

-- its first line, by its number
abbrev pub first_line : Printed → ℕ → List ℕ
first_line it number = it.word ++ codes " " ++ decimal number ++ it.settings ++ codes "\n"

-- the lines of a row of its cells
abbrev pub row_lines : Printed → ℕ → History → List ℕ
row_lines it row h = texts_of (it.cell row) (it.columns row) h

-- the lines of its cells, row by row
abbrev pub cell_lines : Printed → History → List ℕ
cell_lines it h = rows_of it.cell it.columns it.rows h

-- its lines: the first, the cells by rows, and the rest
abbrev pub table_lines : Printed → ℕ → History → List ℕ
table_lines it number h = first_line it number ++ cell_lines it h ++ it.rest h
