-- Counts whose bytes stand apart: first the lowest byte of each count, then the second byte of each, and so on.
use Rattle.std.specs.{Prelude.{ℕ, ◌+◌, ◌*◌, ◌/◌, ◌%◌, List, [], map, length, ◌≡◌, slice_index_or}, Int.{byte_worth, sum_through}, List.range_with_len}
use Rattle.std.proofs.lemmas.List.FromFn.{length-map-range_with_len}

-- the byte at a place, where each list has eight of them and they are numbered one after the other; after the last it is 0
unfoldable pub byte_in : List (List ℕ) → ℕ → ℕ
byte_in bytes place = slice_index_or (slice_index_or bytes (place / 8) []) (place % 8) 0

-- the count of one of so many cells, by its eight bytes
unfoldable pub count_in : List (List ℕ) → ℕ → ℕ → ℕ
count_in bytes size cell = sum_through (λ i. byte_worth i (byte_in bytes (i * size + cell))) 7

-- the counts of all cells
unfoldable pub counts_in : List (List ℕ) → ℕ → List ℕ
counts_in bytes size = map (count_in bytes size) (range_with_len 0 size)

pub length_counts : (bytes : List (List ℕ)) (size : ℕ) → length (counts_in bytes size) ≡ size
unfolding counts_in
length_counts bytes size = length-map-range_with_len (count_in bytes size) 0 size
