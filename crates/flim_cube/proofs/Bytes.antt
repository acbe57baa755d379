-- Bytes that are put, and the counts that they make.
use Rattle.std.proofs.Common.{◌≡◌, ◌∙◌, ℕ, zero, suc, ◌+◌, ◌*◌, ◌/◌, ◌%◌, ◌<◌, ◌≤◌, List, [], ◌∷◌, ◌++◌, length, get_or, set, take, replicate, refl, ap, sym}
use Rattle.std.proofs.{Common.{zero-add, inl, inr, arith, ◌≢◌, slice_index, rules}, lemmas.{Bool.{cases_eq, cases_lt}, List.{ext_get_or, get_or-set_same}}}
use Rattle.std.proofs.lemmas.List.{get_or-set_other, get_or_past, get_or-replicate, get_or_append_left, get_or-append_right, length-set, length-replicate}
use Rattle.std.{proofs.lemmas.{List.{take_all, FromFn.get_or-map-range_with_len}, Nat.{mod-mul-add, mul-le, row_fits}}, specs.Int.{w16, w64, byte_worth}}
use Rattle.{std.specs.Int.{sum_through, from_le_bytes, div_ceil}, flim_cube.specs.Bytes.{byte_in, count_in, counts_in, length_counts}}

-- A byte that is put in a list of lists is there, and the others are as before.
pub put_own : (bytes : List (List ℕ)) (entry : List ℕ) (place byte : ℕ) → place / 8 < length bytes
    → length entry ≡ 8 → byte_in (set bytes (place / 8) (set entry (place % 8) byte)) place ≡ byte
unfolding byte_in
put_own bytes entry place byte inside eight = search (rules, arith, get_or-set_same)

one_place : (a b : ℕ) → a / 8 ≡ b / 8 → a % 8 ≡ b % 8 → a ≡ b
one_place a b entries bytes = omega (arith, entries, bytes)

pub put_other : (bytes : List (List ℕ)) (entry : List ℕ) (place byte other : ℕ) → place / 8 < length bytes → entry ≡ get_or bytes (place / 8) []
    → other ≢ place → byte_in (set bytes (place / 8) (set entry (place % 8) byte)) other ≡ byte_in bytes other
unfolding byte_in
put_other bytes entry place byte other inside is apart = search (rules, arith, cases_eq, one_place, get_or-set_same, get_or-set_other)

abbrev pub eight_zeros : List ℕ
eight_zeros = replicate 8 0

zero_read : (n i : ℕ) → get_or {A = ℕ} (replicate n 0) i 0 ≡ 0
zero_read zero i = refl
zero_read (suc n) zero = refl
zero_read (suc n) (suc i) = zero_read n i

-- Bytes of 0 after the last change none.
zeros_read : (n entry byte : ℕ) → get_or {A = ℕ} (get_or (replicate n eight_zeros) entry []) byte 0 ≡ 0
zeros_read n entry byte = search (rules, arith, cases_lt, get_or-replicate, eight_zeros, zero_read, get_or_past, length-replicate)

pub more_zeros : (bytes : List (List ℕ)) (n count place : ℕ) → length bytes ≤ n
    → byte_in (take n bytes ++ replicate count eight_zeros) place ≡ byte_in bytes place
unfolding byte_in
more_zeros bytes n count place all =
    let entry = place / 8 in
    search (rules, arith, eight_zeros, take_all, cases_lt, get_or_append_left, get_or-append_right, zeros_read, get_or_past)

pub nothing_there : (place : ℕ) → byte_in [] place ≡ 0
unfolding byte_in
nothing_there place = refl

-- Sums through a number: of equal terms, and of terms of which the first is more by so much.
sum_agree : (f g : ℕ → ℕ) (k : ℕ) → ((i : ℕ) → i ≤ k → f i ≡ g i) → sum_through f k ≡ sum_through g k
sum_agree f g zero same = same 0 (omega arith)
sum_agree f g (suc k) same =
    let so_far = sum_agree f g k (λ i le. same i (omega (arith, le))) in
    search (rules, arith)

sum_first : (f g : ℕ → ℕ) (more k : ℕ) → f 0 ≡ g 0 + more → ((i : ℕ) → 0 < i → i ≤ k → f i ≡ g i) → sum_through f k ≡ sum_through g k + more
sum_first f g more zero first same = first
sum_first f g more (suc k) first same =
    let so_far = sum_first f g more k first (λ i some le. same i some (omega (arith, le))) in
    search (rules, arith)

sum_low : (f : ℕ → ℕ) (k : ℕ) → f 0 ≤ sum_through f k
sum_low f zero = omega arith
sum_low f (suc k) = omega (arith, sum_low f k)

pub first_row : (size cell : ℕ) → 0 * size + cell ≡ cell
first_row size cell = omega arith

-- A count has the bytes that make it.
pub count_same : (bytes bytes' : List (List ℕ)) (size cell : ℕ)
    → ((i : ℕ) → i < 8 → byte_in bytes' (i * size + cell) ≡ byte_in bytes (i * size + cell)) → count_in bytes' size cell ≡ count_in bytes size cell
unfolding count_in
count_same bytes bytes' size cell same = search (rules, arith, sum_agree)

-- Where the lowest byte of a count is more by so much, the count is.
pub count_more : (bytes bytes' : List (List ℕ)) (size cell more : ℕ) → byte_in bytes' cell ≡ byte_in bytes cell + more → ((i : ℕ) → 0 < i → i < 8 → byte_in bytes' (i * size + cell) ≡ byte_in bytes (i * size + cell)) → count_in bytes' size cell ≡ count_in bytes size cell + more
unfolding count_in
count_more bytes bytes' size cell more low same = sum_first (λ i. byte_worth i (byte_in bytes' (i * size + cell))) (λ i. byte_worth i (byte_in bytes (i * size + cell))) more 7 (ap (byte_in bytes') (first_row size cell) ∙ low ∙ sym (ap (λ place. byte_in bytes place + more) (first_row size cell))) (λ i some le. ap (byte_worth i) (same i some (omega (arith, le))))

-- A count is at least its lowest byte.
pub low_byte : (bytes : List (List ℕ)) (size cell : ℕ) → byte_in bytes cell ≤ count_in bytes size cell
unfolding count_in
low_byte bytes size cell = search (rules, arith, first_row, sum_low)

pub row_behind : (i size cell : ℕ) → 0 < i → size ≤ i * size + cell
row_behind i size cell some = omega (arith, mul-le 1 size i size (omega (arith, some)) (omega arith))

worth_none : (i : ℕ) → byte_worth i 0 ≡ 0
worth_none i = search (rules, arith)

none_through : (k : ℕ) → sum_through (λ i. 0) k ≡ 0
none_through zero = refl
none_through (suc k) = omega (arith, none_through k)

-- Where the other bytes are all 0, a count is its lowest byte.
pub count_low : (bytes : List (List ℕ)) (size cell : ℕ) → ((place : ℕ) → size ≤ place → byte_in bytes place ≡ 0) → count_in bytes size cell ≡ byte_in bytes cell
unfolding count_in
count_low bytes size cell behind = search (rules, arith, sum_first, first_row, zero-add, row_behind, worth_none, none_through)

pub get_counts : (bytes : List (List ℕ)) (size cell : ℕ) → cell < size → slice_index (counts_in bytes size) cell ≡ count_in bytes size cell
unfolding counts_in
get_counts bytes size cell inside = get_or-map-range_with_len (count_in bytes size) 0 size cell cell 0 inside (omega arith)

-- Where all bytes are 0, so is each count.
pub count_none : (bytes : List (List ℕ)) (size : ℕ) → ((place : ℕ) → byte_in bytes place ≡ 0) → counts_in bytes size ≡ replicate size 0
count_none bytes size zeros =
    ext_get_or 0 (counts_in bytes size) (replicate size 0) (length_counts bytes size ∙ sym (length-replicate size 0)) (λ i lt.
    let inside : i < size = omega (arith, lt, length_counts bytes size) in
    get_counts bytes size i inside ∙ count_low bytes size i (λ place le. zeros place) ∙ zeros i ∙ sym (get_or-replicate size i 0 0 inside))

-- Where the bytes of a count are these, it is the number that they make.
pub count_from : (bytes : List (List ℕ)) (size cell : ℕ) (parts : List ℕ)
    → ((i : ℕ) → i < 8 → byte_in bytes (i * size + cell) ≡ slice_index parts i) → count_in bytes size cell ≡ from_le_bytes w64 parts
unfolding count_in
count_from bytes size cell parts same = search (rules, arith, sum_agree)

pub counts_same : (bytes bytes' : List (List ℕ)) (size : ℕ)
    → ((cell : ℕ) → cell < size → count_in bytes' size cell ≡ count_in bytes size cell) → counts_in bytes' size ≡ counts_in bytes size
counts_same bytes bytes' size same =
    ext_get_or 0 (counts_in bytes' size) (counts_in bytes size) (length_counts bytes' size ∙ sym (length_counts bytes size)) (λ i lt.
    let inside : i < size = omega (arith, lt, length_counts bytes' size) in
    get_counts bytes' size i inside ∙ same i inside ∙ sym (get_counts bytes size i inside))

-- Where one count is another number and the rest are as before, so is the list of the counts.
pub counts_set : (bytes bytes' : List (List ℕ)) (size at count : ℕ) → at < size → count_in bytes' size at ≡ count → ((cell : ℕ) → cell < size → cell ≢ at → count_in bytes' size cell ≡ count_in bytes size cell) → counts_in bytes' size ≡ set (counts_in bytes size) at count
counts_set bytes bytes' size at count low own others =
    ext_get_or 0 (counts_in bytes' size) (set (counts_in bytes size) at count)
    (length_counts bytes' size ∙ sym (length-set (counts_in bytes size) at count ∙ length_counts bytes size)) (λ i lt.
    let inside : i < size = omega (arith, lt, length_counts bytes' size) in
    let here : at < length (counts_in bytes size) = omega (arith, low, length_counts bytes size) in
    elim (cases_eq i at) [
      | inl same ↦ get_counts bytes' size i inside ∙ ap (count_in bytes' size) same ∙ own
          ∙ sym (get_or-set_same (counts_in bytes size) at count 0 here) ∙ ap (λ i. get_or (set (counts_in bytes size) at count) i 0) (sym same)
      | inr apart ↦ get_counts bytes' size i inside ∙ others i inside apart ∙ sym (get_counts bytes size i inside)
          ∙ sym (get_or-set_other (counts_in bytes size) at i count 0 apart)
    ])

-- The byte of a cell is none of another.
pub other_cell : (size i cell at : ℕ) → cell < size → cell ≢ at → (i * size + cell) % size ≢ at
other_cell size i cell at inside apart = λ same. apart (sym (mod-mul-add i size cell inside) ∙ same)

pub each_of_eight : (P : ℕ → Type 0) → P 0 → P 1 → P 2 → P 3 → P 4 → P 5 → P 6 → P 7 → (i : ℕ) → i < 8 → P i
each_of_eight P p0 p1 p2 p3 p4 p5 p6 p7 i low = search (rules, arith)

-- Where all but the two lowest bytes are 0, a count is the number that these make.
pub count_two : (bytes : List (List ℕ)) (size cell : ℕ) → ((place : ℕ) → 2 * size ≤ place → byte_in bytes place ≡ 0)
    → count_in bytes size cell ≡ from_le_bytes w16 (byte_in bytes (0 * size + cell) ∷ byte_in bytes (1 * size + cell) ∷ [])
count_two bytes size cell behind =
    let low = byte_in bytes (0 * size + cell) in
    let high = byte_in bytes (1 * size + cell) in
    let parts : List ℕ = low ∷ high ∷ 0 ∷ 0 ∷ 0 ∷ 0 ∷ 0 ∷ 0 ∷ [] in
    let whole : from_le_bytes w64 parts ≡ from_le_bytes w16 (low ∷ high ∷ []) = omega arith in
    count_from bytes size cell parts (each_of_eight (λ i. byte_in bytes (i * size + cell) ≡ slice_index parts i) refl refl (behind (2 * size + cell) (omega arith)) (behind (3 * size + cell) (omega arith)) (behind (4 * size + cell) (omega arith)) (behind (5 * size + cell) (omega arith)) (behind (6 * size + cell) (omega arith)) (behind (7 * size + cell) (omega arith)))
    ∙ whole

-- The bytes that are there have their places in the entries.
pub placed : (size wide i at entries : ℕ) → entries ≡ div_ceil (wide * size) 8 → i < wide → at < size → i * size + at < 8 * entries
placed size wide i at entries there low inside = omega (arith, there, row_fits i size wide size low (omega arith), inside)

pub first_placed : (size wide at entries : ℕ) → entries ≡ div_ceil (wide * size) 8 → 1 ≤ wide → at < size → at < 8 * entries
first_placed size wide at entries there some inside = omega (arith, placed size wide 0 at entries there some inside)
