-- The text of a header at known bytes.
use Rattle.std.proofs.Common.{inl, inr, ◌+◌, ◌≤◌, min, drop, ◌≡◌, ◌-◌, ◌/◌, ◌%◌, ℕ, zero, suc, List, [], ◌∷◌, ◌++◌, length, take, replicate, refl, codes, ◌∙◌}
use Rattle.std.proofs.{Common.{◌<◌, false, map, ap, sym, append_assoc, append-nil, arith, rules, true}, Math.Seq.{drop-append_seam, take-append_seam}}
use Rattle.{std.{proofs.lemmas.{List.take_all, Bool.cases_lt}, specs.Fmt.digits}, tally_base.specs.{Hexadecimal.hexadecimal, declared.event.Event.Event}}
use Rattle.tally_base.{specs.{declared.event.EventKind.TheVariants.{Photon, Marker}, Columns.rows}, proofs.BlockRows.{length-rows, more_rows, rows-last}}
use Rattle.ptu_definitions.specs.{TagList.{name_in, index_in, code_in, value_in, has_body, is_known}, Headers.{seen, seen_from, seen_preamble}}
use Rattle.list_out.specs.{HeaderText.{head_text, body_text, kind_with, item_text, preamble_text, shown_text, header_text}, Lines.{event_text, events_text}}

abbrev start_bytes : List ℕ
start_bytes = (codes "PQTTTR" ++ 0 ∷ 0 ∷ []) ++ codes "1.0.00" ++ 0 ∷ 0 ∷ []

-- a little-endian number of so many bytes
abbrev number : ℕ → ℕ → List ℕ
number zero value = []
number (suc size) value = (value % 256) ∷ number size (value / 256)

-- a tag: an identifier of 32 bytes, an index, a type code and a value
abbrev tag : List ℕ → ℕ → ℕ → ℕ → List ℕ
tag ident index code value = ident ++ replicate (32 - length ident) 0 ++ number 4 index ++ number 4 code ++ number 8 value

-- a tag that is no element of an array
abbrev alone : List ℕ → ℕ → ℕ → List ℕ
alone ident code value = tag ident 0xFFFFFFFF code value

abbrev type_tag : List ℕ
type_tag = alone (codes "TTResultFormat_TTTRRecType") 0x10000008 0x01010304

abbrev end_tag : List ℕ
end_tag = alone (codes "Header_End") 0xFFFF0008 0

abbrev short_header : List ℕ
short_header = start_bytes ++ type_tag ++ end_tag

abbrev start_text : List ℕ
start_text = codes "magic 5051545454520000\nversion 312E302E30300000\n"

abbrev type_text : List ℕ
type_text = codes "tag TTResultFormat_TTTRRecType -1 tyInt8 16843524\n"

abbrev end_text : List ℕ
end_text = codes "tag Header_End -1 tyEmpty8 -\n"

-- the lines of events of which none is late
abbrev pub lines : List Event → List ℕ
lines es = events_text (map (λ e. (e, false)) es)

-- rows after others
rows-join : {A : Type 0} (f : ℕ → A) (a n : ℕ) → rows f (a + n) ≡ rows f a ++ rows (λ i. f (a + i)) n
rows-join f a zero = let none : a + 0 ≡ a = omega arith in ap (rows f) none ∙ sym (append-nil (rows f a))
rows-join f a (suc n) =
    let next : a + suc n ≡ a + n + 1 = omega arith in
    ap (rows f) next ∙ more_rows f (a + n) ∙ ap (λ l. l ++ f (a + n) ∷ []) (rows-join f a n)
    ∙ append_assoc (rows f a) (rows (λ i. f (a + i)) n) (f (a + n) ∷ [])

take-rows : {A : Type 0} (f : ℕ → A) (k n : ℕ) → k ≤ n → take k (rows f n) ≡ rows f k
take-rows f k n le =
    let whole : n ≡ k + (n - k) = omega (arith, le) in
    ap (λ j. take k (rows f j)) whole ∙ ap (take k) (rows-join f k (n - k))
    ∙ ap (λ j. take j (rows f k ++ rows (λ i. f (k + i)) (n - k))) (sym (length-rows f k)) ∙ take-append_seam (rows f k) _

-- so many rows at most, from a place on
pub rows-part : {A : Type 0} (f : ℕ → A) (a n m k : ℕ) → a ≤ n → k ≡ min m (n - a) → take m (drop a (rows f n)) ≡ rows (λ i. f (a + i)) k
rows-part f a n m k le is =
    let g = λ (i : ℕ). f (a + i) in
    let whole : n ≡ a + (n - a) = omega (arith, le) in
    let back : drop a (rows f n) ≡ rows g (n - a) =
    ap (λ j. drop a (rows f j)) whole ∙ ap (drop a) (rows-join f a (n - a))
    ∙ ap (λ j. drop j (rows f a ++ rows g (n - a))) (sym (length-rows f a)) ∙ drop-append_seam (rows f a) _ in
    ap (take m) back ∙ elim (cases_lt (n - a) m) [
      | inl few ↦
          let all : n - a ≡ k = omega (arith, is, few) in
          take_all m (rows g (n - a)) (omega (arith, few, length-rows g (n - a))) ∙ ap (rows g) all
      | inr many ↦
          let all : m ≡ k = omega (arith, is, many) in
          take-rows g m (n - a) many ∙ ap (rows g) all
    ]

lines-push : (es : List Event) (e : Event) → lines (es ++ e ∷ []) ≡ lines es ++ event_text e false
lines-push [] e = append-nil (event_text e false)
lines-push (x ∷ es) e = ap (λ t. event_text x false ++ t) (lines-push es e) ∙ sym (append_assoc (event_text x false) (lines es) (event_text e false))

-- one line before those that are written
pub one-before : (f : ℕ → Event) (n : ℕ) (e : Event) (behind now all : List ℕ) → 0 < n → e ≡ f (n - 1)
    → now ≡ event_text e false ++ behind → lines (rows f n) ++ behind ≡ all → lines (rows f (n - 1)) ++ now ≡ all
one-before f n e behind now all some is written whole = search (rules, arith, lines, append_assoc, rows-last, lines-push)

-- headers, and what is printed of them
abbrev headers : List (List ℕ × List ℕ)
headers =
    -- the header of a file with two tags
    (short_header, start_text ++ type_text ++ end_text)
    -- The second tag is cut, and it prints as nothing.
    ∷ (take 100 short_header, start_text ++ type_text)
    -- The first tag is cut.
    ∷ (take 63 short_header, start_text)
    -- The preamble is cut.
    ∷ (take 15 short_header, [])
    -- no file of the format
    ∷ (codes "PQTTTS" ++ replicate 10 0, [])
    -- The last two bytes of the magic are printed as they are.
    ∷ ((codes "PQTTTR" ++ 1 ∷ 255 ∷ []) ++ replicate 8 171, codes "magic 50515454545201FF\nversion ABABABABABABABAB\n")
    -- After the end of the header nothing is printed.
    ∷ (short_header ++ type_tag, start_text ++ type_text ++ end_text)
    -- A space and a backslash in a name are printed as digits.
    ∷ (start_bytes ++ tag (codes "A B\\") 2 0x11000008 0xFF ++ type_tag ++ end_tag, start_text ++ codes "tag A\\x20B\\x5C 2 tyBitSet64 00000000000000FF\n" ++ type_text ++ end_text)
    -- A name ends before its first NUL, and an empty one prints as nothing.
    ∷ (start_bytes ++ alone (codes "!~" ++ 127 ∷ 31 ∷ 255 ∷ 0 ∷ codes "B") 0xFFFF0008 0 ++ alone [] 0xFFFF0008 0, start_text ++ codes "tag !~\\x7F\\x1F\\xFF -1 tyEmpty8 -\ntag  -1 tyEmpty8 -\n")
    -- a name of 32 bytes with no NUL
    ∷ (start_bytes ++ alone (replicate 32 65) 0xFFFF0008 0, start_text ++ codes "tag AAAAAAAAAAAAAAAAAAAAAAAAAAAAAAAA -1 tyEmpty8 -\n")
    -- A body is cut, and its line has no newline.
    ∷ (start_bytes ++ alone (codes "B") 0xFFFFFFFF 3 ++ 1 ∷ 2 ∷ [], start_text ++ codes "tag B -1 tyBinaryBlob 3 0102")
    -- The body is whole.
    ∷ (start_bytes ++ alone (codes "B") 0xFFFFFFFF 3 ++ 1 ∷ 2 ∷ 255 ∷ [], start_text ++ codes "tag B -1 tyBinaryBlob 3 0102FF\n")
    -- A body as text ends before its first NUL.
    ∷ (start_bytes ++ (alone (codes "S") 0x4001FFFF 5 ++ codes "a " ++ 0 ∷ codes "bc") ++ end_tag, start_text ++ codes "tag S -1 tyAnsiString 5 a \n" ++ end_text)
    -- The newline comes after the last byte of the body, printed or not.
    ∷ (start_bytes ++ alone (codes "S") 0x4001FFFF 5 ++ codes "a" ++ 0 ∷ codes "bc", start_text ++ codes "tag S -1 tyAnsiString 5 a")
    ∷ (start_bytes ++ alone (codes "S") 0x4001FFFF 6 ++ codes " \\~" ++ 127 ∷ 31 ∷ 255 ∷ [], start_text ++ codes "tag S -1 tyAnsiString 6  \\x5C~\\x7F\\x1F\\xFF\n")
    -- A body of length 0 prints as nothing after the space.
    ∷ (start_bytes ++ alone (codes "S") 0x4001FFFF 0 ++ end_tag, start_text ++ codes "tag S -1 tyAnsiString 0 \n" ++ end_text)
    -- A wide string is printed as bytes.
    ∷ (start_bytes ++ (alone (codes "W") 0x4002FFFF 4 ++ 65 ∷ 0 ∷ 0 ∷ 0 ∷ []) ++ end_tag, start_text ++ codes "tag W -1 tyWideString 4 41000000\n" ++ end_text)
    -- The bytes of a body are in the order of the file.
    ∷ (start_bytes ++ (alone (codes "F") 0x2001FFFF 8 ++ number 8 0x3FF0000000000000) ++ end_tag, start_text ++ codes "tag F -1 tyFloat8Array 8 000000000000F03F\n" ++ end_text)
    -- A truth value is true where a bit of it is set.
    ∷ (start_bytes ++ tag (codes "T") 0 8 0 ++ tag (codes "T") 1 8 2 ++ tag (codes "T") 0x7FFFFFFF 8 0x8000000000000000, start_text ++ codes "tag T 0 tyBool8 false\ntag T 1 tyBool8 true\ntag T 2147483647 tyBool8 true\n")
    -- An index and a number have a sign.
    ∷ (start_bytes ++ tag (codes "N") 0x80000000 0x10000008 0x8000000000000000 ++ tag (codes "N") 0xFFFFFFFE 0x10000008 0, start_text ++ codes "tag N -2147483648 tyInt8 -9223372036854775808\ntag N -2 tyInt8 0\n")
    ∷ (start_bytes ++ alone (codes "C") 0x12000008 0xABC ++ alone (codes "D") 0x20000008 0x3E6AD7F29ABCAF48 ++ alone (codes "E") 0x21000008 1, start_text ++ codes "tag C -1 tyColor8 0000000000000ABC\ntag D -1 tyFloat8 3E6AD7F29ABCAF48\ntag E -1 tyTDateTime 0000000000000001\n")
    -- A tag that is refused prints as nothing, and what is after it neither.
    ∷ (start_bytes ++ type_tag ++ alone (codes "X") 0x30000008 0 ++ end_tag, start_text ++ type_text)
    ∷ (start_bytes ++ type_tag ++ alone (codes "X") 0x4001FFFF 0xFFFFFFFFFFFFFFFF, start_text ++ type_text)
    -- The end of a header may have a body.
    ∷ (start_bytes ++ (alone (codes "Header_End") 0x4001FFFF 2 ++ codes "ok") ++ 1 ∷ 0 ∷ 0 ∷ 0 ∷ [], start_text ++ codes "tag Header_End -1 tyAnsiString 2 ok\n")
    ∷ []

pub known_headers : map (λ (row : List ℕ × List ℕ). header_text row.0) headers ≡ map (λ (row : List ℕ × List ℕ). row.1) headers
unfolding header_text shown_text preamble_text seen seen_from seen_preamble item_text head_text
    body_text kind_with name_in index_in code_in value_in has_body is_known hexadecimal digits
known_headers = refl

pub known_lines :
    (event_text (record { place = 3; kind = Photon 0 0; time = 4101 }) false ≡ codes "3 photon 0 4101 0\n")
    × (event_text (record { place = 1; kind = Marker 15; time = 4111 }) false ≡ codes "1 marker 15 4111\n")
    × (event_text (record { place = 3; kind = Photon 64 32767; time = 7 }) true ≡ codes "3 photon 64 7 32767 late\n")
    -- one line after the other
    × (events_text ((record { place = 1; kind = Photon 0 0; time = 9 }, false) ∷ (record { place = 2; kind = Marker 1; time = 7 }, true) ∷ []) ≡ codes "1 photon 0 9 0\n2 marker 1 7 late\n")
unfolding digits event_text
known_lines = (refl, refl, refl, refl)
