-- The header of a short file is read.
use Rattle.std.proofs.Common.{◌≡◌, ◌*◌, ◌/◌, ◌%◌, ◌^◌, ◌<◌, ℕ, List, [], ◌∷◌, ◌++◌, length, refl, ap, sym, ◌∙◌, arith, append_assoc, ◌+◌, Ok, take, codes}
use Rattle.std.{proofs.{Common.replicate, Math.Seq.take-append-add}, specs.{List.AllByRecursion, Int.{to_le_bytes, w32}}}
use Rattle.{tally_base.specs.{declared.header.Mode.{Mode, TheVariants.{T2, T3}}, RecordTypes.{code_of, type_with}}, ptu_definitions.specs.TagList.name_in}
use Rattle.ptu_definitions.specs.{TagList.{code_in, value_in, has_body, is_known, Item, IsHeader}, Fields.{int8, value_under, found_in, header_of}}
use Rattle.ptu_definitions.{specs.{Endings.Whole, Headers.{header_answer, head_of, answer_as}, Words.{word_of, words_of, rest_of}}, proofs.Sound.one_answer}
use Rattle.minimal_file.specs.ShortFiles.{short_type, tag_bytes, empty8, short_header, short_fields, bytes_in, minimal_file}

abbrev type_item : Mode → Item
type_item mode = record { tag = tag_bytes (codes "TTResultFormat_TTTRRecType") int8 (code_of (short_type mode)); body = [] }

abbrev end_item : Item
end_item = record { tag = tag_bytes (codes "Header_End") empty8 0; body = [] }

short-header : (mode : Mode) → IsHeader (take 16 (short_header mode)) (type_item mode ∷ []) end_item (short_header mode)
unfolding short_header name_in code_in value_in has_body is_known
short-header T2 = record {
  front = record { preamble = record { size = refl; magic = refl }; inner = (record { size = refl; known = refl; positive = refl; whole = refl }, refl, tt); bytes = refl };
  item = record { size = refl; known = refl; positive = refl; whole = refl };
  end = refl;
  bytes = refl;
}
short-header T3 = record {
  front = record { preamble = record { size = refl; magic = refl }; inner = (record { size = refl; known = refl; positive = refl; whole = refl }, refl, tt); bytes = refl };
  item = record { size = refl; known = refl; positive = refl; whole = refl };
  end = refl;
  bytes = refl;
}

pub size : (mode : Mode) → length (short_header mode) ≡ 112
unfolding short_header
size T2 = refl
size T3 = refl

stands : (mode : Mode) (more : List ℕ) → head_of (short_header mode ++ more) ≡ short_header mode ++ take 16777104 more
stands mode more = ap (λ n. take (n + 16777104) (short_header mode ++ more)) (sym (size mode)) ∙ take-append-add (short_header mode) more 16777104

answers : (mode : Mode) (more : List ℕ) → Ok (short_fields mode, more) ≡ answer_as (short_header mode ++ more) (Whole (type_item mode ∷ end_item ∷ []))
unfolding short_header name_in code_in value_in value_under found_in header_of type_with
answers T2 more = refl
answers T3 more = refl

pub short-answer : (mode : Mode) (more : List ℕ) → header_answer (short_header mode ++ more) ≡ Ok (short_fields mode, more)
short-answer mode more =
    (one_answer (short_header mode ++ more) (Ok (short_fields mode, more))).0 (
      Whole (type_item mode ∷ end_item ∷ []),
      record {
        start = take 16 (short_header mode);
        inner = type_item mode ∷ [];
        last = end_item;
        header = short_header mode;
        rest = take 16777104 more;
        is_header = short-header mode;
        items_are = refl;
        bytes_are = stands mode more;
      },
      answers mode more,
    )

-- The bytes of words are read back.

pub bytes_in-append : (words more : List ℕ) → bytes_in (words ++ more) ≡ bytes_in words ++ bytes_in more
bytes_in-append [] more = refl
bytes_in-append (word ∷ words) more =
    ap (λ l. to_le_bytes w32 word ++ l) (bytes_in-append words more) ∙ sym (append_assoc (to_le_bytes w32 word) (bytes_in words) (bytes_in more))

pub length-bytes_in : (words : List ℕ) → length (bytes_in words) ≡ 4 * length words
length-bytes_in [] = refl
length-bytes_in (word ∷ words) = omega (arith, length-bytes_in words)

abbrev pub IsWord : ℕ → Type 0
IsWord word = word < 2 ^ 32

pub words_of-bytes_in : (words : List ℕ) → AllByRecursion IsWord words → words_of (bytes_in words) ≡ words
words_of-bytes_in [] h = refl
words_of-bytes_in (word ∷ words) h =
    let small = h.0 in
    let same : word_of (word % 256) (word / 256 % 256) (word / 65536 % 256) (word / 16777216 % 256) ≡ word = omega (arith, small) in
    rw (same, words_of-bytes_in words h.1) refl

pub rest_of-bytes_in : (words : List ℕ) → rest_of (bytes_in words) ≡ []
rest_of-bytes_in [] = refl
rest_of-bytes_in (word ∷ words) = rest_of-bytes_in words

-- The definitions at known modes and words.

pub rows :
    (length (short_header T2) ≡ 112)
    × (minimal_file T3 (0x000001BF ∷ []) ≡ codes "PQTTTR" ++ 0 ∷ 0 ∷ (codes "1.0.00" ++ 0 ∷ 0 ∷ (codes "TTResultFormat_TTTRRecType"
    ++ 0 ∷ 0 ∷ 0 ∷ 0 ∷ 0 ∷ 0 ∷ 255 ∷ 255 ∷ 255 ∷ 255 ∷ 8 ∷ 0 ∷ 0 ∷ 16 ∷ 4 ∷ 3 ∷ 1 ∷ 1 ∷ 0 ∷ 0 ∷ 0 ∷ 0 ∷ (codes "Header_End"
    ++ replicate 22 0 ++ (255 ∷ 255 ∷ 255 ∷ 255 ∷ 8 ∷ 0 ∷ 255 ∷ 255 ∷ 0 ∷ 0 ∷ 0 ∷ 0 ∷ 0 ∷ 0 ∷ 0 ∷ 0 ∷ 0xBF ∷ 1 ∷ 0 ∷ 0 ∷ [])))))
unfolding short_header minimal_file
rows = (refl, refl)
