-- The definitions at known bytes.
use Rattle.std.proofs.Common.{◌≡◌, ◌-◌, ◌/◌, ◌%◌, ℕ, zero, suc, List, [], ◌∷◌, ◌++◌, None, Some, Ok, Err, length, take, replicate, refl, codes, negsuc, pos}
use Rattle.tally_base.specs.declared.{header.RecordType.TheVariants.HydraHarp2T3, fault.Fault.TheVariants.{BadMagic, TruncatedHeader, TagType, TagLength}}
use Rattle.{tally_base.specs.{declared.fault.Fault.TheVariants.{NoRecordType, UnknownRecordType}, RecordTypes.type_with}, ptu_definitions.specs.TagList.name_in}
use Rattle.ptu_definitions.specs.{TagList.{code_in, value_in, has_body, is_known}, Endings.{walk, ending}, Fields.{value_under, found_in, header_of}}
use Rattle.ptu_definitions.specs.Headers.{header_answer, seen_from, seen, seen_preamble}

abbrev version_bytes : List ℕ
version_bytes = codes "1.0.00" ++ 0 ∷ 0 ∷ []

abbrev start_bytes : List ℕ
start_bytes = (codes "PQTTTR" ++ 0 ∷ 0 ∷ []) ++ version_bytes

-- a tag: an identifier of 32 bytes, the index -1, a type code and a value
abbrev tag : List ℕ → List ℕ → List ℕ → List ℕ
tag ident code value = ident ++ replicate (32 - length ident) 0 ++ replicate 4 255 ++ code ++ value

abbrev type_tag : List ℕ → List ℕ → List ℕ
type_tag code value = tag (codes "TTResultFormat_TTTRRecType") code (value ++ 0 ∷ 0 ∷ 0 ∷ 0 ∷ [])

abbrev end_tag : List ℕ
end_tag = tag (codes "Header_End") (8 ∷ 0 ∷ 255 ∷ 255 ∷ []) (replicate 8 0)

abbrev known : List ℕ
known = start_bytes ++ type_tag (8 ∷ 0 ∷ 0 ∷ 16 ∷ []) (4 ∷ 3 ∷ 1 ∷ 1 ∷ []) ++ end_tag

abbrev type_item : List ℕ
type_item = type_tag (8 ∷ 0 ∷ 0 ∷ 16 ∷ []) (4 ∷ 3 ∷ 1 ∷ 1 ∷ [])

-- a number of so many bytes
abbrev number : ℕ → ℕ → List ℕ
number zero value = []
number (suc size) value = (value % 256) ∷ number size (value / 256)

abbrev numbered : List ℕ → ℕ → ℕ → ℕ → List ℕ
numbered ident index code value = ident ++ replicate (32 - length ident) 0 ++ number 4 index ++ number 4 code ++ number 8 value

abbrev alone : List ℕ → ℕ → ℕ → List ℕ
alone ident code value = numbered ident 0xFFFFFFFF code value

abbrev guid : List ℕ
guid = codes "{00000000-0000-0000-0000-000000000001}" ++ 0 ∷ 0 ∷ []

-- a longer header, with tags such as instruments write
abbrev bench_header : List ℕ
bench_header =
    start_bytes
    ++ (alone (codes "File_GUID") 0x4001FFFF 40 ++ guid)
    ++ alone (codes "File_CreatingTime") 0x21000008 0x40E6000000000000
    ++ (alone (codes "CreatorSW_Name") 0x4001FFFF 8 ++ codes "TestSW" ++ 0 ∷ 0 ∷ [])
    ++ (alone (codes "HW_Type") 0x4001FFFF 8 ++ codes "Bench" ++ 0 ∷ 0 ∷ 0 ∷ [])
    ++ numbered (codes "HWInpChan_Enabled") 0 0x00000008 1
    ++ numbered (codes "HWInpChan_Enabled") 1 0x00000008 0xFFFFFFFFFFFFFFFF
    ++ alone (codes "MeasDesc_AcquisitionTime") 0x10000008 60000
    ++ alone (codes "MeasDesc_GlobalResolution") 0x20000008 0x3E6AD7F29ABCAF48
    ++ alone (codes "MeasDesc_Resolution") 0x20000008 0x3DC19799812DEA11
    ++ alone (codes "TTResultFormat_TTTRRecType") 0x10000008 16843524
    ++ alone (codes "TTResult_NumberOfRecords") 0x10000008 9
    ++ (alone (codes "Bench_Blob") 0xFFFFFFFF 3 ++ 1 ∷ 2 ∷ 255 ∷ [])
    ++ alone (codes "Fast_Load_End") 0xFFFF0008 0
    ++ alone (codes "Header_End") 0xFFFF0008 0

abbrev bench_words : List ℕ
bench_words =
    number 4 0xFE000001 ++ number 4 0x86000006 ++ number 4 0x00019006 ++ number 4 0x02032008
    ++ number 4 0x00401014 ++ number 4 0x024E2015 ++ number 4 0xFE000000 ++ number 4 0x88000000
    ++ number 4 0x00019002

pub rows :
    (header_answer (known ++ 7 ∷ [])
    ≡ Ok (record { record_type = HydraHarp2T3; count = None; global = None; resolution = None; version = version_bytes }, 7 ∷ []))
    × (header_answer (take 100 known) ≡ Err (TruncatedHeader 100))
    × (header_answer (codes "PQTTTS") ≡ Err BadMagic)
    × (header_answer (codes "PQ") ≡ Err (TruncatedHeader 2))
    × (header_answer (start_bytes ++ type_tag (8 ∷ 0 ∷ 0 ∷ 48 ∷ []) (4 ∷ 3 ∷ 1 ∷ 1 ∷ [])) ≡ Err (TagType 1 0x30000008))
    × (header_answer (start_bytes ++ tag (codes "A") (255 ∷ 255 ∷ 1 ∷ 64 ∷ []) (replicate 8 255)) ≡ Err (TagLength 1 (negsuc 0)))
    × (header_answer (start_bytes ++ type_tag (8 ∷ 0 ∷ 0 ∷ 0 ∷ []) (4 ∷ 3 ∷ 1 ∷ 1 ∷ []) ++ end_tag) ≡ Err NoRecordType)
    × (header_answer (start_bytes ++ type_tag (8 ∷ 0 ∷ 0 ∷ 16 ∷ []) (8 ∷ 3 ∷ 1 ∷ 0 ∷ []) ++ end_tag) ≡ Err (UnknownRecordType (pos 0x00010308)))
    × (header_answer (start_bytes ++ type_tag (8 ∷ 0 ∷ 0 ∷ 16 ∷ []) (4 ∷ 3 ∷ 1 ∷ 1 ∷ []) ++ type_tag (8 ∷ 0 ∷ 0 ∷ 16 ∷ []) (3 ∷ 3 ∷ 1 ∷ 0 ∷ []) ++ end_tag)
    ≡ Ok (record { record_type = HydraHarp2T3; count = None; global = None; resolution = None; version = version_bytes }, []))
    -- no bytes at all
    × (header_answer [] ≡ Err (TruncatedHeader 0))
    -- a header with no other tag
    × (header_answer (start_bytes ++ end_tag) ≡ Err NoRecordType)
    -- An item named Header_End ends the list, whatever its type, and its body is passed over.
    × (header_answer (start_bytes ++ type_item ++ tag (codes "Header_End") (255 ∷ 255 ∷ 1 ∷ 64 ∷ []) (2 ∷ replicate 7 0) ++ codes "ok" ++ 7 ∷ 8 ∷ [])
    ≡ Ok (record { record_type = HydraHarp2T3; count = None; global = None; resolution = None; version = version_bytes }, 7 ∷ 8 ∷ []))
    × (header_answer (start_bytes ++ type_item ++ tag (codes "Header_End") (8 ∷ 0 ∷ 0 ∷ 16 ∷ []) (replicate 8 255) ++ 7 ∷ [])
    ≡ Ok (record { record_type = HydraHarp2T3; count = None; global = None; resolution = None; version = version_bytes }, 7 ∷ []))
    -- A Header_End whose body is cut doesn't end the list.
    × (header_answer (start_bytes ++ type_item ++ tag (codes "Header_End") (255 ∷ 255 ∷ 1 ∷ 64 ∷ []) (2 ∷ replicate 7 0) ++ codes "o")
    ≡ Err (TruncatedHeader 113))
    -- What stands after the first NUL of an identifier isn't compared.
    × (header_answer (start_bytes ++ tag (codes "TTResultFormat_TTTRRecType" ++ 0 ∷ codes "more") (8 ∷ 0 ∷ 0 ∷ 16 ∷ []) (4 ∷ 3 ∷ 1 ∷ 1 ∷ replicate 4 0) ++ tag
    (codes "Header_End" ++ 0 ∷ codes "x") (8 ∷ 0 ∷ 255 ∷ 255 ∷ []) (replicate 8 0))
    ≡ Ok (record { record_type = HydraHarp2T3; count = None; global = None; resolution = None; version = version_bytes }, []))
    -- What stands before it is.
    × (header_answer (start_bytes ++ tag (codes "TTResultFormat_TTTRRecType2") (8 ∷ 0 ∷ 0 ∷ 16 ∷ []) (4 ∷ 3 ∷ 1 ∷ 1 ∷ replicate 4 0) ++ end_tag)
    ≡ Err NoRecordType)
    × (length (bench_header ++ bench_words) ≡ 783)
    × (header_answer (bench_header ++ bench_words)
    ≡ Ok (
      record {
        record_type = HydraHarp2T3;
        count = Some (pos 9);
        global = Some 0x3E6AD7F29ABCAF48;
        resolution = Some 0x3DC19799812DEA11;
        version = version_bytes;
      },
      bench_words,
    ))
    -- what a front, a whole tag and two bytes of its body show
    × (seen (start_bytes ++ type_item ++ tag (codes "A") (255 ∷ 255 ∷ 1 ∷ 64 ∷ []) (3 ∷ replicate 7 0) ++ codes "ok")
    ≡ record { tag = type_item; body = [] } ∷ record { tag = tag (codes "A") (255 ∷ 255 ∷ 1 ∷ 64 ∷ []) (3 ∷ replicate 7 0); body = codes "ok" } ∷ [])
    -- A preamble is seen once it is whole.
    × (seen_preamble (start_bytes ++ codes "A") ≡ Some start_bytes)
    × (seen_preamble (take 15 start_bytes) ≡ None)
unfolding header_answer ending walk name_in code_in value_in has_body is_known value_under found_in header_of type_with seen seen_from seen_preamble
rows = (refl, refl, refl, refl, refl, refl, refl, refl, refl, refl, refl, refl, refl, refl, refl, refl, refl, refl, refl, refl, refl)
