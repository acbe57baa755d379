-- What holds of the counts of bytes that grow.
use Rattle.std.proofs.Common.{◌≡◌, ◌∙◌, ◌<◌, ◌≤◌, ◌==◌, ℕ, List, [], ◌++◌, Bool, true, false, length, arith, refl, sym, ap, None, Some, Ok, Err, nat_lt, if◌then◌else◌, Result, inl, inr}
use Rattle.std.proofs.lemmas.Bool.Decides.{nat_tests}
use Rattle.tally_base.specs.{declared.{fault.Fault.{Fault, TheVariants.{RecordLimit, TruncatedRecord}}, header.{Header.Header, RecordType.RecordType}}, Faults.{is_outside, fault_in}}
use Rattle.{ptu_definitions.specs.{declared.records.KindCounts.KindCounts, Words.{words_of, rest_of, counted, records_of, record_limit}, Kinds.counts_of}, record_layout.proofs.Growing.words-more}
use Rattle.{command_work.{specs.{Behaviours.AtEnd, Works.WantsNone, RecordsWork.{IsText, IsAllOrNothing, Suits}}, proofs.RestEnds.{end_with, suits-at_end}}, file_work.specs.FileOutcomes.counted_end}
use Rattle.file_work.specs.FileOutcomes.{too_many, counts, counting}

-- ## Too many records

pub counts-clear : (bytes : List ℕ) → length (words_of bytes) ≤ record_limit → too_many bytes ≡ None
counts-clear bytes few = let within : nat_lt record_limit (length (words_of bytes)) ≡ false = grind (arith, nat_tests) in rw within refl

-- what is refused has too many
many-from : (bytes : List ℕ) (fault : Fault) → too_many bytes ≡ Some fault → (record_limit < length (words_of bytes)) × (RecordLimit record_limit ≡ fault)
many-from bytes fault h = by (nat_lt record_limit (length (words_of bytes))) refl h
  where
    by : (b : Bool) → nat_lt record_limit (length (words_of bytes)) ≡ b → (if b then Some (RecordLimit record_limit) else None) ≡ Some fault → (record_limit < length (words_of bytes)) × (RecordLimit record_limit ≡ fault)
    by true is e = (grind (arith, nat_tests), cc)
    by false is e = cc

counted-limit : (record_type : RecordType) (bytes : List ℕ) → record_limit < length (words_of bytes) → counted record_type bytes ≡ Err (RecordLimit record_limit)
unfolding counted
counted-limit record_type bytes many = let over : nat_lt record_limit (length (words_of bytes)) ≡ true = grind (arith, nat_tests) in rw over refl

-- ## Their end

counted-inside : (record_type : RecordType) (bytes : List ℕ) (fault : Fault) → fault_in (counted record_type bytes) ≡ Some fault → is_outside fault ≡ false
unfolding counted
counted-inside record_type bytes fault h = by (nat_lt record_limit (length (words_of bytes))) (length (rest_of bytes) == 0) h
  where
    by : (many whole : Bool) → fault_in (if many then Err (RecordLimit record_limit) else if whole then Ok (counts_of (records_of record_type bytes)) else Err (TruncatedRecord (length (rest_of bytes)))) ≡ Some fault → is_outside fault ≡ false
    by true whole h = let same : RecordLimit record_limit ≡ fault = cc in rw (← same) refl
    by false true h = cc
    by false false h = let same : TruncatedRecord (length (rest_of bytes)) ≡ fault = cc in rw (← same) refl

module _ (header : Header) where
  pub ends-fault : (r : Result KindCounts Fault) → (counted_end header r).fault ≡ fault_in r
  ends-fault (Ok counts) = refl
  ends-fault (Err fault) = refl

  pub counts-law : IsText (counts header)
  counts-law = record {
    refused = λ bytes more fault h.
        let many = many-from bytes fault h in
        ap (counted_end header) (counted-limit header.record_type (bytes ++ more) (words-more bytes more many.0)) ∙ ap (λ (f : Fault). end_with [] (Some f)) many.1;
    front = λ bytes more. (((counts header).ends (bytes ++ more)).text, refl);
    inside = λ bytes fault h. rw (← (many-from bytes fault h).1) refl;
    end_inside = λ bytes fault h. counted-inside header.record_type bytes fault (sym (ends-fault (counted header.record_type bytes)) ∙ h);
  }

-- counts are written at a good end
late : (header : Header) (r : Result KindCounts Fault) → IsAllOrNothing (counted_end header r)
late header (Ok counts) = inr refl
late header (Err fault) = inl refl

pub counting-suits : Suits counting AtEnd WantsNone counts (λ header. ⊥)
counting-suits = suits-at_end counts _ counts-law WantsNone (λ header. ⊥)
    (λ header bytes. (refl, late header (counted header.record_type bytes))) (λ bytes behind header answer wants few. wants)
