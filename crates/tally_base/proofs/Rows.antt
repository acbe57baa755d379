-- The definitions at known values.
use Rattle.std.{proofs.{lemmas.Bool.Decides.nat_tests, Common.{◌≡◌, ℕ, arith, None, Some, length, refl, codes, ℤ, pos, negsuc, rules}}, specs.Fmt.digits}
use Rattle.tally_base.specs.declared.{header.{Mode.TheVariants.{T2, T3}, RecordType.{RecordType, TheVariants.HydraHarp2T3}}, part.PartKind.TheVariants.Gate}
use Rattle.tally_base.specs.declared.{part.PartKind.TheVariants.{Shift, Coincidence}, slot.Slot.TheVariants.{Plan, Data}, fault.Fault.TheVariants.Usage}
use Rattle.tally_base.specs.declared.fault.Fault.TheVariants.{OpenFault, ReadFault, PlanRule, PlanMode, TruncatedHeader, TagType, TagLength, UnknownRecordType}
use Rattle.tally_base.specs.declared.fault.Fault.TheVariants.{TruncatedRecord, ReservedRecord, BackwardTime, RecordLimit, TimeLimit, NoGroup, PickTime}
use Rattle.tally_base.specs.{Faults.line_of, Hexadecimal.hexadecimal, RecordTypes.{code_of, type_of, type_with}}

-- Each type is found by its own code.
pub type_of-code : (record_type : RecordType) → type_of (pos (code_of record_type)) ≡ Some record_type
unfolding type_with
type_of-code record_type = search (rules, arith)

type_with-only : (code : ℕ) (record_type : RecordType) → type_with code ≡ Some record_type → code ≡ code_of record_type
unfolding type_with
type_with-only code record_type found = grind (arith, nat_tests)

-- No other value has that type.
pub type_of-only : (value : ℤ) (record_type : RecordType) → type_of value ≡ Some record_type → value ≡ pos (code_of record_type)
type_of-only value record_type found = search (rules, arith, type_with-only)

pub rows :
    (line_of Usage ≡ codes "ptu: bad command line\n")
    × (line_of (OpenFault Plan) ≡ codes "ptu: cannot open the plan\n")
    × (line_of (ReadFault Data) ≡ codes "ptu: cannot read the data\n")
    × (line_of (PlanRule 22 64) ≡ codes "ptu: plan breaks rule 22 at 64\n")
    × (line_of (PlanMode Gate 3 T2) ≡ codes "ptu: gate 3 does not suit T2\n")
    × (line_of (PlanMode Shift 1 T2) ≡ codes "ptu: shift 1 does not suit T2\n")
    × (line_of (PlanMode Coincidence 16 T3) ≡ codes "ptu: coincidence 16 does not suit T3\n")
    × (line_of (TruncatedHeader 66) ≡ codes "ptu: header cut after 66 bytes\n")
    -- eight digits, also where the first ones are 0
    × (line_of (TagType 3 0x000100AF) ≡ codes "ptu: tag 3 has type 000100AF\n")
    × (line_of (TagLength 1 (negsuc 0)) ≡ codes "ptu: tag 1 has length -1\n")
    × (line_of (UnknownRecordType (pos 0x00010308)) ≡ codes "ptu: record type 0000000000010308\n")
    -- A negative value is printed in two's complement: this one is -2.
    × (line_of (UnknownRecordType (negsuc 1)) ≡ codes "ptu: record type FFFFFFFFFFFFFFFE\n")
    -- one byte left over
    × (line_of (TruncatedRecord 1) ≡ codes "ptu: 1 bytes of a record at the end\n")
    × (line_of (ReservedRecord 4 0xA0000009) ≡ codes "ptu: record 4 is reserved: A0000009\n")
    -- The record 7 has the time 5, below an earlier 6.
    × (line_of (BackwardTime 7 5 6) ≡ codes "ptu: record 7 goes back from 6 to 5\n")
    -- the longest line
    × (length (line_of (BackwardTime 18446744073709551615 18446744073709551613 18446744073709551614)) ≡ 93)
    × (line_of (RecordLimit 1099511627776) ≡ codes "ptu: more than 1099511627776 records\n")
    × (line_of (TimeLimit 9) ≡ codes "ptu: record 9 passes the greatest time\n")
    × (line_of (NoGroup 0) ≡ codes "ptu: plan has no group 0\n")
    × (line_of (PickTime 4099) ≡ codes "ptu: record 4099 is too late to write\n")
    × (type_of (pos 0x01010304) ≡ Some HydraHarp2T3)
    -- codes out of the table
    × (type_of (pos 0x00010308) ≡ None)
    × (type_of (pos 0) ≡ None)
    -- A code is the whole value and not its last 32 bits.
    × (type_of (pos 0x0000000101010304) ≡ None)
    × (type_of (negsuc 0) ≡ None)
unfolding digits hexadecimal type_with
rows = (refl, refl, refl, refl, refl, refl, refl, refl, refl, refl, refl, refl, refl, refl, refl, refl, refl, refl, refl, refl, refl, refl, refl, refl, refl)
