-- The table of record types: codes, modes and names, after PicoQuant's unified TTTR format.
use Rattle.std.specs.{Prelude.{ℕ, ℤ, pos, negsuc, ◌==◌, List, None, Some, codes, if◌then◌else◌}, declared.option.Option.Option}
use Rattle.tally_base.specs.declared.header.{Mode.{Mode, TheVariants.{T2, T3}}, RecordType.{RecordType, TheVariants.{PicoHarpT2, PicoHarpT3, HydraHarpT2, HydraHarpT3, HydraHarp2T2, HydraHarp2T3}}}
use Rattle.tally_base.specs.declared.header.RecordType.TheVariants.{TimeHarp260NT2, TimeHarp260NT3, TimeHarp260PT2, TimeHarp260PT3, MultiHarpT2, MultiHarpT3}

abbrev pub code_of : RecordType → ℕ
code_of PicoHarpT2 = 0x00010203
code_of PicoHarpT3 = 0x00010303
code_of HydraHarpT2 = 0x00010204
code_of HydraHarpT3 = 0x00010304
code_of HydraHarp2T2 = 0x01010204
code_of HydraHarp2T3 = 0x01010304
code_of TimeHarp260NT2 = 0x00010205
code_of TimeHarp260NT3 = 0x00010305
code_of TimeHarp260PT2 = 0x00010206
code_of TimeHarp260PT3 = 0x00010306
code_of MultiHarpT2 = 0x00010207
code_of MultiHarpT3 = 0x00010307

abbrev pub mode_of : RecordType → Mode
mode_of PicoHarpT2 = T2
mode_of PicoHarpT3 = T3
mode_of HydraHarpT2 = T2
mode_of HydraHarpT3 = T3
mode_of HydraHarp2T2 = T2
mode_of HydraHarp2T3 = T3
mode_of TimeHarp260NT2 = T2
mode_of TimeHarp260NT3 = T3
mode_of TimeHarp260PT2 = T2
mode_of TimeHarp260PT3 = T3
mode_of MultiHarpT2 = T2
mode_of MultiHarpT3 = T3

abbrev pub name_of : RecordType → List ℕ
name_of PicoHarpT2 = codes "PicoHarpT2"
name_of PicoHarpT3 = codes "PicoHarpT3"
name_of HydraHarpT2 = codes "HydraHarpT2"
name_of HydraHarpT3 = codes "HydraHarpT3"
name_of HydraHarp2T2 = codes "HydraHarp2T2"
name_of HydraHarp2T3 = codes "HydraHarp2T3"
name_of TimeHarp260NT2 = codes "TimeHarp260NT2"
name_of TimeHarp260NT3 = codes "TimeHarp260NT3"
name_of TimeHarp260PT2 = codes "TimeHarp260PT2"
name_of TimeHarp260PT3 = codes "TimeHarp260PT3"
name_of MultiHarpT2 = codes "MultiHarpT2"
name_of MultiHarpT3 = codes "MultiHarpT3"

-- the record type of a code, or None for a code that is no type's
unfoldable pub type_with : ℕ → Option RecordType
type_with code =
    if code == 0x00010203 then Some PicoHarpT2
    else if code == 0x00010303 then Some PicoHarpT3
    else if code == 0x00010204 then Some HydraHarpT2
    else if code == 0x00010304 then Some HydraHarpT3
    else if code == 0x01010204 then Some HydraHarp2T2
    else if code == 0x01010304 then Some HydraHarp2T3
    else if code == 0x00010205 then Some TimeHarp260NT2
    else if code == 0x00010305 then Some TimeHarp260NT3
    else if code == 0x00010206 then Some TimeHarp260PT2
    else if code == 0x00010306 then Some TimeHarp260PT3
    else if code == 0x00010207 then Some MultiHarpT2
    else if code == 0x00010307 then Some MultiHarpT3
    else None

-- A record type is found where the value is its code as a whole number.
abbrev pub type_of : ℤ → Option RecordType
type_of (pos value) = type_with value
type_of (negsuc value) = None
