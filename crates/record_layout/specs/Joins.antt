-- What the fields of a word say in each layout.
use Rattle.std.specs.Prelude.{◌+◌, ◌-◌, ◌==◌, nat_lt, nat_le, Bool, if◌then◌else◌, ℕ, ◌/◌, ◌^◌, bit_and}
use Rattle.ptu_definitions.specs.{declared.records.Raw.{Raw, TheVariants.{Photon, Reserved}}, Layouts.{bits, pico_t2_special, pico_t3_special, hydra_t2_special, hydra_t3_special}}
use Rattle.record_layout.specs.declared.fields.Fields.{Fields}

-- the top four bits are the channel
abbrev pub joined_pico_t2 : Fields → Raw
joined_pico_t2 fields =
    if nat_le fields.top 4 then Photon fields.top fields.time 0
    else if fields.top == 15 then pico_t2_special (bits fields.time 0 4) fields.time
    else Reserved

abbrev pub joined_pico_t3 : Fields → Raw
joined_pico_t3 fields =
    if nat_le fields.top 4 then Photon fields.top fields.time fields.dtime
    else if fields.top == 15 then pico_t3_special (bits fields.dtime 0 4) fields.time
    else Reserved

-- the top seven bits are the special bit and the channel
abbrev pub joined_hydra_t2 : Bool → Fields → Raw
joined_hydra_t2 old fields =
    if nat_lt fields.top 64 then Photon (fields.top + 1) fields.time 0
    else hydra_t2_special old (fields.top - 64) fields.time

abbrev pub joined_hydra_t3 : Bool → Fields → Raw
joined_hydra_t3 old fields =
    if nat_lt fields.top 64 then Photon fields.top fields.time fields.dtime
    else hydra_t3_special old (fields.top - 64) fields.time

-- The fields of a word, by the shifts and masks of a layout.

abbrev pub fields_in : ℕ → ℕ → ℕ → ℕ → ℕ → Fields
fields_in top_shift dtime_shift dtime_mask time_mask word = record {
  top = word / 2 ^ top_shift;
  dtime = bit_and (word / 2 ^ dtime_shift) dtime_mask;
  time = bit_and word time_mask;
}
