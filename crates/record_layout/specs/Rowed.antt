-- What a record says, by its parts, and the parts by the fields of its word.
use Rattle.std.specs.Prelude.{ℕ, ◌+◌, ◌*◌, ◌%◌, ◌==◌, Bool, true, false, nat_lt, nat_le, if◌then◌else◌}
use Rattle.{ptu_definitions.specs.{declared.records.Raw.{Raw, TheVariants.{Photon, Marker, Wrap, Reserved}}, Layouts.wraps_in}, record_layout.specs.declared.row.Row.Row}

-- what a row says, where a wrap adds a unit
abbrev pub raw_of : ℕ → Row → Raw
raw_of unit row =
    if nat_lt row.code 256 then Photon row.code row.time row.dtime
    else if nat_lt row.code 512 then Marker (row.code % 256) row.time
    else if row.code == 512 then Wrap (unit * row.wraps)
    else Reserved

-- the code by the top seven bits
abbrev pub hydra_t2_code : ℕ → ℕ
hydra_t2_code top =
    if nat_lt top 64 then top + 1
    else if top == 64 then 0
    else if nat_lt top 80 then 192 + top
    else if top == 127 then 512
    else 513

abbrev pub hydra_t3_code : ℕ → ℕ
hydra_t3_code top =
    if nat_lt top 64 then top
    else if top == 64 then 513
    else if nat_lt top 80 then 192 + top
    else if top == 127 then 512
    else 513

-- the code by the channel, and by the marker bits that channel 15 has
abbrev pub pico_code : ℕ → ℕ → ℕ
pico_code channel marker =
    if channel == 15 then (if marker == 0 then 512 else 256 + marker)
    else if nat_le channel 4 then channel
    else 513

-- how much later the times after a wrap are
abbrev pub hydra_t2_unit : Bool → ℕ
hydra_t2_unit true = 33552000
hydra_t2_unit false = 33554432

-- how many wraps a record stands for
abbrev pub hydra_wraps : Bool → ℕ → ℕ → ℕ
hydra_wraps old top time = if top == 127 then (if old then 1 else wraps_in time) else 0

abbrev pub pico_wraps : ℕ → ℕ → ℕ
pico_wraps channel marker = if channel == 15 then (if marker == 0 then 1 else 0) else 0
