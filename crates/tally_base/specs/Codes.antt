-- An event's kind as two numbers.
use Rattle.std.specs.Prelude.{◌≡◌, ℕ, ◌+◌, ◌*◌, ◌/◌, ◌%◌, ◌<◌, ◌≤◌, List, nat_lt, slice_index, if◌then◌else◌}
use Rattle.tally_base.specs.declared.event.EventKind.{EventKind, TheVariants.{Photon, Marker}}

abbrev pub code_of : EventKind → ℕ
code_of (Photon input dtime) = input
code_of (Marker bits) = 256 + bits

abbrev pub dtime_of : EventKind → ℕ
dtime_of (Photon input dtime) = dtime
dtime_of (Marker bits) = 0

abbrev pub kind_of : ℕ → ℕ → EventKind
kind_of code dtime = if nat_lt code 256 then Photon code dtime else Marker (code % 256)

-- a code and a dtime as one number of 32 bits
abbrev pub joined : ℕ → ℕ → ℕ
joined code dtime = code + 65536 * dtime

-- the code in it
abbrev pub code_in : ℕ → ℕ
code_in mark = mark % 65536

-- the dtime in it
abbrev pub dtime_in : ℕ → ℕ
dtime_in mark = mark / 65536

-- an input and marker bits are bytes
abbrev pub IsByte : EventKind → Type 0
IsByte (Photon input dtime) = input < 256
IsByte (Marker bits) = bits < 256

-- the markers among the first so many rows are in no group
abbrev pub InNoGroup : ℕ → List ℕ → List ℕ → Type 0
InNoGroup n marks groups = (i : ℕ) → i < n → 256 ≤ code_in (slice_index marks i) → slice_index groups i ≡ 0
