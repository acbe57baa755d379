-- How many records a file has at most, and how late its events come.
use Rattle.std.specs.Prelude.{ℕ, ◌+◌, ◌^◌}

-- The most records of a file. So it has no more events, and no count of them is greater.
abbrev pub record_limit : ℕ
record_limit = 2 ^ 40

-- The greatest sum of the wraps of a file. No time that a plan names is greater.
abbrev pub wrap_limit : ℕ
wrap_limit = 2 ^ 62

-- The greatest time of an event: after all wraps comes the time field of its record, which is below 2^28.
abbrev pub time_limit : ℕ
time_limit = wrap_limit + 2 ^ 28
