-- The counts of a histogram over the events that it is given.
use Rattle.std.specs.Prelude.{ℕ, Bool, false, ◌&&◌, ◌==◌, nat_le, ◌/◌, count_by}
use Rattle.tally_base.specs.{declared.event.EventKind.{EventKind, TheVariants.{Photon, Marker}}, Events.is_in, Settings.HistView, Tally.History}

-- the dtime of a photon passes the test; a marker has none
abbrev pub dtime_passes : (ℕ → Bool) → EventKind → Bool
dtime_passes test (Photon input dtime) = test dtime
dtime_passes test (Marker bits) = false

-- how many photons of the group have a dtime that passes the test
abbrev pub count_dtimes : HistView → (ℕ → Bool) → History → ℕ
count_dtimes set test h = count_by (λ x. is_in x.1 set.group && dtime_passes test x.0.kind) h

-- how many photons of the group are in bin b
abbrev pub in_bin : HistView → ℕ → History → ℕ
in_bin set b h = count_dtimes set (λ dtime. dtime / set.width == b) h

-- how many photons of the group are past the last bin
abbrev pub count_over : HistView → History → ℕ
count_over set h = count_dtimes set (λ dtime. nat_le set.bins (dtime / set.width)) h
