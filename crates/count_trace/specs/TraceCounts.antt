-- The counts of a trace over the events that it is given.
use Rattle.std.specs.Prelude.{ℕ, Bool, ◌&&◌, ◌==◌, nat_le, nat_lt, ◌-◌, ◌/◌, count_by}
use Rattle.tally_base.specs.{Events.{is_photon, is_in}, Settings.TraceView, Tally.History}

-- how many photons of the group come at a time that passes the test
abbrev pub count_times : TraceView → (ℕ → Bool) → History → ℕ
count_times set test h = count_by (λ x. is_photon x.0 && (is_in x.1 set.group && test x.0.time)) h

-- how many photons of the group are in bin b
abbrev pub in_trace_bin : TraceView → ℕ → History → ℕ
in_trace_bin set b h = count_times set (λ time. nat_le set.origin time && ((time - set.origin) / set.width == b)) h

-- how many photons of the group come before the origin
abbrev pub count_before : TraceView → History → ℕ
count_before set h = count_times set (λ time. nat_lt time set.origin) h

-- how many photons of the group are past the last bin
abbrev pub count_beyond : TraceView → History → ℕ
count_beyond set h = count_times set (λ time. nat_le set.origin time && nat_le set.bins ((time - set.origin) / set.width)) h
