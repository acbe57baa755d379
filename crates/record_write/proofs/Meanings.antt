-- What the words of photons mean, and how the wraps before them add up.
use Rattle.std.proofs.{Common.{◌≡◌, ◌+◌, ◌-◌, ◌*◌, ◌/◌, ◌%◌, ◌^◌, ◌<◌, ◌≤◌, ℕ, zero, suc, false, arith, rules}, lemmas.Bool.ne_eqb}
use Rattle.tally_base.specs.declared.{event.EventKind.TheVariants.Photon as PhotonEvent, header.Mode.{Mode, TheVariants.{T2, T3}}}
use Rattle.{ptu_definitions.specs.{declared.records.Raw.TheVariants.{Photon, Wrap}, Layouts.{KindFits, hydra_t2, hydra_t3}}, record_write.specs.Picked.unit_of}
use Rattle.record_write.specs.Picked.{wrap_word, photon_word, meaning_in, is_too_late}

pub wrap-meaning : (mode : Mode) (units : ℕ) → 0 < units → units < unit_of mode → meaning_in mode (wrap_word units) ≡ Wrap (unit_of mode * units)
unfolding hydra_t2 hydra_t3
wrap-meaning T2 units some few = search (rules, arith, ne_eqb)
wrap-meaning T3 units some few = search (rules, arith, ne_eqb)

pub photon-meaning : (mode : Mode) (input dtime time : ℕ) → KindFits mode (PhotonEvent input dtime)
    → meaning_in mode (photon_word mode input dtime time) ≡ Photon input (time % unit_of mode) dtime
unfolding hydra_t2 hydra_t3
photon-meaning T2 zero dtime time fits = search (rules, arith)
photon-meaning T2 (suc n) dtime time fits = search (rules, arith, ne_eqb)
photon-meaning T3 input dtime time fits = search (rules, arith)

pub wrap-small : (mode : Mode) (units : ℕ) → units < unit_of mode → wrap_word units < 2 ^ 32
wrap-small mode units few = search (rules, arith)

pub photon-small : (mode : Mode) (input dtime time : ℕ) → KindFits mode (PhotonEvent input dtime) → photon_word mode input dtime time < 2 ^ 32
photon-small T2 zero dtime time fits = omega arith
photon-small T2 (suc n) dtime time fits = search (rules, arith, ne_eqb)
photon-small T3 input dtime time fits = let few : input ≤ 63 = fits.0 in let soon : dtime ≤ 32767 = fits.1 in omega arith

-- the units between two times lead from the begin of the one's unit to that of the other's
pub units-lead : (mode : Mode) (before time : ℕ) → before ≤ time
    → before / unit_of mode * unit_of mode + (time / unit_of mode - before / unit_of mode) * unit_of mode ≡ time / unit_of mode * unit_of mode
units-lead T2 before time late = omega arith
units-lead T3 before time late = omega arith

pub unit-time : (mode : Mode) (time : ℕ) → time / unit_of mode * unit_of mode + time % unit_of mode ≡ time
unit-time mode time = search (rules, arith)

pub unit-in-time : (mode : Mode) (time : ℕ) → is_too_late mode time ≡ false → time / unit_of mode * unit_of mode ≤ 2 ^ 62
unit-in-time mode time soon = search (rules, arith)

pub unit-some : (mode : Mode) → (0 < unit_of mode - 1) × (unit_of mode - 1 < unit_of mode)
unit-some T2 = (omega arith, omega arith)
unit-some T3 = (omega arith, omega arith)
