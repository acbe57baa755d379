use Rattle.std.proofs.{Common.{◌≡◌, None, refl, rules, ◌≤◌, ◌<◌, ◌-◌, ◌^◌, ◌≢◌, ℕ, suc, false, arith, nat_eq, negsuc}, lemmas.Int.{to_z-of_z, to_z_pos}}
use Rattle.{std.{proofs.lemmas.Bool.{cases_lt, Decides.nat_tests}, specs.Int.{w64, cast_signed}}, tally_base.specs.RecordTypes.{type_of, type_with}}
use Rattle.ptu_definitions.{specs.Fields.header_of, proofs.Walks.not_less}
use Rattle.ptu_header.proofs.fields.header.Goals as goal

-- the record type of a value and of its 64 bits
differs : (value code : ℕ) → 2 ^ 63 ≤ value → code < 2 ^ 63 → nat_eq value code ≡ false
differs value code big small = let other : value ≢ code = λ e. absurd (omega (arith, big, small, e)) in grind (arith, nat_tests)

type_with-big : (value : ℕ) → 2 ^ 63 ≤ value → type_with value ≡ None
unfolding type_with
type_with-big value big = search (rules, arith, differs)

cast_signed-big : (value : ℕ) → 2 ^ 63 ≤ value → cast_signed w64 value ≡ negsuc (2 ^ 64 - suc value)
cast_signed-big value big = rw (not_less value (2 ^ 63) big) refl

-- Each code is below 2^63, so a negative value has no type.
type_of-cast_signed : (value : ℕ) → type_of (cast_signed w64 value) ≡ type_with value
type_of-cast_signed value = search (rules, arith, cases_lt, to_z_pos, cast_signed-big, type_with-big)

pub returns-in_default-of-clause-answer : goal.returns-in_default-of-clause-answer
unfolding header_of
returns-in_default-of-clause-answer c = search (rules, arith, to_z-of_z, type_of-cast_signed)
