-- The groups without a gate and those with gates, apart, are all groups.
use Rattle.tally_base.specs.{declared.{event.{Event.Event, EventKind.TheVariants.{Photon, Marker}}, settings.Group.Group}, Settings.{GroupView, group_view}}
use Rattle.{tally_base.specs.Codes.kind_of, gate_plan.specs.{Shifting.{Sorting, shifted_kind, shifted_dtime}, Taking.{is_among, is_in_gates, takes_kind}}}
use Rattle.gate_plan.specs.{Taking.{groups_by, groups_in, one_if, bits_of}, Parting.{is_open, passes, takes_gated, plain_bits, gated_bits, gates_of, gates_in}}
use Rattle.{gate_plan.specs.{Parting.all_gates, declared.gated.Gated.Gated}, std.proofs.Common.{◌≡◌, sym, ◌∙◌, ℕ, zero, suc, ◌+◌, ◌*◌, ◌^◌, ◌<◌, ◌≤◌, Bool}}
use Rattle.std.proofs.Common.{true, false, ◌==◌, List, [], ◌∷◌, map, drop, length, get_or, set, arith, rules, not, nat_lt, min, ◌%◌, inl, inr, ◌++◌, ap}
use Rattle.std.proofs.{Common.{append_assoc, append-nil, length-append, ◌&&◌, refl}, lemmas.Grind.{common_steps, pow_more, flat_map-append}}
use Rattle.std.proofs.lemmas.{Nat.Bits.{bit_at-zero, bit_at-suc, bit_at_lowest}, List.{drop_more, length-map}, Bool.{cases_lt, Decides.nat_tests}}
use Rattle.std.{proofs.Math.Pow.pow_mono, specs.Int.bit_at}

-- A number by its bits.

pub bit_of_bits : (tests : List Bool) (i : ℕ) → bit_at (bits_of tests) i ≡ one_if (get_or tests i false)
bit_of_bits [] i = bit_at-zero i
bit_of_bits (true ∷ tests) zero = bit_at_lowest (bits_of (true ∷ tests)) ∙ omega arith
bit_of_bits (false ∷ tests) zero = bit_at_lowest (bits_of (false ∷ tests)) ∙ omega arith
bit_of_bits (true ∷ tests) (suc i) = search (rules, arith, bit_at-suc, bit_of_bits tests i)
bit_of_bits (false ∷ tests) (suc i) = search (rules, arith, bit_at-suc, bit_of_bits tests i)

one_is : (b : Bool) → (one_if b == 1) ≡ b
one_is b = search (rules, arith)

pub bit_is : (tests : List Bool) (i : ℕ) → (bit_at (bits_of tests) i == 1) ≡ get_or tests i false
bit_is tests i = rw (bit_of_bits tests i) (one_is (get_or tests i false))

-- of the first test
twice : (sum power rest : ℕ) → sum + power * (1 + 2 * rest) ≡ sum + power + power * 2 * rest
twice sum power rest = grind arith

pub bits_taken : (sum i rest : ℕ) → sum + 2 ^ i * (1 + 2 * rest) ≡ sum + 2 ^ i + 2 ^ (i + 1) * rest
bits_taken sum i rest = rw (pow_more 2 i) (twice sum (2 ^ i) rest)

not_twice : (sum power rest : ℕ) → sum + power * (0 + 2 * rest) ≡ sum + power * 2 * rest
not_twice sum power rest = grind arith

pub bits_left : (sum i rest : ℕ) → sum + 2 ^ i * (0 + 2 * rest) ≡ sum + 2 ^ (i + 1) * rest
bits_left sum i rest = rw (pow_more 2 i) (not_twice sum (2 ^ i) rest)

pub below_next : (sum i added : ℕ) → sum < 2 ^ i → added ≤ 2 ^ i → sum + added < 2 ^ (i + 1)
below_next sum i added below most = omega (arith, pow_more 2 i)

pub fits : (sum i : ℕ) → sum < 2 ^ i → i < 64 → sum + 2 ^ i < 2 ^ 64
fits sum i below few = grind (arith, common_steps, pow_more, pow_mono)

pub added_most : (test : Bool) (power : ℕ) → one_if test * power ≤ power
added_most test power = search (rules, arith)

bits_step : (sum i rest added : ℕ) (test : Bool) → added ≡ one_if test * 2 ^ i → sum + 2 ^ i * (one_if test + 2 * rest) ≡ sum + added + 2 ^ (i + 1) * rest
bits_step sum i rest added true is = omega (arith, is, bits_taken sum i rest)
bits_step sum i rest added false is = omega (arith, is, bits_left sum i rest)

first_of : (P : GroupView → Bool) (gs : List Group) (place : ℕ) (g : Group) → place < length gs → g ≡ get_or gs place g
    → map P (map group_view (drop place gs)) ≡ P (group_view g) ∷ map P (map group_view (drop (place + 1) gs))
first_of P gs place g within is = cc (drop_more gs place g within)

pub bits_kept : (P : GroupView → Bool) (sum i added place : ℕ) (gs : List Group) (g : Group) (test : Bool) (all : ℕ)
    → place < length gs → g ≡ get_or gs place g → test ≡ P (group_view g) → added ≡ one_if test * 2 ^ i
    → sum + 2 ^ i * bits_of (map P (map group_view (drop place gs))) ≡ all
    → sum + added + 2 ^ (i + 1) * bits_of (map P (map group_view (drop (place + 1) gs))) ≡ all
bits_kept P sum i added place gs g test all within is tests adds rest =
    let step = bits_step sum i (bits_of (map P (map group_view (drop (place + 1) gs)))) added (P (group_view g)) (rw tests at adds) in
    sym step ∙ (rw (first_of P gs place g within is) at rest)

one_most : (test : Bool) → one_if test ≤ 1
one_most test = search (rules, arith)

pub bits_below : (P : GroupView → Bool) (groups : List GroupView) → bits_of (map P groups) < 2 ^ length groups
bits_below P [] = omega arith
bits_below P (group ∷ groups) = search (rules, arith, one_most, pow_more, bits_below P groups)

pub filled_more : {X : Type 0} (table : List X) (at : ℕ) (v d : X) (f : ℕ → X) → at < length table
    → ((i : ℕ) → i < at → get_or table i d ≡ f i) → v ≡ f at → (i : ℕ) → i < at + 1 → get_or (set table at v) i d ≡ f i
filled_more table at v d f inside were is i below = grind (arith, common_steps, were i)

-- The groups without a gate and those with gates, apart, are all groups.

one_of : (among : Bool) (gates : List (ℕ × ℕ)) (dtime : ℕ)
    → one_if (among && is_in_gates gates dtime) ≡ one_if (among && is_open gates) + one_if (among && passes gates dtime)
one_of among gates dtime = search (rules, arith)

pub parted : (groups : List GroupView) (input dtime : ℕ) → bits_of
    (map (λ (group : GroupView). is_among group.inputs input && is_in_gates group.gates dtime) groups) ≡ plain_bits groups input + gated_bits groups input dtime
parted [] input dtime = omega arith
parted (group ∷ groups) input dtime = omega (arith, one_of (is_among group.inputs input) group.gates dtime, parted groups input dtime)

pub parted_fits : (groups : List GroupView) (input dtime : ℕ) → length groups ≤ 64 → plain_bits groups input + gated_bits groups input dtime < 2 ^ 64
parted_fits groups input dtime few =
    let below = bits_below (λ (group : GroupView). is_among group.inputs input && is_in_gates group.gates dtime) groups in
    omega (arith, parted groups input dtime, below, pow_mono few)

and_false : (b : Bool) → (b && false) ≡ false
and_false b = search (rules, arith)

-- no gates
pub none_left : (gates : List (ℕ × ℕ)) (empty : Bool) → empty ≡ (length gates == 0) → empty ≡ true → gates ≡ []
none_left gates empty is some = grind (arith, common_steps)

-- one group more that has gates
pub gated_some : (input dtime sum place index : ℕ) (gs : List Group) (g : Group) (added all : ℕ) → index < length gs
    → g ≡ get_or gs index g → added ≡ one_if (takes_gated input dtime (group_view g)) * 2 ^ place
    → sum + 2 ^ place * bits_of (map (takes_gated input dtime) (map group_view (drop index gs))) ≡ all
    → sum + added + 2 ^ (place + 1) * bits_of (map (takes_gated input dtime) (map group_view (drop (index + 1) gs))) ≡ all
gated_some input dtime sum place index gs g added all within is adds rest = search (rules, arith, bits_kept)

-- one that has none
pub gated_none : (input dtime sum place index : ℕ) (gs : List Group) (g : Group) (all : ℕ) → index < length gs → g ≡ get_or gs index g → g.gates.items ≡ []
    → sum + 2 ^ place * bits_of (map (takes_gated input dtime) (map group_view (drop index gs))) ≡ all
    → sum + 2 ^ (place + 1) * bits_of (map (takes_gated input dtime) (map group_view (drop (index + 1) gs))) ≡ all
gated_none input dtime sum place index gs g all within is gate rest =
    let off : takes_gated input dtime (group_view g) ≡ false =
    ap (λ gates. is_among g.inputs input && passes gates dtime) gate ∙ and_false (is_among g.inputs input) in
    let kept = bits_kept (takes_gated input dtime) sum place 0 index gs g false all within is (sym off) (grind arith) rest in
    omega (arith, kept)

-- the groups of a photon
pub of_photon : (groups : List GroupView) (e : Event) (input dtime : ℕ) → e.kind ≡ Photon input dtime
    → groups_by groups e ≡ plain_bits groups input + gated_bits groups input dtime
of_photon groups e input dtime is = ap (λ kind. bits_of (map (λ group. takes_kind group kind) groups)) is ∙ parted groups input dtime

pub of_shifted : (by : Sorting) (e : Event) (input dtime : ℕ) → e.kind ≡ Photon input dtime
    → groups_in by e ≡ plain_bits by.groups input + gated_bits by.groups input (shifted_dtime by input dtime)
of_shifted by e input dtime is = cc (parted by.groups input (shifted_dtime by input dtime))

none_of : (groups : List GroupView) → bits_of (map (λ (group : GroupView). false) groups) ≡ 0
none_of [] = refl
none_of (group ∷ groups) = omega (arith, none_of groups)

-- and of a marker
pub of_marker : (groups : List GroupView) (e : Event) (bits : ℕ) → e.kind ≡ Marker bits → groups_by groups e ≡ 0
of_marker groups e bits is = ap (λ kind. bits_of (map (λ group. takes_kind group kind) groups)) is ∙ none_of groups

-- what is found by a code, and at 256 for a marker
pub by_code : (groups : List GroupView) (found : ℕ → ℕ) (code dtime : ℕ) (e : Event) → e.kind ≡ kind_of code dtime
    → (code < 256 → found code ≡ plain_bits groups code + gated_bits groups code dtime) → found 256 ≡ 0 → found (min code 256) ≡ groups_by groups e
by_code groups found code dtime e is photon none =
    elim (cases_lt code 256) [
      | inl low ↦
          let kind : e.kind ≡ Photon code dtime = search (rules, arith) in
          ap found (omega (arith, low)) ∙ photon low ∙ sym (of_photon groups e code dtime kind)
      | inr high ↦
          let kind : e.kind ≡ Marker (code % 256) = search (rules, arith) in
          ap found (omega (arith, high)) ∙ none ∙ sym (of_marker groups e (code % 256) kind)
    ]

pub of_shifted_marker : (by : Sorting) (e : Event) (bits : ℕ) → e.kind ≡ Marker bits → groups_in by e ≡ 0
of_shifted_marker by e bits is = ap (λ kind. bits_of (map (λ group. takes_kind group (shifted_kind by kind)) by.groups)) is ∙ none_of by.groups

pub gated_fits : (groups : List GroupView) (input dtime : ℕ) → length groups ≤ 64 → gated_bits groups input dtime < 2 ^ 64
gated_fits groups input dtime few = omega (arith, parted_fits groups input dtime few)

pub few_groups : (groups : List Group) → length groups ≤ 64 → length (map group_view groups) ≤ 64
few_groups groups few = let same : length (map group_view groups) ≡ length groups = simp length-map in omega (arith, same, few)

-- The gates of all groups are those of the groups that have some.

-- the gates of a group, and those of the groups after it
front_and_rest : (index : ℕ) (gs : List Group) (g : Group) → index < length gs → g ≡ get_or gs index g
    → all_gates (map group_view (drop index gs)) ≡ g.gates.items ++ all_gates (map group_view (drop (index + 1) gs))
front_and_rest index gs g within is = cc (drop_more gs index g within)

one_more : (gated : List Gated) (group : Gated) → gates_in (gated ++ group ∷ []) ≡ gates_in gated ++ gates_of group
one_more gated group = flat_map-append gates_of gated (group ∷ []) ∙ ap (λ xs. gates_in gated ++ xs) (append-nil (gates_of group))

-- one group more that has gates
pub gates_some : (gated : List Gated) (group : Gated) (index : ℕ) (gs : List Group) (g : Group) → index < length gs → g ≡ get_or gs index g
    → gates_of group ≡ g.gates.items → gates_in gated ++ all_gates (map group_view (drop index gs)) ≡ all_gates (map group_view gs)
    → gates_in (gated ++ group ∷ []) ++ all_gates (map group_view (drop (index + 1) gs)) ≡ all_gates (map group_view gs)
gates_some gated group index gs g within is same rest = grind (arith, common_steps, one_more, append_assoc, front_and_rest)

-- one that has none
pub gates_none : (gated : List Gated) (index : ℕ) (gs : List Group) (g : Group) → index < length gs → g ≡ get_or gs index g
    → g.gates.items ≡ [] → gates_in gated ++ all_gates (map group_view (drop index gs)) ≡ all_gates (map group_view gs)
    → gates_in gated ++ all_gates (map group_view (drop (index + 1) gs)) ≡ all_gates (map group_view gs)
gates_none gated index gs g within is none rest = cc (front_and_rest index gs g within is)

-- there is a gate where there is a group that has some
pub some_gates : (gated : List Gated) (empty : Bool) → empty ≡ (length gated == 0) → not empty ≡ nat_lt 0 (length (gates_in gated))
some_gates [] empty is = ap not is
some_gates (group ∷ gated) empty is = search (rules, arith)

not_one : (n : ℕ) → 2 ≤ n → false ≡ (n == 1)
not_one n more = grind (arith, nat_tests, more)

-- two groups that have some have more than one
pub two_groups : (gated : List Gated) → 2 ≤ length gated → false ≡ (length (gates_in gated) == 1)
two_groups [] many = absurd (omega (arith, many))
two_groups (one ∷ []) many = absurd (omega (arith, many))
two_groups (one ∷ two ∷ rest) many = search (rules, arith, not_one, length-append)
