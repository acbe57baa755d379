-- Numbers of groups that rise, one at a time.
use Rattle.std.proofs.Common.{◌≡◌, refl, ap, sym, ◌∙◌, ℕ, ◌+◌, ◌<◌, ◌≤◌, List, [], ◌∷◌, ◌++◌, map, drop, length, get_or, Option, Some, option_map, arith, rules}
use Rattle.{std.proofs.{Common.{◌^◌, None, append_assoc}, Math.Pow.pow_mono, lemmas.{Grind.pow_more, List.drop_more}}, toml.specs.Data.Data}
use Rattle.{toml.specs.{declared.value.Value.Value, View.view}, tally_base.specs.Gates.AreGroups, toml_rules.specs.Values.integer_in}
use Rattle.plan_text.specs.{Folds.numbers_from, Groups.inputs_from}

-- An integer that is read is in its range.
pub integer_least : (least greatest : ℕ) (d : Data) (n : ℕ) → integer_in least greatest d ≡ Some n → least ≤ n
integer_least least greatest d n is = search (rules, arith)

pub integer_most : (least greatest : ℕ) (d : Data) (n : ℕ) → integer_in least greatest d ≡ Some n → n ≤ greatest
integer_most least greatest d n is = search (rules, arith)

-- The bit set of inputs, one input at a time.

both_added : (a b : ℕ) (set : Option ℕ) → option_map (λ more. a + more) (option_map (λ more. b + more) set) ≡ option_map (λ more. a + b + more) set
both_added a b set = search (rules, arith)

pub inputs_step : (inputs low n : ℕ) (d : Data) (ds : List Data) → integer_in low 64 d ≡ Some n
    → option_map (λ set. inputs + set) (inputs_from low (d ∷ ds)) ≡ option_map (λ set. inputs + 2 ^ n + set) (inputs_from (n + 1) ds)
inputs_step inputs low n d ds is = rw is (both_added inputs (2 ^ n) (inputs_from (n + 1) ds))

pub first_of : (vs : List Value) (i : ℕ) (v : Value) → i < length vs → v ≡ get_or vs i v → map view (drop i vs) ≡ view v ∷ map view (drop (i + 1) vs)
first_of vs i v within at = ap (map view) (drop_more vs i v within) ∙ ap (λ w. view w ∷ map view (drop (i + 1) vs)) (sym at)

-- one more input is taken in
pub inputs_kept : (inputs low n added i : ℕ) (vs : List Value) (v : Value) (all : Option ℕ)
    → i < length vs → v ≡ get_or vs i v → Some n ≡ integer_in low 64 (view v) → added ≡ 2 ^ n
    → option_map (λ set. inputs + set) (inputs_from low (map view (drop i vs))) ≡ all
    → option_map (λ set. inputs + added + set) (inputs_from (n + 1) (map view (drop (i + 1) vs))) ≡ all
inputs_kept inputs low n added i vs v all within at is power rest = search (rules, arith, inputs_step, first_of)

-- a number below 2 ^ low, and a power from there on
pub below_next : (inputs low n : ℕ) → inputs < 2 ^ low → low ≤ n → inputs + 2 ^ n < 2 ^ (n + 1)
below_next inputs low n below from = omega (arith, pow_mono from, pow_more 2 n)

pub below_all : (inputs low : ℕ) → inputs < 2 ^ low → low ≤ 65 → inputs < 2 ^ 65
below_all inputs low below most = omega (arith, pow_mono most)

-- Numbers that rise, each above low, and are below last.
abbrev pub NumbersTo : ℕ → ℕ → List ℕ → Type 0
NumbersTo last low [] = low < last
NumbersTo last low (n ∷ ns) = (low < n) × (n ≤ 64) × NumbersTo last n ns

pub numbers_further : (last low : ℕ) (ns : List ℕ) (n : ℕ) → NumbersTo last low ns → last ≤ n → n ≤ 64 → NumbersTo (n + 1) low (ns ++ n ∷ [])
numbers_further last low [] n rise from most = (omega (arith, rise, from), most, omega arith)
numbers_further last low (first ∷ ns) n rise from most = (rise.0, rise.1, numbers_further last first ns n rise.2 from most)

pub are_groups : (last low : ℕ) (ns : List ℕ) → NumbersTo last low ns → AreGroups low ns
are_groups last low [] rise = tt
are_groups last low (n ∷ ns) rise = (rise.0, rise.1, are_groups last n ns rise.2)

pub both_put : {X : Type 0} (front : List X) (x : X) (more : Option (List X))
    → option_map (λ l. front ++ l) (option_map (λ l. x ∷ l) more) ≡ option_map (λ l. (front ++ x ∷ []) ++ l) more
both_put front x None = refl
both_put front x (Some more) = ap (λ l. Some l) (sym (append_assoc front (x ∷ []) more))

numbers_step : (front : List ℕ) (most low n : ℕ) (d : Data) (ds : List Data) → integer_in low most d ≡ Some n
    → option_map (λ l. front ++ l) (numbers_from most low (d ∷ ds)) ≡ option_map (λ l. (front ++ n ∷ []) ++ l) (numbers_from most (n + 1) ds)
numbers_step front most low n d ds is = rw is (both_put front n (numbers_from most (n + 1) ds))

-- one more number is taken in
pub numbers_kept : (front : List ℕ) (most low i n : ℕ) (vs : List Value) (v : Value) (all : Option (List ℕ))
    → i < length vs → v ≡ get_or vs i v → Some n ≡ integer_in low most (view v)
    → option_map (λ l. front ++ l) (numbers_from most low (map view (drop i vs))) ≡ all
    → option_map (λ l. (front ++ n ∷ []) ++ l) (numbers_from most (n + 1) (map view (drop (i + 1) vs))) ≡ all
numbers_kept front most low i n vs v all within at is rest =
    let one = numbers_step front most low n (view v) (map view (drop (i + 1) vs)) (sym is) in
    let so_far = rw (first_of vs i v within at) at rest in
    sym one ∙ so_far
