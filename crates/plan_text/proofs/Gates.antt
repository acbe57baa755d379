-- Gates that rise, one gate at a time.
use Rattle.std.proofs.Common.{◌≡◌, sym, ◌∙◌, ℕ, ◌+◌, ◌<◌, ◌≤◌, List, [], ◌∷◌, ◌++◌, map, drop, length, get_or, Option, Some, option_map, option_and_then, arith}
use Rattle.{std.proofs.Common.rules, toml.specs.{Data.{Data, Items, as_array}, declared.value.Value.Value, View.view}, tally_base.specs.Gates.AreGates}
use Rattle.{toml_rules.specs.Values.integer_in, plan_text.{specs.Groups.{range_of, range_in, range_among, ranges_from, gates}, proofs.Numbers.first_of}}
use Rattle.plan_text.proofs.Numbers.{both_put, integer_least, integer_most}

-- ## Gates that are read rise

range_rises : (low : ℕ) (lo hi : Option ℕ) (range : ℕ × ℕ) → ((n : ℕ) → lo ≡ Some n → low ≤ n) → ((n : ℕ) → hi ≡ Some n → n ≤ 32768)
    → range_of lo hi ≡ Some range → AreGates low (range ∷ [])
range_rises low lo hi range from most is = search (rules, arith)

range_in_rises : (low : ℕ) (ds : List Data) (range : ℕ × ℕ) → range_in low ds ≡ Some range → AreGates low (range ∷ [])
range_in_rises low (lo ∷ hi ∷ []) range is =
    range_rises low (integer_in low 32768 lo) (integer_in 0 32768 hi) range (integer_least low 32768 lo) (integer_most 0 32768 hi) is
range_in_rises low _ range is = cc

range_among_rises : (low : ℕ) (items : Option Items) (range : ℕ × ℕ) → range_among low items ≡ Some range → AreGates low (range ∷ [])
range_among_rises low items range is = search (rules, arith, range_in_rises)

first_rises : (low : ℕ) (found : Option (ℕ × ℕ)) (ds : List Data) (gates : List (ℕ × ℕ)) → ((range : ℕ × ℕ) → found ≡ Some range → AreGates low (range ∷ []))
    → ((low : ℕ) (gates : List (ℕ × ℕ)) → ranges_from low ds ≡ Some gates → AreGates low gates)
    → option_and_then (λ (range : ℕ × ℕ). option_map (λ ranges. range ∷ ranges) (ranges_from range.1 ds)) found ≡ Some gates → AreGates low gates
first_rises low found ds gates first rest is = search (rules, arith)

ranges_rise : (low : ℕ) (ds : List Data) (gates : List (ℕ × ℕ)) → ranges_from low ds ≡ Some gates → AreGates low gates
ranges_rise low [] gates is = let same : gates ≡ [] = cc in rw same tt
ranges_rise low (d ∷ ds) gates is = first_rises low (range_among low (as_array d)) ds gates (range_among_rises low (as_array d)) (λ low. ranges_rise low ds) is

pub gates_rise : (d group : Data) (ranges : List (ℕ × ℕ)) → gates d group ≡ Some ranges → AreGates 0 ranges
unfolding gates
gates_rise d group ranges is = search (rules, arith, ranges_rise, range_among_rises)

ranges_step : (front : List (ℕ × ℕ)) (low : ℕ) (range : ℕ × ℕ) (d : Data) (ds : List Data) → range_among low (as_array d) ≡ Some range
    → option_map (λ l. front ++ l) (ranges_from low (d ∷ ds)) ≡ option_map (λ l. (front ++ range ∷ []) ++ l) (ranges_from range.1 ds)
ranges_step front low range d ds is = rw is (both_put front range (ranges_from range.1 ds))

-- one more range is taken in
pub ranges_kept : (front : List (ℕ × ℕ)) (low i : ℕ) (range : ℕ × ℕ) (vs : List Value) (v : Value) (all : Option (List (ℕ × ℕ)))
    → i < length vs → v ≡ get_or vs i v → Some range ≡ range_among low (as_array (view v))
    → option_map (λ l. front ++ l) (ranges_from low (map view (drop i vs))) ≡ all
    → option_map (λ l. (front ++ range ∷ []) ++ l) (ranges_from range.1 (map view (drop (i + 1) vs))) ≡ all
ranges_kept front low i range vs v all within at is rest =
    let one = ranges_step front low range (view v) (map view (drop (i + 1) vs)) (sym is) in
    let so_far = rw (first_of vs i v within at) at rest in
    sym one ∙ so_far
