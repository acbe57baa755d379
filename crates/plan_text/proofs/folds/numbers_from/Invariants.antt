use Rattle.{std.proofs.Common.{◌≡◌, ◌++◌, map, drop, length, option_map}, arrayvec.specs.ArrayVec.array_vec_len, toml.specs.View.view}
use Rattle.plan_text.{specs.Folds.numbers_from, proofs.Numbers.NumbersTo}
use Rattle.plan_text.proofs.folds.numbers_from.Given as goal

abbrev pub invariant-items : goal.invariant-items
invariant-items l = record {
  room : array_vec_len l.numbers ≡ l.item-index;
  count : length l.numbers.items ≡ l.item-index;
  rise : NumbersTo l.low 0 l.numbers.items;
  rest : option_map (λ more. l.numbers.items ++ more)
      (numbers_from l.most l.low (map view (drop l.item-index l.items))) ≡ numbers_from l.most 1 (map view l.items);
}
