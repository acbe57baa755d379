-- What a bin brings when it is closed.
use Rattle.std.proofs.Common.{◌≡◌, sym, ap, append_assoc, ℕ, ◌+◌, ◌-◌, ◌*◌, ◌/◌, ◌<◌, ◌≤◌, Bool, true, false, ◌&&◌, eqb, List, [], ◌∷◌, ◌++◌, length, refl, ◌∙◌}
use Rattle.std.proofs.{Common.{arith, length-append, append-nil, rules}, Math.{Logic.∥∥₁_map, Nat.{mul-le-mul, mul-le-mul_right}}, lemmas.Grind.common_steps}
use Rattle.{std.specs.List.{filter, AllByRecursion}, tally_base.specs.{Settings.CoincidenceView, Tally.History, Limits.record_limit}}
use Rattle.lag_ring.specs.{declared.{window.Side.{Side, TheVariants.{First, Second}}, ring.Entry.Entry}, Cells.Cells, Ring.{Ring, weight_where, IsInReach}}
use Rattle.lag_ring.{specs.Bytes.weight_of, proofs.{Kept.{HasWeights, weights_of}, Rising.all_weaker, Sums.{sum_by-agree, sum_by-times, sum_by-zero}}}
use Rattle.coincidence.specs.{declared.pairing.{Bin.Bin, Pairing.Pairing}, Pairs.{in_first, in_second, is_in_cell, is_coincidence, coincidences}}
use Rattle.coincidence.specs.Pairing.{other_side, pairs_at, bin_pairs, BinIs, BinsAre, RingIs, CellsAre, Pending, MayClose, Closes, Pays, HasRoom, Counts}
use Rattle.coincidence.proofs.{Hits.{pairs_in, hits-append, pairs_in-one, pairs_in-le}, Mirror.pairs_apart-in, Visits.{counts_ticks, pair_before, counts_as}}

-- the pairs with the entries of a list that are before, by their weights
by_weights : (d : Side) (set : CoincidenceView) (c : ℕ) (l : Entry) (es : List Entry) → AllByRecursion (λ e. e.index < l.index) es
    → pairs_at d set c l es ≡ weight_where (weight_of d) (λ i. counts_ticks d set c i l.index) es * weight_of (other_side d) l
by_weights d set c l es before = sum_by-agree (λ e. e.index < l.index) _ _ es before (pair_before d set c l) ∙ sum_by-times _ _ es

same_tick : (set : CoincidenceView) (c n : ℕ) → is_in_cell set c n n ≡ eqb (set.reach / set.width) c
same_tick set c n = search (rules, arith)

pub filter_none : {X : Type 0} (p : X → Bool) (xs : List X) → AllByRecursion (λ x. p x ≡ false) xs → filter p xs ≡ []
filter_none p [] all = refl
filter_none p (x ∷ xs) all = rw all.0 (filter_none p xs all.1)

more_work : (r few more n : ℕ) → 0 < more → n ≤ (2 * r + 1) * few + (2 * r + 1) → n ≤ (2 * r + 1) * (few + more)
more_work r few more n some is = omega (arith, mul-le-mul_right (2 * r + 1) some)

-- no more photons are in both groups than make pairs with themselves
pub bin_both : (set : CoincidenceView) (bin : Bin) (xs : History) → BinIs set bin xs → bin.both ≤ bin.weights.a * bin.weights.b
bin_both set bin xs is = grind (arith, common_steps, pairs_in-one (in_first set) (in_second set) xs)

-- entries have the weights of the closed photons in reach
abbrev pub Weights : CoincidenceView → List Entry → History → Type 0
Weights set es closed = HasWeights (in_first set) (in_second set) (λ x. x.0.time) set.reach es closed

pub ring_weights : (set : CoincidenceView) (r : Ring) (closed : History) → RingIs set r closed → Weights set r.entries closed
ring_weights set r closed were = rw (← were.reach) (weights_of (in_first set) (in_second set) (λ x. x.0.time) r closed were.keeps)

module _ (set : CoincidenceView) (bin : Bin) (closed xs : History) (is : BinIs set bin xs) where
  window : (test : ℕ → Bool) → AllByRecursion (λ x. x.0.time < bin.weights.index) closed → ((i : ℕ) → test i ≡ true → bin.weights.index ≤ i + set.reach) → IsInReach (λ x. x.0.time) set.reach test closed
  window test after near = search (rules, arith, all_weaker)

  inside : pairs_in (λ x y. in_first set x && in_second set y) xs ≡ bin.weights.a * bin.weights.b - bin.both
  inside = grind (arith, common_steps, pairs_in-one (in_first set) (in_second set) xs)

  -- what each cell counts more
  pub grown_by : (es : List Entry) → Weights set es closed → AllByRecursion (λ x. x.0.time < bin.weights.index) closed → (c : ℕ) → coincidences set c (closed ++ xs) ≡ coincidences set c closed + bin_pairs set c bin es
  grown_by es were after c =
      let n : ℕ = bin.weights.index in
      let early = were.bounded n after in
      let firsts = were.firsts (λ i. is_in_cell set c i n) (window (λ i. is_in_cell set c i n) after (λ i is. grind (arith, common_steps, is))) in
      let seconds = were.seconds (λ i. is_in_cell set c n i) (window (λ i. is_in_cell set c n i) after (λ i is. grind (arith, common_steps, is))) in
      let more = hits-append (in_first set) (in_second set) (λ x. x.0.time) (is_in_cell set c) n closed xs is.weighs.here in
      pairs_apart-in (is_coincidence set c) (closed ++ xs) ∙ more ∙ rw (pairs_apart-in (is_coincidence set c) closed, by_weights First set c bin.weights es early, by_weights Second set c bin.weights es early, firsts, seconds, inside, is.weighs.a, is.weighs.b, same_tick set c n) (omega arith)

-- bins of the photons xs may be put after the closed ones
pub record CanClose (set : CoincidenceView) (p : Pairing) (bins : List Bin) (closed xs : History) : Type 0 where
  pub few : length closed + length xs ≤ record_limit
  pub are : BinsAre set bins closed xs
  pub ring : RingIs set p.ring closed
  pub cells : CellsAre set p.cells closed

module _ (set : CoincidenceView) (old : Pairing) (bins : List Bin) where
  -- bins are those of a part and after them the others
  split_are : (part rest : List Bin) (closed xs : History) → BinsAre set (part ++ rest) closed xs
      → (here : History) × (after : History) × (xs ≡ here ++ after) × BinsAre set part closed here × BinsAre set rest (closed ++ here) after
  split_are [] rest closed xs are = ([], xs, refl, refl, rw (append-nil closed) are)
  split_are (bin ∷ part) rest closed xs are =
      let next = split_are part rest (closed ++ are.0) are.1 are.5 in (
        are.0 ++ next.0,
        next.1,
        are.2 ∙ ap (λ ys. are.0 ++ ys) next.2 ∙ sym (append_assoc are.0 next.0 next.1),
        (are.0, next.0, refl, are.3, are.4, next.3),
        rw (← append_assoc closed are.0 next.0) next.4,
      )

  first_of : (rest : List Bin) (came : History) (is : Pending set old.ring old.cells (bins ++ rest) came) → CanClose set old bins is.closed (split_are bins rest is.closed is.late is.are).0
  first_of rest came is =
      let split = split_are bins rest is.closed is.late is.are in
      record { few = omega (arith, is.few, ap length is.parts, length-append is.closed is.late, ap length split.2, length-append split.0 split.1); are = split.3; ring = is.ring; cells = is.cells }

  pub can_close : MayClose set old bins → ∥ ((closed : History) × (xs : History) × CanClose set old bins closed xs) ∥₁
  can_close may = ∥∥₁_map may (λ w. (_, _, first_of w.0 w.1 w.2))

  -- where their photons are in closed bins then, they were closed
  pub closes : (new : Pairing) (start now : ℕ) → ((closed xs : History) → CanClose set old bins closed xs → RingIs set new.ring (closed ++ xs) × CellsAre set new.cells (closed ++ xs))
      → Pays old new start now → Closes set old new bins start now
  closes new start now keeps steps = record {
    follows = λ rest came is.
        let split = split_are bins rest is.closed is.late is.are in
        let kept = keeps _ _ (first_of rest came is) in
        record { closed = is.closed ++ split.0; late = split.1; parts = is.parts ∙ ap (λ ys. is.closed ++ ys) split.2 ∙ sym (append_assoc is.closed split.0 split.1); few = is.few; are = split.4; ring = kept.0; cells = kept.1 };
    steps = steps;
  }

-- no sum passes the greatest count
pub sums_fit : (set : CoincidenceView) (p : Pairing) (bins : List Bin) (closed xs : History) → CanClose set p bins closed xs
    → (f : ℕ → ℕ) → ((c : ℕ) → coincidences set c (closed ++ xs) ≡ coincidences set c closed + f c) → HasRoom set p.cells f
sums_fit set p bins closed xs can f grows = record {
  sized = can.cells.count;
  fits = λ c in_range.
      let few : length (closed ++ xs) ≤ record_limit = rw (length-append closed xs) can.few in
      let square : length (closed ++ xs) * length (closed ++ xs) ≤ record_limit * record_limit = mul-le-mul few few in
      let most = pairs_in-le (is_coincidence set c) (closed ++ xs) in
      omega (arith, grows c, can.cells.pairs c in_range, pairs_apart-in (is_coincidence set c) (closed ++ xs), most, square);
}

module _ (set : CoincidenceView) (p : Pairing) (bin : Bin) (closed xs : History) (can : CanClose set p (bin ∷ []) closed xs) where
  pub both_fit : bin.both ≤ bin.weights.a * bin.weights.b
  both_fit = bin_both set bin can.are.0 can.are.3

  pub before : AllByRecursion (λ e. e.index < bin.weights.index) p.ring.entries
  before = can.ring.keeps.bounded bin.weights.index can.are.4

  grown : (c : ℕ) → coincidences set c (closed ++ xs) ≡ coincidences set c closed + bin_pairs set c bin p.ring.entries
  grown = grown_by set bin closed xs (search (rules, arith, append-nil)) p.ring.entries (ring_weights set p.ring closed can.ring) can.are.4

  pub may_fit : HasRoom set p.cells (λ c. bin_pairs set c bin p.ring.entries)
  may_fit = sums_fit set p (bin ∷ []) closed xs can _ grown

  module _ (new : Cells) (before' now : ℕ) where
    -- the cells count the pairs of the bin too
    pub cells_shut : Counts set p.cells new before' now (λ c. bin_pairs set c bin p.ring.entries) (2 * length p.ring.entries + 1) → CellsAre set new (closed ++ xs)
    cells_shut is =
        let few : length p.ring.entries ≤ set.reach = omega (arith, can.ring.keeps.within, can.ring.reach) in
        search (rules, arith, length-append, more_work, grown)

    -- where no entry is in reach, they count those inside the bin
    pub cells_alone : AllByRecursion (λ e. e.index + set.reach < bin.weights.index) p.ring.entries
        → Counts set p.cells new before' now (λ c. bin_pairs set c bin []) 1 → CellsAre set new (closed ++ xs)
    cells_alone far is =
        let none : (d : Side) (c : ℕ) → pairs_at d set c bin.weights p.ring.entries ≡ 0 =
        λ d c. sum_by-zero (λ e. e.index + set.reach < bin.weights.index) _ p.ring.entries far (λ e away. search (rules, arith)) in
        cells_shut (counts_as set p.cells new before' now _ _ 1 _ is (λ c. rw (none First c, none Second c) refl) (omega arith))
