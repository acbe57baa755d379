use Rattle.std.proofs.Common.{◌≡◌, ◌+◌, ◌*◌, ◌^◌, ◌<◌, ◌≤◌, ◌++◌, ℕ, List, length, map, get_or, replicate, refl, sym, ap, ◌∙◌, arith, rules, append-nil}
use Rattle.std.proofs.{Common.{append_assoc, zero, suc, [], ◌∷◌}, lemmas.{Simd.{get_or-chunk, get_or-replicate, Each1-get_or, map-map}, List.length-map}}
use Rattle.std.{proofs.lemmas.List.{length-append, map-append, FromFn.map-range_with_len_more}, specs.{Prelude.{count_ones, nat_lt}, List.filter}}
use Rattle.{std.specs.List.range_with_len, tally_base.{specs.{Codes.code_in, Columns.{event_at, rows, row, gathered}}, proofs.BlockRows.length-rows}}
use Rattle.lane_decode.specs.{Staying.{has_bit, bits_in, stays, staying, event_in}, InColumns.{wraps_at, sum_to, time_in}, declared.columns.Columns.Columns}
use Rattle.lane_decode.proofs.{Added.sum-few, Prefix.{plus, length-plus, plus-at, lasts, last-of, sum-behind}, Chosen.{few-staying, few-bits, below-bits}}
use Rattle.lane_decode.proofs.Chosen.{ones-bits, stay-more, map-places}
use lib.Lanes.{chunk}
use Rattle.lane_decode.proofs.columns.Columns.put_events.Goals as goal

few_rows : (below : ℕ) (columns : Columns) (n : ℕ) → length (staying below columns n) ≤ n
unfolding staying
few_rows below columns n = few-staying (stays below columns) n

rows-are : {A : Type 0} (f : ℕ → A) (n : ℕ) → rows f n ≡ map f (range_with_len 0 n)
rows-are f zero = refl
rows-are f (suc n) =
    let next : n + 1 ≡ suc n = omega arith in
    ap (λ l. l ++ f n ∷ []) (rows-are f n) ∙ sym (map-range_with_len_more f 0 n n (omega arith)) ∙ ap (λ m. map f (range_with_len 0 m)) next

chunk-at : (xs eight : List ℕ) (at j : ℕ) → eight ≡ chunk at 8 xs → j < 8 → get_or eight j 0 ≡ get_or xs (at + j) 0
chunk-at xs eight at j is lt = ap (λ v. get_or v j 0) is ∙ get_or-chunk at 8 xs j 0 lt

-- The sums of wraps up to each of eight records.
module _ (w : ℕ → ℕ) (few_wraps : (i : ℕ) → i < 64 → w i ≤ 2 ^ 25) (k : ℕ) (below : k < 8) (eight : List ℕ) (is : (j : ℕ) → j < 8 → get_or eight j 0 ≡ w (8 * k + j))
    (was : List ℕ) (long_was : length was ≡ 8) (last : get_or was 7 0 ≡ sum_to w (8 * k)) (sums : List ℕ) (long : length sums ≡ 8)
    (sums_are : (i : ℕ) → i < 8 → get_or sums i 0 ≡ sum_to (λ j. get_or eight j 0) (i + 1)) where
  pub sum-in : (i : ℕ) → i < 8 → get_or (plus (lasts was) sums) i 0 ≡ sum_to w (8 * k + i + 1)
  sum-in i lt =
      let same : 8 * k + (i + 1) ≡ 8 * k + i + 1 = omega arith in
      let all : lasts was ≡ replicate 8 (sum_to w (8 * k)) = last-of was long_was ∙ ap (replicate 8) last in
      let before : get_or (lasts was) i 0 ≡ sum_to w (8 * k) = ap (λ l. get_or l i 0) all ∙ get_or-replicate 8 i (sum_to w (8 * k)) 0 lt in
      let up_to = sum-behind w (λ j. get_or eight j 0) (8 * k) (i + 1) (λ j less. is j (omega (arith, less, lt))) in
      let sum : get_or (lasts was) i 0 + get_or sums i 0 ≡ sum_to w (8 * k + i + 1) = omega (arith, before, sums_are i lt, up_to, ap (sum_to w) same) in
      let few = sum-few w (2 ^ 25) (8 * k + i + 1) (λ j less. few_wraps j (omega (arith, less, below, lt))) in
      plus-at (lasts was) sums (ap length all) long i lt (omega (arith, sum, few, below, lt)) ∙ sum

pub loop-k-init : goal.loop-k-init
unfolding staying sum_to
loop-k-init g c = record { events = sym (append-nil _); unsorted = refl; long = refl; last = refl }

pub sums_up_to-more-requires : goal.sums_up_to-more-requires
sums_up_to-more-requires g c = (
  search rules,
  λ i lt.
      let is = chunk-at c.args.self.now.wraps c.eight_at.result (8 * c.loop-k.k) i c.eight_at.ensures lt in
      omega (arith, is, c.requires.few (8 * c.loop-k.k + i) (omega (arith, c.loop-k-test.true, lt))),
)

pub put_eight-requires : goal.put_eight-requires
put_eight-requires g c =
    let k = c.loop-k.k in
    let columns = c.args.self.now in
    let b = c.loop-k.block in
    let event = event_in c.args.placed c.args.base g.R.RecordLayout.UNIT columns in
    let all = ap length c.loop-k.invariant.events ∙ length-append (gathered c.args.block.now) (map event (staying c.args.below columns (8 * k))) in
    let bits = c.bits_below-bits.result in
    let small = c.bits_below-bits.ensures.few in
    let front : count_ones bits ≤ 8 = omega (arith, few-bits bits small, ones-bits bits small) in
    let few : b.len ≤ c.args.block.now.len + 8 * k = omega (arith, all, length-rows (event_at b) b.len, length-rows (event_at c.args.block.now) c.args.block.now.len, length-map (staying c.args.below columns (8 * k)) event, few_rows c.args.below columns (8 * k)) in
    (omega arith, ((c.places_from-places.ensures.lanes, c.close-close_marks.ensures.lanes, c.times_from-times.ensures.lanes), (front, omega (arith, few, c.requires.room, c.loop-k-test.true))))

pub close-close_sums-requires-clause-lanes : goal.close-close_sums-requires-clause-lanes
close-close_sums-requires-clause-lanes g c = length-plus (lasts c.loop-k.sums) c.sums_up_to-more.result refl c.sums_up_to-more.ensures.lanes

pub loop-k-preserved : goal.loop-k-preserved
unfolding staying
loop-k-preserved g c =
    let columns = c.args.self.now in
    let below = c.args.below in
    let unit = g.R.RecordLayout.UNIT in
    let k = c.loop-k.k in
    let at = 8 * k in
    let lt = c.loop-k-test.true in
    let inv = c.loop-k.invariant in
    let f = stays below columns in
    let event = event_in c.args.placed c.args.base unit columns in
    let bits = c.bits_below-bits.result in
    let small = c.bits_below-bits.ensures.few in
    let ks = bits_in bits in
    let next : at + 8 ≡ 8 * (k + 1) = omega arith in
    let same : (i : ℕ) → i < 8 → has_bit bits i ≡ f (at + i) = λ i less.
    c.bits_below-bits.ensures.bits i less ∙ ap (λ x. nat_lt (code_in x) below) (chunk-at columns.marks c.eight_at-marks.result at i c.eight_at-marks.ensures less) in
    let sum = sum-in (wraps_at columns) c.requires.few k lt c.eight_at.result (λ j less. chunk-at columns.wraps c.eight_at.result at j c.eight_at.ensures less)
    c.loop-k.sums inv.long inv.last c.sums_up_to-more.result c.sums_up_to-more.ensures.lanes c.sums_up_to-more.ensures.each in
    let row_is : (j : ℕ) → j < length ks → row c.places_from-places.result c.times_from-times.result c.close-close_marks.result j ≡ event (at + get_or ks j 0) = λ j less.
    let here = get_or ks j 0 in
    let inside : here < 8 = Each1-get_or (λ i. i < 8) ks j 0 less (below-bits bits small) in
    let lane : j < 8 = omega (arith, less, few-bits bits small) in
    let mark = c.close-close_marks.ensures.close j less ∙ chunk-at columns.marks c.eight_at-marks.result at here c.eight_at-marks.ensures inside in
    let tick = c.close-close_ticks.ensures.close j less ∙ chunk-at columns.times c.eight_at-ticks.result at here c.eight_at-ticks.ensures inside in
    let wraps = c.close-close_sums.ensures.close j less ∙ sum here inside in
    let fits = c.requires.times (at + here) (omega (arith, lt, inside)) in
    let time : get_or c.times_from-times.result j 0 ≡ time_in c.args.base unit columns (at + here) = c.times_from-times.ensures.each j lane ∙ rw (wraps, tick) (omega (arith, fits)) in
    let place : get_or c.places_from-places.result j 0 ≡ c.args.placed + (at + here) + 1 = c.places_from-places.ensures.close j less ∙ omega (arith, c.requires.places, inside, lt) in
    rw (mark, time, place) refl in
    let eight = rows-are (row c.places_from-places.result c.times_from-times.result c.close-close_marks.result) (length ks) ∙ map-places (row c.places_from-places.result c.times_from-times.result c.close-close_marks.result) (λ i. event (at + i)) ks 0 (λ j less. ap (row c.places_from-places.result c.times_from-times.result c.close-close_marks.result) (omega arith) ∙ row_is j less) in
    record {
      events = c.put_eight.ensures.more ∙ ap (λ n. gathered c.loop-k.block ++ rows (row c.places_from-places.result c.times_from-times.result c.close-close_marks.result) n) (ones-bits bits small)
          ∙ ap (λ l. gathered c.loop-k.block ++ l) (eight ∙ sym (map-map event (λ i. at + i) ks)) ∙ ap (λ l. l ++ map event (map (λ i. at + i) ks)) inv.events
          ∙ append_assoc (gathered c.args.block.now) _ _ ∙ ap (λ l. gathered c.args.block.now ++ l) (sym (map-append event (filter f (range_with_len 0 at)) (map (λ i. at + i) ks)) ∙ ap (map event) (sym (stay-more f at bits same) ∙ ap (λ n. filter f (range_with_len 0 n)) next));
      unsorted = c.put_eight.ensures.unsorted ∙ inv.unsorted;
      long = length-plus (lasts c.loop-k.sums) c.sums_up_to-more.result refl c.sums_up_to-more.ensures.lanes;
      last = sum 7 (omega arith) ∙ ap (sum_to (wraps_at columns)) (omega arith);
    }

pub returns-clause-more : goal.returns-clause-more
returns-clause-more g c = let last : c.loop-k.k ≡ 8 = search (rules, arith) in rw last at c.loop-k.invariant.events
