use Rattle.std.proofs.{Common.{◌≡◌, ◌+◌, ◌*◌, ◌^◌, ◌<◌, ◌≤◌, ℕ, [], true, get_or, refl, sym, ap, ◌∙◌, arith, rules, slice_index}, lemmas.List.length-map}
use Rattle.{std.{proofs.Math.Nat.mul-le-mul_right, specs.Int.{from_le_bytes, w32}}, abs_time.specs.Placing.{placed_by, base_of}}
use Rattle.lane_decode.{specs.{InColumns.{wraps_at, sum_to, time_in, Rises}, Staying.{staying, event_in}}, proofs.Added.sum-few}
use Rattle.record_stream.specs.{Whole.{last_time, InReach}, Rows.ordered_below, Walking.{how_of, greatest_of, clock_in, LetsPass}}
use Rattle.{record_stream.proofs.WholeBlocks.{gathers-whole, many-events}, record_layout.proofs.KindLemmas.{counted_records, counted_split}}
use Rattle.record_stream.proofs.ahead.Ahead.of.Goals as goal

pub wraps_in-wraps-requires : goal.wraps_in-wraps-requires
wraps_in-wraps-requires g c = λ i lt. let is = c.fill.ensures i (omega (arith, c.requires.whole, lt)) in g.met.R.RecordLayout.wraps_few _ _ is.amounts

pub returns-clause-leads : goal.returns-clause-leads
returns-clause-leads g c =
    let walk = c.args.walk.now in
    let words = c.args.words.now in
    let columns = c.fill.new.self in
    let unit = g.R.RecordLayout.UNIT in
    let meaning = g.R.RecordLayout.meaning in
    let whole = c.requires.whole in
    let records = counted_records meaning words c.kinds-counts.result c.kinds-counts.ensures in
    let start = base_of (clock_in walk) in
    let passes : LetsPass walk meaning words = search (rules, arith) in
    let sure : c.rises-in_order.result ≡ true = search rules in
    let rises : Rises (greatest_of walk) (time_in start unit columns) 64 =
    rw (c.base-start.ensures.value, c.greatest-low.ensures) at (c.rises-in_order.ensures.rises sure) in
    let few : (i : ℕ) → i < 64 → wraps_at columns i ≤ 2 ^ 25 = λ i lt.
    g.met.R.RecordLayout.wraps_few (from_le_bytes w32 (get_or words i [])) (wraps_at columns i) (c.fill.ensures i (omega (arith, whole, lt))).amounts in
    let times : (i : ℕ) → i < 64 → time_in start unit columns i < 2 ^ 64 = λ i lt.
    let sum = sum_to (wraps_at columns) (i + 1) in
    let unit_few : unit ≤ 2 ^ 28 = omega (arith, g.met.R.RecordLayout.unit_small) in
    let product : unit * sum ≤ 2 ^ 28 * sum = mul-le-mul_right sum unit_few in
    let time_few : slice_index columns.times i < 2 ^ 32 = c.rises-in_order.ensures.few i lt in
    let sums = sum-few (wraps_at columns) (2 ^ 25) (i + 1) (λ k less. few k (omega (arith, less, lt))) in
    omega (arith, product, time_few, sums, lt, passes.base) in
    let reach : InReach (clock_in walk) unit columns =
    record { few = few; times = times; places = omega (arith, passes.room, whole, walk.few_placed, walk.limit) } in
    let sum_is : c.base-start.result + c.UNIT.result * c.wraps_in-wraps.result ≡ start + unit * sum_to (wraps_at columns) 64 = rw (c.base-start.ensures.value, c.UNIT.ensures, c.wraps_in-wraps.ensures) refl in
    let last_is = c.last_time-last.ensures start sum_is in
    let top_is : c.last_in_order-greatest.result ≡ last_time (ordered_below (how_of walk).mode) start unit columns =
    c.last_in_order-greatest.ensures start sum_is last_is ∙ ap (λ m. last_time (ordered_below m) start unit columns) (c.mode.ensures ∙ walk.same_mode) in
    record {
      counts = rw c.requires.meaning at c.kinds-counts.ensures;
      records = records;
      split = counted_split meaning words c.kinds-counts.result c.kinds-counts.ensures;
      room = omega (arith, passes.room, whole);
      reach = reach;
      in_short = record {
        events = many-events meaning unit columns words c.fill.ensures c.kinds-counts.result whole c.kinds-counts.ensures ∙ sym (length-map (staying 512 columns 64) (event_in (placed_by (clock_in walk)) start unit columns));
        last = last_is;
        greatest = top_is ∙ ap (λ m. last_time (ordered_below m) start unit columns) (sym walk.same_mode);
      };
      gathers = λ only. gathers-whole walk words meaning c.requires.meaning passes unit columns c.fill.ensures whole rises only _ _ sum_is top_is;
    }
