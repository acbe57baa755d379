use Rattle.std.proofs.Common.{◌≡◌, ◌≤◌, ◌++◌, ℕ, List, true, length, map, refl, ap, sym, inr, unwrap_or, ◌∙◌, arith, rules, ◌≢◌, ◌<◌, [], ◌∷◌, if◌then◌else◌}
use Rattle.std.{proofs.lemmas.{Bool.ne_eqb, List.{length-map, Elements.{All-filter, filter-append}}}, specs.Int.{from_le_bytes, w32}}
use Rattle.ptu_definitions.specs.{Words.numbers, Layouts.KindFits, Settled.ordered, Streams.StreamSettings, Times.events}
use Rattle.{ptu_definitions.proofs.DeliveredLaws.{delivered-append, delivered_after}, abs_time.specs.Placing.{greatest_by, mode_of as clock_mode}}
use Rattle.{abs_time.{specs.Floors.orders_markers, proofs.Floors.moves_by}, tally_base.specs.{Columns.{event_at, gathered}, declared.event.Event.Event}}
use Rattle.tally_base.{specs.{declared.header.Mode.Mode, Events.is_ordered, Tally.{moves_floor, InOrder}}, proofs.{BlockRows.length-rows, Floors.order-lower}}
use Rattle.{lane_decode.specs.declared.columns.Columns.Columns, settle.specs.{Passing.place_after, Standing.last_time, declared.settle.Settle.Settle}}
use Rattle.record_stream.specs.{Blocks.{PlacesRise, RisesWithin}, LettingGo.{ComesNext, IsDelivered, AreOrdered}, Rows.ordered_below, Walking.how_of}
use Rattle.record_stream.specs.{Walking.{greatest_of, clock_in, Gathers}, Whole.{events_below, LeadsTo}, declared.{ahead.Ahead.Ahead, walk.Walk.Walk}}
use Rattle.record_stream.proofs.{Feeds.delivers-both, Gathering.gathers-lead, WholeBlocks.few-events, Settles.{kept_on, some-is}, Steps.{ok_of, err_of}}
use Rattle.record_stream.proofs.{Steps.{block_at, block_fed, block_broke, floors_below}, LettingGo.{block_delivers, come_block}, Passed.ordered-same}
use Rattle.record_stream.proofs.settled_blocks.InPlaceGivingOrder.take_block.Goals as goal

-- the events in order of a list, without the others

-- They are all in order.
those_ordered : (mode : Mode) (es : List Event) → AreOrdered mode (ordered mode es)
those_ordered mode [] = tt
those_ordered mode (e ∷ es) = search (rules, arith, those_ordered mode es)

-- Their places rise.
places-lower : (low high : ℕ) (es : List Event) → low ≤ high → PlacesRise high es → PlacesRise low es
places-lower low high [] le rise = tt
places-lower low high (e ∷ es) le rise = let h : high < e.place = rise.0 in (omega (arith, le, h), rise.1)

places-ordered : (mode : Mode) (low : ℕ) (es : List Event) → PlacesRise low es → PlacesRise low (ordered mode es)
places-ordered mode low [] rise = tt
places-ordered mode low (e ∷ es) rise = search (rules, arith, places-lower, places-ordered mode e.place es rise.1)

place-lower : (low high : ℕ) (es : List Event) → low ≤ high → place_after low es ≤ place_after high es
place-lower low high [] le = le
place-lower low high (e ∷ es) le = omega arith

place-ordered : (mode : Mode) (low : ℕ) (es : List Event) → PlacesRise low es → place_after low (ordered mode es) ≤ place_after low es
place-ordered mode low [] rise = omega arith
place-ordered mode low (e ∷ es) rise = search (rules, arith, place-lower, place-ordered mode e.place es rise.1)

chosen-behind : (mode : Mode) {low high : ℕ} {es came : List Event} → es ≡ ordered mode came → RisesWithin low high came → place_after low es ≤ high
chosen-behind mode {low = low} {came = came} is places = rw is (omega (arith, place-ordered mode low came places.rises, places.last))

-- They are in order of time.
line-ordered : (mode : Mode) (t : ℕ) (es : List Event) → InOrder (orders_markers mode) t es → InOrder (orders_markers mode) t (ordered mode es)
line-ordered mode t [] line = tt
line-ordered mode t (e ∷ es) line = search (rules, arith, moves_by, line-ordered mode (if moves_floor (orders_markers mode) e then e.time else t) es line.2)

-- What they let go all let go.
delivers-ordered : (how : StreamSettings) (settle : Settle) (words : List ℕ) (came went : List Event) → how.policy.settle ≢ 0
    → IsDelivered how settle words (ordered how.mode came) went → IsDelivered how settle words came went
delivers-ordered how settle words came went some d =
    let mode = how.mode in
    let k = how.policy.settle in
    let before = events (map how.meaning words) in
    let twice = ordered-same mode (ordered mode came) (those_ordered mode came) in
    let split = λ (es : List Event). filter-append (λ (x : Event). is_ordered mode x) before es in
    let after : delivered_after k mode before came ≡ delivered_after k mode before (ordered mode came) = rw (ne_eqb k 0 some, twice) refl in
    record {
      settled = rw (split came) (rw (split (ordered mode came), twice) at d.settled);
      delivers = search (rules, arith, delivered-append);
    }

-- The events of the columns that are in order.
those_in : {walk : Walk} {words : List (List ℕ)} {unit : ℕ} {columns : Columns} {ahead : Ahead} {mode : Mode} {below : ℕ} {cleared now : List Event}
    → LeadsTo walk words unit columns ahead → below ≡ ordered_below mode → mode ≡ clock_mode (clock_in walk) → cleared ≡ []
    → now ≡ cleared ++ events_below below (clock_in walk) unit columns
    → Gathers walk words true ahead.base (unwrap_or ahead.greatest (greatest_of walk)) now × (length now ≤ 64)
those_in {walk = walk} {unit = unit} {columns = columns} lead below mode_is none more =
    let is = below ∙ ap ordered_below (mode_is ∙ walk.same_mode) in
    rw (more, none, is) (lead.gathers true, few-events (clock_in walk) unit columns (ordered_below (how_of walk).mode))

pub let_go-requires : goal.let_go-requires
let_go-requires g c =
    let walk = c.args.walk.now in
    let mode = (how_of walk).mode in
    let those = those_in c.in-Some.ensures.leads c.ordered_below-below.ensures c.mode.ensures c.clear.ensures.empty c.put_events.ensures.more in
    let all = those.0 in
    let comes : ComesNext walk (gathered c.put_events.new.block) = rw all.chosen (record {
      places = places-ordered mode _ all.came all.places.rises;
      in_order = line-ordered mode _ all.came all.in_line.in_order;
      fit = All-filter (λ (e : Event). is_ordered mode e) (λ (e : Event). KindFits mode e.kind) all.came all.in_line.fit;
      ordered = those_ordered mode all.came;
    }) in
    record { settles = c.requires.can.ready.is_for; keeps = c.requires.can.ready.keeps; comes = comes }

pub put_events-requires-clause-room : goal.put_events-requires-clause-room
put_events-requires-clause-room g c = omega (arith, length-rows (event_at c.clear.new.self) c.clear.new.self.len, ap length c.clear.ensures.empty)

pub take_block-requires-clause-room : goal.take_block-requires-clause-room
take_block-requires-clause-room g c = search (rules, arith, those_in)

pub take_block-requires-clause-fit : goal.take_block-requires-clause-fit
take_block-requires-clause-fit g c = rw c.requires.can.ready.follows.mode_is c.let_go.ensures.lets_go.line.fit

pub take_block-requires-clause-in_order : goal.take_block-requires-clause-in_order
take_block-requires-clause-in_order g c =
    let follows = c.requires.can.ready.follows in
    let low = some-is _ (greatest_of c.args.walk.now) (last_time c.args.settle.now) c.requires.can.ready.is_for in
    rw follows.mode_is (order-lower _ _ (last_time c.args.settle.now) _ (omega (arith, follows.before, low)) c.let_go.ensures.lets_go.line.in_order)

pub go_on-requires-clause-limit : goal.go_on-requires-clause-limit
go_on-requires-clause-limit g c = (c.in-Some.ensures.leads.gathers true).limit

pub go_on-requires-clause-stands : goal.go_on-requires-clause-stands
go_on-requires-clause-stands g c =
    let lead = c.in-Some.ensures.leads in
    rw (c.unwrap_or-greatest.ensures, c.greatest-low.ensures)
    (gathers-lead _ (lead.gathers true) (omega (arith, c.placed.ensures.value, lead.records)))

pub returns-then-is_err : goal.returns-then-is_err
returns-then-is_err g c =
    let those = those_in c.in-Some.ensures.leads c.ordered_below-below.ensures c.mode.ensures c.clear.ensures.empty c.put_events.ensures.more in
    let all = those.0 in
    let how = how_of c.args.walk.now in
    record {
      delivers = delivers-both g.W.EventTaker (λ before h.
          let went = gathered c.let_go.new.out in
          let adds = all.adds before h.at in
          let passed = rw all.chosen at (c.let_go.ensures.delivers before (record { behind = h.at; come = h.settles c.requires.can.ready.is_for })) in
          let d = delivers-ordered how c.let_go.new.settle before all.came went c.requires.can.ready.is_for passed in
          let outs = block_delivers _ _ before (before ++ numbers c.args.words.now) all.came went adds.came d in
          let failed = sym c.is_err.ensures.value ∙ c.if-is_err.true in
          let broke = err_of c.take_block.result failed c.take_block.ensures.broken in
          (tt, inr (refl, block_broke went h.at.clear adds outs g.W.EventTaker broke (err_of c.take_block.result failed c.take_block.ensures.cause.once))));
      goes_on = tt;
      stays =
          let behind = chosen-behind how.mode all.chosen all.places in
          let few = those.1 in
          let counted = c.in-Some.ensures.leads.records in
          search (rules, arith, kept_on, behind, few, counted);
    }

pub returns : goal.returns
returns g c =
    let s = g.W.EventTaker in
    let words = c.args.words.now in
    let walk = c.args.walk.now in
    let how = how_of walk in
    let lead = c.in-Some.ensures.leads in
    let those = those_in c.in-Some.ensures.leads c.ordered_below-below.ensures c.mode.ensures c.clear.ensures.empty c.put_events.ensures.more in
    let all = those.0 in
    let went = gathered c.let_go.new.out in
    let l = c.let_go.ensures.lets_go in
    let ready = c.requires.can.ready in
    let r = c.take_block.result in
    let fine = sym c.is_err.ensures.value ∙ c.if-is_err.false in
    let top = c.go_on.ensures.greatest ∙ c.unwrap_or-greatest.ensures ∙ ap (unwrap_or c.in-Some.ahead.greatest) c.greatest-low.ensures in
    record {
      delivers = delivers-both s (λ before h.
          let now = before ++ numbers words in
          let adds = all.adds before h.at in
          let passed = rw all.chosen at (c.let_go.ensures.delivers before (record { behind = h.at; come = h.settles c.requires.can.ready.is_for })) in
          let d = delivers-ordered how c.let_go.new.settle before all.came went c.requires.can.ready.is_for passed in
          let outs = block_delivers how c.let_go.new.settle before now all.came went adds.came d in (
            record {
              at = block_at (numbers words) went h.at adds outs (c.go_on.ensures.same_mode ∙ walk.same_mode)
                  (omega (arith, c.go_on.ensures.count, c.placed.ensures.value, lead.records)) c.go_on.ensures.base top
                  (c.add_block.ensures.value went c.times_of-first.ensures.last c.times_of-first.ensures.first) lead.counts (rw c.len.ensures.value refl);
              settles = λ some. come_block how c.let_go.new.settle before now all.came went adds.came d c.args.settle.now (h.settles some) l.line;
            },
            block_fed went h.at.clear adds outs s (ok_of r fine c.take_block.ensures.follows) (ok_of r fine c.take_block.ensures.cause.kept),
          ));
      goes_on =
          let moved = rw ready.follows.mode_is at (ok_of r fine c.take_block.ensures.moved) in
          let counted = lead.records in
          let many = length-map words (from_le_bytes w32) in
          let low = some-is _ (greatest_of walk) (last_time c.args.settle.now) c.requires.can.ready.is_for in
          let high = some-is _ (greatest_by c.go_on.new.self) (last_time c.let_go.new.settle) c.requires.can.ready.is_for in
          let before : s.floor c.args.taker.now ≤ last_time c.args.settle.now = omega (arith, low, ready.follows.before) in
          search (rules, arith, ok_of, moved, counted, many, high, floors_below how.mode _ _ _ went before l.line.greatest);
      stays =
          let behind = chosen-behind how.mode all.chosen all.places in
          let few = those.1 in
          let counted = lead.records in
          search (rules, arith, kept_on, behind, few, counted);
    }

pub invariant_of-walk-clause-few_given : goal.invariant_of-walk-clause-few_given
invariant_of-walk-clause-few_given g c =
    let those = those_in c.in-Some.ensures.leads c.ordered_below-below.ensures c.mode.ensures c.clear.ensures.empty c.put_events.ensures.more in
    omega (arith, c.requires.can.ready.keeps.room, c.let_go.ensures.lets_go.count, those.1, c.add_block.ensures.more.records, c.in-Some.ensures.leads.records, c.len.ensures.value)
