use Rattle.std.proofs.Common.{rules, ◌≡◌, ◌+◌, ◌-◌, ◌<◌, ◌++◌, [], ℕ, List, drop, length, map, min, refl, sym, ap, ◌∙◌, arith, length-append, length-drop}
use Rattle.tally_base.{specs.{declared.{event.Event.Event, block.Block.Block}, Columns.{event_at, gathered, rows, time_at}}, proofs.BlockRows.length-rows}
use Rattle.{ptu_definitions.specs.{Settled.{not_marked, ordered}, Streams.events_in, Times.events}, abs_time.specs.Placing.placed_by}
use Rattle.settle.specs.{Standing.{kept_back, next_place, last_time}, declared.settle.Settle.Settle, Passing.{next_after, place_after, time_after}}
use Rattle.record_stream.{specs.Walking.{how_of, clock_in}, proofs.Passed.{block-joins, comes_behind, delivers_passed, lets_passed, next-behind, place-rows}}
use Rattle.record_stream.proofs.Passed.{stays-low, stays-rising, time-rows}
use Rattle.record_stream.proofs.letting_go.pass_block.Goals as goal

-- As many as come go, and as many as were kept back stay: the first of both together, and the last.
record IsCut (b went : Block 1024) (s : Settle) (stay : List Event) (len : ℕ) : Type 0 where
  joined : kept_back s ++ gathered b ≡ gathered went ++ stay
  many : went.len ≡ len
  as_many : length stay ≡ length (kept_back s)
  last : (time : ℕ) → 0 < b.len → time ≡ time_at went (len - 1) → time ≡ time_after (last_time s) (gathered went)

module _ (b out went : Block 1024) (s : Settle) (len held least : ℕ) (pushed waiting all gone rest cleared items stay : List Event) (blank : gathered out ≡ [])
    (first : pushed ≡ gathered out ++ gone) (more : gathered went ≡ pushed ++ rows (event_at b) (len - least))
    (none : cleared ≡ []) (left : waiting ≡ cleared ++ rest) (back : items ≡ waiting ++ drop (len - least) (gathered b)) (same : stay ≡ items)
    (whole : all ≡ kept_back s) (parts : all ≡ gone ++ rest) (front_len : length gone ≡ len - (len - least))
    (count : len ≡ b.len) (held_is : held ≡ length (kept_back s)) (least_is : least ≡ min len held) where
  went_is : gathered went ≡ gone ++ rows (event_at b) (len - least)
  went_is = rw (more, first, blank) refl

  stay_is : stay ≡ rest ++ drop (len - least) (gathered b)
  stay_is = rw (same, back, left, none) refl

  both_len : length (kept_back s) ≡ length gone + length rest
  both_len = ap length (sym whole ∙ parts) ∙ length-append gone rest

  many_go : went.len ≡ len
  many_go = omega (arith, sym (length-rows (event_at went) went.len), ap length went_is, length-append gone (rows (event_at b) (len - least)), length-rows (event_at b) (len - least), front_len)

  cut : IsCut b went s stay len
  cut = record {
    joined =
        block-joins (event_at b) (len - least) b.len (kept_back s) gone rest (gathered went) stay (sym whole ∙ parts) went_is stay_is (omega (arith, count))
        (λ some. omega (arith, some, both_len, front_len, held_is, least_is));
    many = many_go;
    as_many = search (rules, arith, stay_is, both_len, length-append, length-drop, length-rows);
    last = λ time some is. is ∙ rw (time-rows (last_time s) (event_at went) went.len (omega (arith, many_go, count, some)), many_go) refl;
  }

place_is : (b : Block 1024) (place len : ℕ) (e : Event) → 0 < b.len → len ≡ b.len → e ≡ event_at b (len - 1) → e.place ≡ place_after place (gathered b)
place_is b place len e some count is = search (rules, arith, place-rows)

pub time-requires : goal.time-requires
time-requires c =
    let some : 0 < c.args.block.now.len = omega (arith, c.if-len-eq0.false, c.len-len.ensures.count) in
    let cuts =
    cut c.args.block.now c.args.out.now c.push_front.new.self c.args.settle.now c.len-len.result c.held.result c.min.result _ _ _ _ _ _ _ _
    c.requires.none.0 c.push_all.ensures.more c.push_front.ensures.more c.clear.ensures c.stay_all.ensures c.stay_back.ensures c.as_slice.ensures.value
    c.waiting.ensures.value c.split_at.ensures.by_index.0 c.split_at.ensures.front_len c.len-len.ensures.count c.held.ensures.value c.min.ensures in
    omega (arith, cuts.many, c.len-len.ensures.count, some)

pub pass-requires : goal.pass-requires
pass-requires c =
    let some : 0 < c.args.block.now.len = omega (arith, c.if-len-eq0.false, c.len-len.ensures.count) in
    let cuts =
    cut c.args.block.now c.args.out.now c.push_front.new.self c.args.settle.now c.len-len.result c.held.result c.min.result _ _ _ _ _ _ _ _
    c.requires.none.0 c.push_all.ensures.more c.push_front.ensures.more c.clear.ensures c.stay_all.ensures c.stay_back.ensures c.as_slice.ensures.value
    c.waiting.ensures.value c.split_at.ensures.by_index.0 c.split_at.ensures.front_len c.len-len.ensures.count c.held.ensures.value c.min.ensures in
    record {
      as_many = cuts.as_many;
      low = search (rules, arith, stays-low);
      rising = search (rules, arith, stays-rising, cuts);
    }

pub returns : goal.returns
returns c =
    let walk = c.args.walk.now in
    let how = how_of walk in
    let b = c.args.block.now in
    let s = c.args.settle.now in
    let went = gathered c.push_front.new.self in
    let stay = c.as_slice.result.now in
    let some : 0 < b.len = omega (arith, c.if-len-eq0.false, c.len-len.ensures.count) in
    let cuts =
    cut b c.args.out.now c.push_front.new.self s c.len-len.result c.held.result c.min.result _ _ _ _ _ _ _ _
    c.requires.none.0 c.push_all.ensures.more c.push_front.ensures.more c.clear.ensures c.stay_all.ensures c.stay_back.ensures c.as_slice.ensures.value
    c.waiting.ensures.value c.split_at.ensures.by_index.0 c.split_at.ensures.front_len c.len-len.ensures.count c.held.ensures.value c.min.ensures in
    let time = cuts.last c.time.result some c.time.ensures in
    let stands = c.pass.ensures.stands in
    let comes = c.requires.can.comes in
    record {
      lets_go =
          let place = place_is b (placed_by (clock_in walk)) c.len-len.result c.event.result some c.len-len.ensures.count c.event.ensures in
          lets_passed walk s
          (gathered b) went stay c.requires.can.settles c.requires.can.keeps c.requires.full comes cuts.joined c.pass.new.self c.pass.ensures.waits cuts.as_many
          (c.pass.ensures.time ∙ time) (stands.place ∙ ap (λ n. n + 1) place) stands.same_reach (stands.same_popped ∙ c.requires.can.keeps.unpopped);
      delivers = λ words h.
          let place = place_is b (placed_by (clock_in walk)) c.len-len.result c.event.result some c.len-len.ensures.count c.event.ensures in
          let next : c.event.result.place + 1 ≡ next_after (next_place s) (gathered b) = search (rules, arith, next-behind, length-rows, place) in
          let behind = comes_behind walk s
          (gathered b) went stay c.requires.can.settles c.requires.can.keeps c.requires.full comes cuts.joined c.time.result c.event.result.place time next in
          let passed = c.pass.ensures.passed (ordered how.mode (events (map how.meaning words)))
          (not_marked (events_in how words)) (gathered b) went h.come.settled behind in
          delivers_passed how s c.pass.new.self words (gathered b) went c.requires.can.settles c.requires.can.keeps.reach comes.ordered passed;
      unsorted = search rules;
    }
