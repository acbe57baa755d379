use Rattle.std.proofs.{Common.{rules, arith, [], append-nil, sym, ◌∙◌}, lemmas.Result.{err_from_is_err_and, on_ok_weaker, on_err_weaker}}
use Rattle.{tally_base.specs.Columns.gathered, record_stream.{specs.InBlocks.Breaks, proofs.InBlocks.{Fits, fits-still, floor_of-line, goes_on-trans}}}
use Rattle.record_stream.proofs.InBlocks.{goes_on-last, breaks-behind, breaks-before, goes_on-push, still-order, waits-push}
use Rattle.record_stream.proofs.in_blocks.InBlocksEventTaker.take_block.Goals as goal

pub make_room-requires : goal.make_room-requires
make_room-requires g c = record { waits = (c.args.self.now.waits, omega (arith, c.len-more.ensures.few)) }

pub returns-in_err-make_room-clause-broken : goal.returns-in_err-make_room-clause-broken
returns-in_err-make_room-clause-broken g c =
    let es = gathered c.args.block.now in
    let p = err_from_is_err_and c.from_residual.result c.from_residual.ensures.1 in
    rw p.1 (record {
      front = es;
      back = [];
      some = omega (arith, c.if-more-eq0.false, c.len-more.ensures.value);
      are = sym (append-nil es);
      broken = λ start l on. breaks-behind g.S.EventTaker on (breaks-before g.S.EventTaker _ c.in_err-make_room.ensures.gives.broken);
    })

pub make_room-requires-2 : goal.make_room-requires-2
make_room-requires-2 g c =
    let s = g.S.EventTaker in
    let fits : Fits s c.args.self.now.taker.now (gathered c.args.self.now.block) (gathered c.args.block.now) =
    record { order = c.requires.in_order; fit = c.requires.fit; few = c.requires.room } in
    record {
      waits = (
        waits-push s _ c.make_room.new.block _ _ c.in_ok-make_room.ensures.waits (c.push_front.ensures.more ∙ search rules) c.push_front.ensures.unsorted
            (fits-still s (gathered c.args.block.now) c.in_ok-make_room.ensures.gives.gave fits),
        omega arith,
      );
    }

pub returns-clause-follows : goal.returns-clause-follows
returns-clause-follows g c =
    let s = g.S.EventTaker in
    let room = c.in_ok-make_room.ensures.gives.gave in
    let push = goes_on-push s _ (gathered c.make_room.new.block) _ _ (c.push_front.ensures.more ∙ search rules) (still-order s (gathered c.args.block.now) room c.requires.in_order) in
    on_ok_weaker c.make_room-2.result (λ gave start l on. goes_on-trans s on (goes_on-last s (goes_on-trans s room push) gave)) c.make_room-2.ensures.gives.gave

pub returns-clause-broken : goal.returns-clause-broken
returns-clause-broken g c =
    let s = g.S.EventTaker in
    let es = gathered c.args.block.now in
    let room = c.in_ok-make_room.ensures.gives.gave in
    let push = goes_on-push s _ (gathered c.make_room.new.block) _ _ (c.push_front.ensures.more ∙ search rules) (still-order s es room c.requires.in_order) in
    on_err_weaker c.make_room-2.result (λ (broke : Breaks s c.make_room.new.taker c.make_room-2.new.taker (gathered c.push_front.new.self) []). record {
      front = es;
      back = [];
      some = omega (arith, c.if-more-eq0.false, c.len-more.ensures.value);
      are = sym (append-nil es);
      broken = λ start l on. rw append-nil at (breaks-behind s on (breaks-behind s (goes_on-trans s room push) broke));
    }) c.make_room-2.ensures.gives.broken

pub returns-clause-moved : goal.returns-clause-moved
returns-clause-moved g c =
    let s = g.S.EventTaker in
    let room = c.in_ok-make_room.ensures.gives.gave in
    let push = goes_on-push s _ (gathered c.make_room.new.block) _ _ (c.push_front.ensures.more ∙ search rules) (still-order s (gathered c.args.block.now) room c.requires.in_order) in
    on_ok_weaker c.make_room-2.result (λ gave. (goes_on-last s (goes_on-trans s room push) gave).moved ∙ sym (floor_of-line _ _ _ c.requires.in_order)) c.make_room-2.ensures.gives.gave
