use Rattle.{std.proofs.{Common.{arith, false}, lemmas.Result.{err_from_is_err_and, on_ok_weaker, on_err_weaker}}, tally_base.specs.Columns.gathered}
use Rattle.record_stream.proofs.InBlocks.{goes_on-trans, breaks-behind, breaks-before, goes_on-push, late-given, late-broken, late-waits, moved-one, one-order}
use Rattle.record_stream.proofs.InBlocks.{fits-one, waits-push}
use Rattle.record_stream.proofs.in_blocks.InBlocksEventTaker.take.Goals as goal

pub returns-in_err-give_before_late-clause-broken : goal.returns-in_err-give_before_late-clause-broken
returns-in_err-give_before_late-clause-broken g c =
    let p = err_from_is_err_and c.from_residual.result c.from_residual.ensures.1 in
    rw p.1 (λ start l on. breaks-behind g.S.EventTaker on (breaks-before g.S.EventTaker _ c.in_err-give_before_late.ensures.gives.broken))

pub returns-then-late-clause-follows : goal.returns-then-late-clause-follows
returns-then-late-clause-follows g c =
    let take = c.take.ensures in
    rw c.if-late.true (on_ok_weaker c.take.result (λ given start l on. goes_on-trans g.S.EventTaker on given)
    (late-given g.S.EventTaker c.take.result _ c.args.event.now c.in_ok-give_before_late.ensures.passed.free c.in_ok-give_before_late.ensures.gives.gave take.follows take.one_more take.same_mode take.moved))

pub returns-then-late-clause-broken : goal.returns-then-late-clause-broken
returns-then-late-clause-broken g c =
    rw c.if-late.true (on_err_weaker c.take.result (λ broken start l on. breaks-behind g.S.EventTaker on broken)
    (late-broken g.S.EventTaker c.take.result _ c.args.event.now (g.met.S.EventTaker.got_none _) c.in_ok-give_before_late.ensures.passed.free c.in_ok-give_before_late.ensures.gives.gave c.take.ensures.broken))

pub make_room-requires : goal.make_room-requires
make_room-requires g c =
    let before = rw c.if-late.false at c.requires.in_order in
    let fits = fits-one g.S.EventTaker _ (gathered c.args.self.now.block) c.args.event.now c.requires.in_time before c.requires.kind c.requires.room in
    record { waits = (waits-push g.S.EventTaker _ _ _ _ c.args.self.now.waits c.push.ensures.more c.push.ensures.unsorted fits, omega arith) }

pub returns-clause-follows : goal.returns-clause-follows
returns-clause-follows g c =
    let s = g.S.EventTaker in
    let before = rw c.if-late.false at c.requires.in_order in
    let order = one-order _ _ c.args.event.now c.requires.in_time before in
    rw c.if-late.false (on_ok_weaker c.make_room.result
    (λ gave start l on. goes_on-trans s on (goes_on-trans s (goes_on-push s _ _ _ _ c.push.ensures.more order) gave)) c.make_room.ensures.gives.gave)

pub returns-clause-broken : goal.returns-clause-broken
returns-clause-broken g c =
    let s = g.S.EventTaker in
    let before = rw c.if-late.false at c.requires.in_order in
    let order = one-order _ _ c.args.event.now c.requires.in_time before in
    rw c.if-late.false (on_err_weaker c.make_room.result
    (λ broke start l on. breaks-behind s on (breaks-behind s (goes_on-push s _ _ _ _ c.push.ensures.more order) broke)) c.make_room.ensures.gives.broken)

pub returns-clause-moved : goal.returns-clause-moved
returns-clause-moved g c =
    let s = g.S.EventTaker in
    let before = rw c.if-late.false at c.requires.in_order in
    let order = one-order _ _ c.args.event.now c.requires.in_time before in
    rw c.if-late.false (on_ok_weaker c.make_room.result
    (λ gave. moved-one s {es = gathered c.args.self.now.block} c.args.event.now false
    (goes_on-trans s (goes_on-push s _ (gathered c.args.self.now.block) _ _ c.push.ensures.more order) gave) before) c.make_room.ensures.gives.gave)

pub invariant_of-self-then-late-clause-waits : goal.invariant_of-self-then-late-clause-waits
invariant_of-self-then-late-clause-waits g c =
    let take = c.take.ensures in
    let before = c.in_ok-give_before_late.ensures in
    late-waits g.S.EventTaker c.take.result _ _ c.args.event.now (g.met.S.EventTaker.got_none _) before.passed.free before.waits take.broken (omega (arith, c.requires.room, before.gives.gave.counted)) take.one_more take.same_mode take.moved
