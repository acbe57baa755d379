use Rattle.{std.proofs.Common.{refl, true}, record_stream.proofs.Settles.{by_clock, becomes_pushed}}
use Rattle.record_stream.proofs.settled_blocks.InPlaceSettlesEvents.settle_event.Goals as goal

pub returns : goal.returns
returns c =
    let walk = c.args.walk.now in
    let on = by_clock walk c.args.event _ _ true c.is_ordered.ensures c.mode.ensures c.if-not-is_ordered.false in
    becomes_pushed walk _ _ _ _ _ c.requires.is_for c.requires.keeps c.requires.comes on c.push.ensures.keeps c.push.ensures.moves c.push.ensures.stands c.push.ensures.pushed _ _ refl refl
