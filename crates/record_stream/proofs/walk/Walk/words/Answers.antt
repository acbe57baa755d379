use Rattle.{std.proofs.{Common.{refl, arith, rules}, lemmas.List.take_all}, record_stream.proofs.Feeds.{walks-can, walks-done, walks-none, walks-stop}}
use Rattle.record_stream.proofs.{Feeds.walks-then, Wraps.{step-numbers, whole-numbers}}
use Rattle.record_stream.proofs.walk.Walk.words.Goals as goal

pub loop-word-init : goal.loop-word-init
loop-word-init g c = walks-none g.S.EventTaker c.requires.ready.keeps c.requires.ready.follows (g.met.S.EventTaker.same_none _)

pub loop-word-preserved : goal.loop-word-preserved
loop-word-preserved g c =
    let more = step-numbers c.args.words.now c.loop-word.word-index _ _ c.loop-word-test.true c.from_le_bytes.ensures in
    walks-done g.S.EventTaker (walks-then g.S.EventTaker _ g.met.S.EventTaker.same_more more c.loop-word.invariant c.in-Ok.ensures)

pub returns-in-Err : goal.returns-in-Err
returns-in-Err g c =
    let whole = whole-numbers c.args.words.now c.loop-word.word-index _ _ c.loop-word-test.true c.from_le_bytes.ensures in
    walks-stop g.S.EventTaker _ _ whole (walks-then g.S.EventTaker _ g.met.S.EventTaker.same_more refl c.loop-word.invariant c.in-Err.ensures)

pub returns : goal.returns
returns g c =
    let all = take_all c.loop-word.word-index c.args.words.now (search (rules, arith)) in rw all at c.loop-word.invariant

pub step-requires : goal.step-requires
step-requires g c = walks-can g.S.EventTaker c.requires c.loop-word.invariant
