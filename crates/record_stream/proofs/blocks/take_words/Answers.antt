use Rattle.std.{proofs.{Common.{arith, rules, ◌++◌, [], refl}, lemmas.{List.map-append, Result.err_from_is_err_and}}, specs.Int.{from_le_bytes, w32}}
use Rattle.record_stream.proofs.{Feeds.{walks-can, walks-done, walks-none, walks-stop, walks-then}, Wraps.{parted, parted-numbers, both-numbers}}
use Rattle.record_stream.proofs.blocks.take_words.Goals as goal

pub many-init : goal.many-init
many-init g c = ([], refl, walks-none g.W.EventTaker c.requires.ready.keeps c.requires.ready.follows (g.met.W.EventTaker.same_none _))

pub take_block-requires-clause-can : goal.take_block-requires-clause-can
take_block-requires-clause-can g c = walks-can g.W.EventTaker c.requires c.many.invariant.2

pub words-requires-2 : goal.words-requires-2
words-requires-2 g c = walks-can g.W.EventTaker c.requires c.many.invariant.2

pub many-preserved : goal.many-preserved
many-preserved g c =
    let inv = c.many.invariant in
    let front = c.split_at.result.0.now in (
      inv.0 ++ front,
      parted c.args.words.now inv.0 c.many.rest.now front c.split_at.result.1.now inv.1 c.split_at.ensures.by_index.0,
      walks-done g.W.EventTaker (walks-then g.W.EventTaker _ g.met.W.EventTaker.same_more (map-append (from_le_bytes w32) inv.0 front) inv.2 c.in_ok-take_block.ensures),
    )

pub returns-in_err-take_block : goal.returns-in_err-take_block
returns-in_err-take_block g c =
    let inv = c.many.invariant in
    let p = err_from_is_err_and c.from_residual.result c.from_residual.ensures.1 in
    let parts = parted-numbers c.args.words.now inv.0 c.many.rest.now c.split_at.result.0.now c.split_at.result.1.now inv.1 c.split_at.ensures.by_index.0 in
    rw (p.1, p.2) (walks-stop g.W.EventTaker _ _ parts (walks-then g.W.EventTaker _ g.met.W.EventTaker.same_more refl inv.2 c.in_err-take_block.ensures))

pub returns : goal.returns
returns g c =
    let inv = c.many.invariant in
    walks-then g.W.EventTaker _ g.met.W.EventTaker.same_more (both-numbers c.args.words.now inv.0 c.many.rest.now inv.1) inv.2 c.words-2.ensures
