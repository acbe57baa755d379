use Rattle.{std.proofs.{Common.{refl, arith, rules, sym, ap, ◌∙◌, ◌+◌, ◌-◌, ◌<◌, length}, lemmas.List.take_all}, ptu_definitions.specs.Streams.StreamSettings}
use Rattle.record_stream.{specs.Runs.LetsSkip, proofs.{Feeds.{walks-can, walks-done, walks-none, walks-stop, walks-then}, Skipped.{lets-on, records-skip}}}
use Rattle.record_stream.proofs.{Skipped.walks-skip, Wraps.{step-numbers, whole-numbers}}
use Rattle.record_stream.proofs.walk.Walk.runs.Goals as goal

pub runs-init : goal.runs-init
runs-init g c =
    let s = g.S.EventTaker in
    let settle = c.args.settle.now in
    let taker = c.args.taker.now in
    let ready = c.requires.can.ready in
    let laws = g.met.S.EventTaker in
    let ends = c.reserved_ends-ends.ensures 0 (omega arith) in
    let skips = c.skip.ensures in
    let lets : LetsSkip c.args.self.now 64 = search rules in
    record {
      inside = ends.inside;
      lets = lets-on _ skips.same_how (records-skip s settle taker skips) (omega (arith, ends.inside)) lets;
      walks = walks-skip s settle taker 0 _ _ (omega arith) (walks-none s ready.keeps ready.follows (laws.same_none taker)) c.requires.can.meaning c.requires.block ends
          (lets-on 0 refl (omega arith) (omega (arith, ends.inside)) lets) skips (laws.same_none taker) laws.same_more;
    }

pub skip-requires-in-runs : goal.skip-requires-in-runs
skip-requires-in-runs g c =
    let ends = c.reserved_ends-ends.ensures (c.runs.next + 1) (omega (arith, c.runs-test.true)) in
    lets-on 1 c.in-Ok.ensures.stays.stays.same_how c.in-Ok.ensures.goes_on.counted (omega (arith, ends.inside, ends.later)) c.runs.invariant.lets

pub runs-preserved : goal.runs-preserved
runs-preserved g c =
    let s = g.S.EventTaker in
    let next = c.runs.next in
    let inv = c.runs.invariant in
    let step = c.in-Ok.ensures in
    let now = c.step.new.taker in
    let words = c.args.words.now in
    let laws = g.met.S.EventTaker in
    let below : next < length words = omega (arith, c.runs-test.true, c.requires.block.whole) in
    let walks = walks-done s (walks-then s _ laws.same_more (step-numbers words next _ _ below c.from_le_bytes.ensures) inv.walks step) in
    let ends = c.reserved_ends-ends.ensures (next + 1) (omega (arith, c.runs-test.true)) in
    let skips = c.skip-in-runs.ensures in
    let means = c.requires.can.meaning ∙ ap (λ (x : StreamSettings). x.meaning) (sym walks.stays.stays.same_how) in
    let left : LetsSkip c.step.new.self (63 - next) = lets-on 1 step.stays.stays.same_how step.goes_on.counted (omega (arith, c.runs-test.true)) inv.lets in
    record {
      inside = ends.inside;
      lets = lets-on _ skips.same_how (records-skip s c.step.new.settle now skips) (omega (arith, ends.inside, ends.later)) left;
      walks = walks-skip s c.step.new.settle now (next + 1) _ _ (omega (arith, ends.later)) walks means c.requires.block ends
          (lets-on 0 refl (omega arith) (omega (arith, ends.inside, ends.later)) left) skips (laws.same_none now) laws.same_more;
    }

pub returns-in-Err : goal.returns-in-Err
returns-in-Err g c =
    let s = g.S.EventTaker in
    let words = c.args.words.now in
    let below : c.runs.next < length words = omega (arith, c.runs-test.true, c.requires.block.whole) in
    walks-stop s _ _ (whole-numbers words c.runs.next _ _ below c.from_le_bytes.ensures)
    (walks-then s _ g.met.S.EventTaker.same_more refl c.runs.invariant.walks c.in-Err.ensures)

pub returns : goal.returns
returns g c =
    let all = take_all c.runs.next c.args.words.now (omega (arith, c.runs-test.false, c.requires.block.whole)) in rw all at c.runs.invariant.walks

pub step-requires : goal.step-requires
step-requires g c = walks-can g.S.EventTaker c.requires.can c.runs.invariant.walks
