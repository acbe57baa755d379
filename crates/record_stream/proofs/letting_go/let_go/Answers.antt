use Rattle.std.proofs.{Common.{◌≡◌, ◌+◌, ◌<◌, ◌++◌, [], ◌∷◌, true, map, sym, ◌∙◌, arith, rules}, lemmas.List.Elements.All-from_recursion}
use Rattle.tally_base.{specs.{Events.is_ordered, Columns.{event_at, gathered, rows}}, proofs.{Floors.order-at, BlockRows.{length-rows, more_rows}}}
use Rattle.{ptu_definitions.specs.{Layouts.KindFits, Settled.{not_marked, ordered}, Streams.events_in, Times.events}, abs_time.specs.Placing.IsSmall}
use Rattle.{abs_time.specs.Floors.orders_markers, record_stream.{specs.Walking.{how_of, greatest_of}, proofs.{Gathering.all-rows, LettingGo.early-row}}}
use Rattle.record_stream.proofs.LettingGo.{places-at, lets_on, delivers_on}
use Rattle.record_stream.proofs.letting_go.let_go.Goals as goal

pub push-settled-requires-clause-behind : goal.push-settled-requires-clause-behind
push-settled-requires-clause-behind c = search (rules, arith, places-at)

pub push_some-requires : goal.push_some-requires
push_some-requires c = search (rules, arith, length-rows)

pub loop-at-preserved : goal.loop-at-preserved
loop-at-preserved c =
    let walk = c.args.walk.now in
    let how = how_of walk in
    let b = c.args.block.now in
    let f = event_at b in
    let i = c.loop-at.at in
    let inv = c.loop-at.invariant in
    let old = c.loop-at.settle in
    let went = gathered c.loop-at.out in
    let e = c.event.result in
    let is : e ≡ f i = c.event.ensures in
    let within : i < b.len = search (rules, arith) in
    let grown : rows f i ++ e ∷ [] ≡ rows f (i + 1) = rw is (sym (more_rows f i)) in
    let in_time = (order-at (orders_markers how.mode) (greatest_of walk) f b.len i within c.requires.comes.in_order).0 in
    let small : IsSmall how.mode e = rw is (record { in_time = in_time; kind = all-rows (λ e. KindFits how.mode e.kind) f b.len i within c.requires.comes.fit }) in
    let on : is_ordered how.mode e ≡ true = rw is (all-rows (λ x. is_ordered how.mode x ≡ true) f b.len i within (All-from_recursion _ (rows f b.len) c.requires.comes.ordered)) in
    let push = c.push-settled.ensures in
    let new = c.push-settled.new.self in
    let o = c.push-settled.result.emitted in
    let late = c.push-settled.result.late in
    let went' = gathered c.push_some.new.block in
    record {
      lets_go = rw (← grown) (lets_on how.mode _ c.args.settle.now old new (rows f i) went e inv.lets_go went' on small push.stands.place
          push.stands.same_reach (push.stands.same_popped ∙ inv.lets_go.unpopped) o late _ c.push_some.ensures.more push.keeps.emits push.keeps.left_out
          push.keeps.kept push.moves.time push.moves.same_time push.moves.rises);
      delivers = λ words h.
          let d = inv.delivers words h in
          let before = events (map how.meaning words) in
          let tells = push.pushed (ordered how.mode (before ++ rows f i)) (not_marked (events_in how words) ++ went) d.settled in
          let top_is = rw walk.same_mode at h.behind.placed.greatest in
          let first = early-row how.policy.settle how.mode before f b.len i (greatest_of walk) e within top_is c.requires.comes.in_order is on in
          rw (← grown) (delivers_on how old new words (rows f i) went e c.requires.settles d went' o late old.reach
          (inv.lets_go.reach ∙ c.requires.keeps.reach) on c.push_some.ensures.more first tells.overtaken tells.tells tells.settled);
      unsorted = c.push_some.ensures.unsorted ∙ inv.unsorted;
    }

pub returns : goal.returns
returns c =
    let end : c.loop-at.at ≡ c.args.block.now.len = search (rules, arith) in
    let inv = c.loop-at.invariant in
    record { lets_go = rw end at inv.lets_go; delivers = λ words h. rw end at (inv.delivers words h); unsorted = inv.unsorted }
