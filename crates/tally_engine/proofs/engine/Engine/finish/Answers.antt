use Rattle.{std.proofs.Common.{rules, ◌≡◌, All, false, refl, sym, ◌∙◌, length, None, Some}, tally_base.proofs.Sums.whole_slice}
use Rattle.{record_stream.{specs.Standing.refused_with, proofs.Lasts.streamed-refused}, tally_engine.specs.contracts.part.PartTally.TheImpl.ghosts}
use Rattle.tally_engine.{specs.{Give.gave_none, Engine.{engine_sorting, reading_of}, Parts.AllHold}, proofs.{Tables.part_worked, Feeds.{same_map, no_write}}}
use Rattle.{tally_engine.proofs.Feeds.{not_written, at_same, rest_got}, gate_plan.{specs.Histories.history, proofs.Histories.history-ends}}
use Rattle.ptu_definitions.specs.Words.{words_of}
use Rattle.tally_engine.proofs.engine.Engine.finish.Goals as goal

pub returns-in-Some-clause-answer : goal.returns-in-Some-clause-answer
returns-in-Some-clause-answer g c = λ bytes h.
    let is : refused_with c.args.self.stream ≡ Some c.in-Some.refusal = sym c.refusal.ensures ∙ c.in-Some.is in
    sym (streamed-refused _ bytes c.in-Some.refusal ((rw is at h.0) (no_write c.in-Some.refusal (c.args.self.inside c.in-Some.refusal is))))

pub close_all-requires : goal.close_all-requires
close_all-requires g c = record {
  «open» = rw c.deref_mut.ensures.value (at_same c.finish.new.taker.parts.now.items _ (λ parts. All (λ t. ghosts.closed t ≡ false) parts)
      (λ k d within. (c.finish.new.taker.standing k d within).still_open) (search rules));
}

pub returns-clause-answer : goal.returns-clause-answer
returns-clause-answer g c = λ bytes h.
    let going : refused_with c.args.self.stream ≡ None = sym c.refusal.ensures ∙ c.in_default.is in
    let same = c.finish.ensures.same in
    let mid = c.finish.new.taker.parts.now.items in
    let now = c.close_all.new.parts in
    let rest = rw c.in_ok-summary.was at (c.finish.ensures.answer (not_written _ going) bytes h.0) in
    let gave = rest_got _ _ _ _ _ _ (gave_none ghosts _ _ _ _ _) rest in
    let holds : AllHold mid (history (engine_sorting c.args.self) (reading_of c.args.self) (words_of bytes)) =
    rw (history-ends (engine_sorting c.args.self) (reading_of c.args.self) (words_of bytes)) (gave.follows _ (h.1 going)) in
    let was : c.parts-2-1.given.0 ≡ c.finish.new.taker.parts.now = search rules in
    let all : c.finish.new.taker.parts.now.len ≡ length mid = search rules in
    let two : length now ≡ length mid = search rules in
    let whole = whole_slice now mid _ two all in
    let closed = rw (c.deref_mut.ensures.value, was) at c.close_all.ensures.closed in
    record {
      header_is = refl;
      summary_is = rest.streams;
      parts_are = rw (was, whole) (same_map ghosts.settings mid now two (λ k d within. (closed k d within).same_settings)
          ∙ same_map ghosts.settings c.args.self.parts.items mid same.count same.settings);
      closed = rw (was, whole) (λ k d within. (closed k d (rw two at within)).now_closed);
      counts = rw (was, whole) (λ k d within. (closed k d (rw two at within)).keeps _ (holds k d (rw two at within)));
      worked = rw (was, whole) (λ k d within. part_worked _ _ ((closed k d (rw two at within)).keeps _ (holds k d (rw two at within))));
    }
