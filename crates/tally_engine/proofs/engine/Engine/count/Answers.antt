use Rattle.std.proofs.{Common.{rules, arith, ◌≤◌, ◌≡◌, ◌++◌, ap, sym, ◌∙◌, length, ℕ, List}, Math.Logic.{∥∥₁_map, ∥∥₁_elim}, Props.props}
use Rattle.{tally_base.specs.RecordTypes.mode_of, ptu_definitions.{specs.{Words.words_of, Streams.StreamSettings}, proofs.Firsts.record_refusal-inside}}
use Rattle.{record_stream.specs.Standing.{carried_by, HasStreamed}, gate_plan.specs.Groups.sorting_of}
use Rattle.tally_engine.{specs.{contracts.part.PartTally.TheImpl.ghosts, Give.gave_none}, proofs.Feeds.{same_map, settled-fed, fed_whole, no_write}}
use Rattle.tally_engine.proofs.{Feeds.{where_taken, of_faults, kept_within}, Takes.standing_on}
use Rattle.tally_engine.proofs.engine.Engine.count.Goals as goal

pub invariant_of-self-clause-streams : goal.invariant_of-self-clause-streams
invariant_of-self-clause-streams g c = ∥∥₁_map c.args.self.now.streams (λ w. (w.0 ++ c.args.piece.now, c.feed.ensures.taken w.0 w.1))

pub invariant_of-self-clause-standing : goal.invariant_of-self-clause-standing
invariant_of-self-clause-standing g c = λ none k d within.
    let fed = c.feed.ensures in
    let taker = c.feed.new.taker in
    let follows = where_taken c.feed.result _ fed.refused fed.follows none in
    let mode : taker.mode ≡ mode_of c.args.self.now.header.record_type =
    follows.mode_is ∙ ap (λ (how : StreamSettings). how.mode) fed.same_how ∙ c.args.self.now.same_mode in
    rw mode at (standing_on ghosts taker.mode _ _ _ _ _ follows.few follows.before (taker.standing k d within))

pub invariant_of-self-clause-inside : goal.invariant_of-self-clause-inside
invariant_of-self-clause-inside g c = λ fault is.
    let fed = c.feed.ensures in
    let going = c.requires.going in
    ∥∥₁_elim c.args.self.now.streams (hlevel props)
    (λ w. record_refusal-inside _ (words_of (w.0 ++ c.args.piece.now)) fault
    (sym (fed_whole _ _ _ _ _ _ _ (gave_none ghosts _ _ _ _ _) (λ l broke. broke) (fed.fed going w.0 w.1)).0 ∙ sym fed.refused ∙ is))

pub returns : goal.returns
returns g c =
    let fed = c.feed.ensures in
    let old = c.args.self.now in
    let going = c.requires.going in
    let told = λ (bytes : List ℕ) (h : HasStreamed old.stream bytes). (fed_whole _ _ _ _ _ _ _ (gave_none ghosts _ _ _ _ _) (λ l broke. broke) (fed.fed going bytes h)) in
    record {
      taken = λ bytes h.
          let r = told bytes h.0 in
          (fed.taken bytes h.0, λ none. rw (settled-fed (sorting_of old.gates) old.stream c.feed.new.self bytes _ r.1.0 h.0 going (fed.taken bytes h.0) none fed.same_how r.1.1) (r.1.2.follows _ (h.1 going)));
      told = λ bytes h. (told bytes h.0).0;
      refused = fed.refused;
      shown = λ bytes h. of_faults c.feed.result _ fed.refused
          (λ fault is shows. shows (no_write fault (record_refusal-inside _ (words_of (bytes ++ c.args.piece.now)) fault (sym ((told bytes h.0).0) ∙ sym fed.refused ∙ is))))
          (fed.shown bytes h.0);
      counted = fed.counted;
      limit = fed.limit;
      same = search (rules, arith, same_map);
      within =
          let few : length (carried_by c.feed.new.self) ≤ 48 = search (rules, arith) in
          let within = kept_within c.feed.new.taker.parts.now.items _ _ _ few fed.few in
          search (rules, within);
    }
