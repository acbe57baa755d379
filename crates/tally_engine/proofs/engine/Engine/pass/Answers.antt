use Rattle.std.proofs.{Common.{rules, arith, ◌≤◌, ◌++◌, sym, ◌∙◌, refl, length}, lemmas.List.length-map, Math.Logic.{∥∥₁_map, ∥∥₁_elim}, Props.props}
use Rattle.{ptu_definitions.{specs.Words.words_of, proofs.Firsts.record_refusal-inside}, record_stream.specs.Standing.carried_by}
use Rattle.tally_engine.{specs.contracts.part.PartTally.TheImpl.ghosts, proofs.Feeds.{no_write, of_faults, kept_within}}
use Rattle.tally_engine.proofs.engine.Engine.pass.Goals as goal

pub invariant_of-self-clause-streams : goal.invariant_of-self-clause-streams
invariant_of-self-clause-streams c = ∥∥₁_map c.args.self.now.streams (λ w. (w.0 ++ c.args.piece.now, c.pass.ensures.takes.taken w.0 w.1))

pub invariant_of-self-clause-standing : goal.invariant_of-self-clause-standing
invariant_of-self-clause-standing c = λ none k d within. absurd (omega (arith, within, c.requires.none, length-map c.args.self.now.parts.items ghosts.settings))

pub invariant_of-self-clause-inside : goal.invariant_of-self-clause-inside
invariant_of-self-clause-inside c = λ fault is.
    ∥∥₁_elim c.args.self.now.streams (hlevel props)
    (λ w. record_refusal-inside _ (words_of (w.0 ++ c.args.piece.now)) fault (sym (c.pass.ensures.answer c.requires.going w.0 w.1) ∙ sym c.pass.ensures.refused ∙ is))

pub returns : goal.returns
returns c =
    let passed = c.pass.ensures in
    let old = c.args.self.now in
    record {
      taken = λ bytes h. (passed.takes.taken bytes h.0, λ none k d within. absurd (omega (arith, within, c.requires.none, length-map old.parts.items ghosts.settings)));
      told = λ bytes h. passed.answer c.requires.going bytes h.0;
      refused = passed.refused;
      shown = λ bytes h. of_faults c.pass.result _ passed.refused
          (λ fault is shows. shows (no_write fault (record_refusal-inside _ (words_of (bytes ++ c.args.piece.now)) fault (sym (passed.answer c.requires.going bytes h.0) ∙ sym passed.refused ∙ is))))
          (passed.shown bytes h.0);
      counted = passed.counted;
      limit = passed.takes.limit;
      same = record { same_header = refl; same_sorting = refl; same_parts = refl; same_reading = passed.takes.same_how };
      within =
          let few : length (carried_by c.pass.new.self) ≤ 48 = search (rules, arith) in
          let within = kept_within old.parts.items _ _ _ few passed.few in
          search (rules, within);
    }
