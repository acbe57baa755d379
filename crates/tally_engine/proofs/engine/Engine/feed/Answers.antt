use Rattle.{std.proofs.Common.{◌≡◌, ◌++◌, ◌∙◌, None, Some, sym}, record_stream.{specs.Standing.refused_with, proofs.Wraps.refused-bytes}}
use Rattle.{record_stream.proofs.Lasts.streamed-shown, tally_engine.proofs.Feeds.{no_write, engine_within}}
use Rattle.tally_engine.proofs.engine.Engine.feed.Goals as goal

pub returns-in-Some-clause-taken : goal.returns-in-Some-clause-taken
returns-in-Some-clause-taken g c = λ bytes h.
    let is : refused_with c.args.self.now.stream ≡ Some c.in-Some.refusal = sym c.refusal.ensures ∙ c.in-Some.is in
    (rw is (λ inside. refused-bytes _ bytes c.args.piece.now _ ((rw is at h.0) inside)), λ none. let e : Some c.in-Some.refusal ≡ None = sym is ∙ none in cc)

pub returns-in-Some-clause-shown : goal.returns-in-Some-clause-shown
returns-in-Some-clause-shown g c = λ bytes h.
    let is : refused_with c.args.self.now.stream ≡ Some c.in-Some.refusal = sym c.refusal.ensures ∙ c.in-Some.is in
    streamed-shown _ (bytes ++ c.args.piece.now) c.in-Some.refusal
    (refused-bytes _ bytes c.args.piece.now _ ((rw is at h.0) (no_write c.in-Some.refusal (c.args.self.now.inside c.in-Some.refusal is))))

pub returns-in-Some-clause-within : goal.returns-in-Some-clause-within
returns-in-Some-clause-within g c = engine_within c.args.self.now
