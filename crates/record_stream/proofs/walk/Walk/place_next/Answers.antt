use Rattle.{std.proofs.Common.{ap, sym, ◌∙◌, arith, rules}, ptu_definitions.{specs.Layouts.Fits, proofs.WordsLemmas.meaning-fits}}
use Rattle.record_stream.{specs.Walking.how_of, proofs.{Placed.{refusal-limit, refusal-reserved}, Steps.{records-is, word_refused, word_placed}}}
use Rattle.record_stream.proofs.walk.Walk.place_next.Goals as goal

pub returns-then-self-clause-refused : goal.returns-then-self-clause-refused
returns-then-self-clause-refused g c = λ words h. refusal-limit (how_of c.args.self.now) words c.args.word _ (records-is _ _ _ _ words h) c.if-self.true

pub returns-then-stops_at-clause-refused : goal.returns-then-stops_at-clause-refused
returns-then-stops_at-clause-refused g c = λ words h.
    refusal-reserved (how_of c.args.self.now) words c.args.word _ c.decode-raw.result (records-is _ _ _ _ words h)
    (omega arith) (c.decode-raw.ensures ∙ ap (λ (f : _). f c.args.word) c.requires.meaning) (sym c.stops_at.ensures ∙ c.if-stops_at.true)

pub returns-clause-refused : goal.returns-clause-refused
returns-clause-refused g c = search (rules, arith, word_refused, records-is)

pub returns-clause-placed : goal.returns-clause-placed
returns-clause-placed g c = search (rules, arith, word_placed, records-is)

pub returns-clause-counts : goal.returns-clause-counts
returns-clause-counts g c =
    let fits : Fits (how_of c.args.self.now).mode c.decode-raw.result = rw (c.decode-raw.ensures, c.requires.meaning) (meaning-fits c.args.self.now.record_type c.args.word) in
    search (rules, arith, fits)
