use Rattle.{std.proofs.Common.{refl, arith, rules}, record_layout.proofs.Growing.{words-more, words-pass, counted-shows}}
use Rattle.record_layout.proofs.counter.Counter.feed.Goals as goal

pub returns-then-self-clause-taken : goal.returns-then-self-clause-taken
returns-then-self-clause-taken c = search (rules, arith, words-more)

pub returns-then-self-clause-limit : goal.returns-then-self-clause-limit
returns-then-self-clause-limit c = λ record_type bytes h. (λ _. words-more bytes c.args.piece.now (rw c.if-self.true at h.counts), λ _. refl)

pub returns-then-self-clause-shown : goal.returns-then-self-clause-shown
returns-then-self-clause-shown c = search (rules, arith, counted-shows, words-more)

pub returns-then-piece-room-clause-taken : goal.returns-then-piece-room-clause-taken
returns-then-piece-room-clause-taken c = search (rules, arith, words-pass)

pub returns-then-piece-room-clause-limit : goal.returns-then-piece-room-clause-limit
returns-then-piece-room-clause-limit c = search (rules, arith, words-pass)

pub returns-then-piece-room-clause-shown : goal.returns-then-piece-room-clause-shown
returns-then-piece-room-clause-shown c = search (rules, arith, counted-shows, words-pass)
