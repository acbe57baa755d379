use Rattle.{std.proofs.Common.arith, record_layout.{specs.Counting.begun_in, proofs.Growing.{counted-limit, counted-whole, counted-cut}}}
use Rattle.record_layout.proofs.counter.Counter.finish.Goals as goal

pub returns-then-self-clause-answer : goal.returns-then-self-clause-answer
returns-then-self-clause-answer c = λ record_type bytes h. counted-limit record_type bytes (rw c.if-self.true at h.counts)

pub returns-then-bytes-eq0-clause-answer : goal.returns-then-bytes-eq0-clause-answer
returns-then-bytes-eq0-clause-answer c = λ record_type bytes h.
    counted-whole record_type (begun_in c.args.self.carried) c.args.self.counts bytes (rw c.if-self.false at h.counts) (omega arith)

pub returns-clause-answer : goal.returns-clause-answer
returns-clause-answer c = λ record_type bytes h.
    rw c.len-bytes.ensures.value (counted-cut record_type (begun_in c.args.self.carried) c.args.self.counts bytes
    (rw c.if-self.false at h.counts) (λ none. c.if-bytes-eq0.false (omega arith)))
