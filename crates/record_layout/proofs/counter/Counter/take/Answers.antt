use Rattle.{ptu_definitions.specs.Prefixes.listed, record_layout.{specs.Counting.begun_in, proofs.Growing.{slice-listed, AreCounts-append, counts_of-both}}}
use Rattle.record_layout.proofs.counter.Counter.take.Goals as goal

pub returns-clause-taken : goal.returns-clause-taken
returns-clause-taken c = λ record_type bytes h.
    let carried = begun_in c.args.self.now.carried in
    let piece = c.args.piece.now in
    let first = slice-listed c.take-first.result.0 c.as_slice.result.now c.as_slice.ensures in
    let of_first = rw (first, h.same_type) at c.kinds-of_first.ensures in
    let of_words = rw h.same_type at c.kinds-of_words.ensures in
    let more = counts_of-both record_type (listed c.take-first.result.0) c.take-first.result.1.now _ _ _ of_first of_words c.take-first.ensures.words in
    record {
      same_type = h.same_type;
      counts =
          rw (c.requires.going, c.take-first.ensures.rest, c.sum-self.ensures.value, c.sum.ensures.value)
          (AreCounts-append record_type carried c.args.self.now.counts bytes (rw c.requires.going at h.counts) piece _ c.requires.fits more);
    }
