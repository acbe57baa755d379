use Rattle.{std.proofs.Common.refl, record_layout.proofs.Growing.AreCounts-none}
use Rattle.record_layout.proofs.counter.Counter.new.Goals as goal

pub returns-clause-start : goal.returns-clause-start
returns-clause-start c = record { same_type = refl; counts = rw c.new.ensures (AreCounts-none c.args.record_type) }
