use Rattle.record_stream.proofs.Lasts.{given-count, given-greatest}
use Rattle.record_stream.proofs.laws.stream_numbers.Goals as goal

pub returns-clause-given : goal.returns-clause-given
returns-clause-given c = λ stream bytes h none. given-count _ _ _ _ _ _ _ bytes h none

pub returns-clause-greatest : goal.returns-clause-greatest
returns-clause-greatest c = λ stream bytes h none. given-greatest _ _ _ _ _ _ _ bytes stream.walk.same_mode h none
