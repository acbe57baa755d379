use Rattle.{ptu_definitions.proofs.StreamLemmas.refused-more, record_stream.proofs.Lasts.streamed-shown}
use Rattle.record_stream.proofs.laws.a_refusal_stays.Goals as goal

pub returns-clause-words : goal.returns-clause-words
returns-clause-words c = refused-more

pub returns-clause-bytes : goal.returns-clause-bytes
returns-clause-bytes c = streamed-shown
