use Rattle.ptu_definitions.proofs.Stays.{refused-stays, headed-stays}
use Rattle.ptu_definitions.proofs.laws.an_answer_stays.Goals as goal

pub returns : goal.returns
returns c = record { refused = refused-stays; header = headed-stays }
