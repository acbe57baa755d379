use Rattle.ptu_definitions.proofs.Longest.{some-longest}
use Rattle.ptu_definitions.proofs.laws.some_longest.Goals as goal

pub returns : goal.returns
returns c = some-longest
