use Rattle.plan_text.proofs.FirstVersion.{first_version}
use Rattle.plan_text.proofs.laws.version_1_is_read_as_before.Goals as goal

pub returns : goal.returns
returns c = first_version
