use Rattle.ptu_definitions.proofs.DeliveredLaws.{delivered-settled, delivered-kept, delivered-late}
use Rattle.ptu_definitions.proofs.laws.delivered_once.Goals as goal

pub returns : goal.returns
returns c = record { settled = delivered-settled; kept = delivered-kept; late = delivered-late }
