use Rattle.ptu_definitions.proofs.DeliveredLaws.{is_late_by-0, in_time-kept, settled_by-0, delivered-0, delivered_last-0}
use Rattle.ptu_definitions.proofs.laws.kept_list_of_zero.Goals as goal

pub returns : goal.returns
returns c = record { late = is_late_by-0; kept = in_time-kept; settled = settled_by-0; delivered = delivered-0; rest = delivered_last-0 }
