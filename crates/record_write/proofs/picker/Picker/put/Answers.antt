use Rattle.{std.proofs.Common.{arith, rules}, record_write.proofs.Puts.last_time-push}
use Rattle.record_write.proofs.picker.Picker.put.Goals as goal

pub returns-clause-picks : goal.returns-clause-picks
returns-clause-picks g c = search (rules, arith, last_time-push)
