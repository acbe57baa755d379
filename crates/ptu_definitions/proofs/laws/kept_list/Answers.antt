use Rattle.ptu_definitions.proofs.SettledLaws.{in_time-permutation, in_time-rising, in_time-stable, all-in_time}
use Rattle.ptu_definitions.proofs.laws.kept_list.Goals as goal

pub returns : goal.returns
returns c = record { once = in_time-permutation; rising = in_time-rising; stable = λ k time events. in_time-stable k time events; all = all-in_time }
