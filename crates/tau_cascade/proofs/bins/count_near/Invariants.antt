use Rattle.{std.proofs.Common.{◌≡◌, ◌<◌, take}, tau_cascade.specs.Bins.near}
use Rattle.tau_cascade.proofs.bins.count_near.Given as goal

abbrev pub invariant-loop-at : goal.invariant-loop-at
invariant-loop-at l = record { count : l.count ≡ near l.distance (take l.at l.bins); few : l.count < l.at }
