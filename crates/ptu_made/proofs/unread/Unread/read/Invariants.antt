use Rattle.{std.proofs.Common.{◌≡◌, ◌≤◌, ◌++◌, length, take}, ptu_made.specs.Unread.bytes_left}
use Rattle.ptu_made.proofs.unread.Unread.read.Given as goal

abbrev pub invariant-photons : goal.invariant-photons
invariant-photons l = record {
  room : l.filled ≤ length l.into;
  bytes : bytes_left l.initial.self ≡ take l.filled l.into ++ bytes_left l.self;
}

abbrev pub decreases-photons : goal.decreases-photons
decreases-photons l = l.self.photons.left
