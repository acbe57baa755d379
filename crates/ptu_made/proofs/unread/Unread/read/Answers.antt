use Rattle.{std.proofs.{Common.{◌-◌, length, arith}, lemmas.Grind.common_steps}, ptu_made.{specs.Unread.bytes_left, proofs.Behind.given_behind}}
use Rattle.ptu_made.proofs.unread.Unread.read.Goals.{then-filled-into-via-then-filled-into, then-filled-into-via-else-filled-into+then-not-hold_next}
use Rattle.ptu_made.proofs.unread.Unread.read.Goals as goal

pub returns-then-filled-into-clause-bytes : goal.returns-then-filled-into-clause-bytes
returns-then-filled-into-clause-bytes c =
    let step = given_behind c.photons.filled c.copy_held-filled.result (length c.photons.into - c.photons.filled) c.photons.into c.copy_held-filled.new.into (bytes_left c.args.self.now) (bytes_left c.photons.self) (bytes_left c.copy_held-filled.new.self)
    c.photons.invariant.room c.copy_held-filled.ensures.room c.photons.invariant.bytes c.copy_held-filled.ensures.bytes in
    elim c.then-filled-into.branch [
      | then-filled-into-via-then-filled-into w ↦ rw w.self-is step
      | then-filled-into-via-else-filled-into+then-not-hold_next w ↦ rw (w.self-is, w.hold_next.ensures.same) step
    ]

pub photons-preserved : goal.photons-preserved
photons-preserved c =
    let step = given_behind c.photons.filled c.copy_held-filled.result (length c.photons.into - c.photons.filled) c.photons.into c.copy_held-filled.new.into (bytes_left c.args.self.now) (bytes_left c.photons.self) (bytes_left c.copy_held-filled.new.self)
    c.photons.invariant.room c.copy_held-filled.ensures.room c.photons.invariant.bytes c.copy_held-filled.ensures.bytes in
    record {
      room = grind (arith, common_steps);
      bytes = rw c.hold_next.ensures.same step;
    }
