use Rattle.{std.proofs.Common.refl, record_stream.proofs.Settles.becomes_plain}
use Rattle.record_stream.proofs.blocks.FileOrderSettlesEvents.settle_event.Goals as goal

pub returns-then-late : goal.returns-then-late
returns-then-late c = becomes_plain _ _ _ _ _ c.requires.is_for c.requires.keeps c.requires.comes (rw c.if-late.true refl)

pub returns-else-late : goal.returns-else-late
returns-else-late c = becomes_plain _ _ _ _ _ c.requires.is_for c.requires.keeps c.requires.comes (rw c.if-late.false refl)
