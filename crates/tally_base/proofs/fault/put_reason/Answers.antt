use Rattle.std.proofs.{Common.{◌∙◌, ◌++◌, ap, codes, decimal}, lemmas.List.append-nil}
use Rattle.tally_base.proofs.fault.put_reason.Goals as goal

pub returns-in-ReadFault-clause-items : goal.returns-in-ReadFault-clause-items
returns-in-ReadFault-clause-items c = rw (c.in-ReadFault.is, ← c.slot_text-in-ReadFault.ensures.text) c.put_two-in-ReadFault.ensures.items

pub returns-in-PlanTooLong-clause-items : goal.returns-in-PlanTooLong-clause-items
returns-in-PlanTooLong-clause-items c = rw c.in-PlanTooLong.is c.put_text-in-PlanTooLong.ensures.items

pub returns-in-PlanSyntax-clause-items : goal.returns-in-PlanSyntax-clause-items
returns-in-PlanSyntax-clause-items c = rw c.in-PlanSyntax.is c.put_text-in-PlanSyntax.ensures.items

pub returns-in-BadMagic-clause-items : goal.returns-in-BadMagic-clause-items
returns-in-BadMagic-clause-items c = rw c.in-BadMagic.is c.put_text-in-BadMagic.ensures.items

pub returns-in-NoRecordType-clause-items : goal.returns-in-NoRecordType-clause-items
returns-in-NoRecordType-clause-items c = rw c.in-NoRecordType.is c.put_text-in-NoRecordType.ensures.items

pub returns-in-HeaderLimit-clause-items : goal.returns-in-HeaderLimit-clause-items
returns-in-HeaderLimit-clause-items c = rw c.in-HeaderLimit.is c.put_text-in-HeaderLimit.ensures.items

pub returns-in-TruncatedRecord-clause-items : goal.returns-in-TruncatedRecord-clause-items
returns-in-TruncatedRecord-clause-items c = rw c.in-TruncatedRecord.is c.put_around-in-TruncatedRecord.ensures.items

pub returns-in-NoGroup-clause-items : goal.returns-in-NoGroup-clause-items
returns-in-NoGroup-clause-items c = rw c.in-NoGroup.is
    (c.put_around-in-NoGroup.ensures.items ∙ ap (λ xs. c.args.into.now.items ++ (codes "plan has no group " ++ xs)) (append-nil (decimal c.in-NoGroup.group)))
