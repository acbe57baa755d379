use Rattle.std.proofs.Common.{append_assoc}
use Rattle.tally_base.proofs.fault.plan_rule_text.Goals as goal

pub returns : goal.returns
returns c =
    rw (c.put_decimal-2.ensures.items, c.put_text-2.ensures.items, c.put_decimal.ensures.items, c.put_text.ensures.items, c.new-text.ensures) (simp append_assoc)
