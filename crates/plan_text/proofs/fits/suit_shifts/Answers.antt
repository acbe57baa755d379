use Rattle.{std.proofs.Common.{sym, rules, arith}, plan_text.proofs.Misfits.{shifts_refused, shifts_pass}}
use Rattle.plan_text.proofs.fits.suit_shifts.Goals as goal

pub returns-in-T2 : goal.returns-in-T2
returns-in-T2 c = search (rules, arith, shifts_refused)

pub returns-in_default-2 : goal.returns-in_default-2
returns-in_default-2 c = rw c.in_default.is (sym (shifts_pass c.args.sets.now))
