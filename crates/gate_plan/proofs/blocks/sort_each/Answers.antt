use Rattle.{std.proofs.Common.{rules, arith}, gate_plan.proofs.Histories.{sorted_rows, set_more}}
use Rattle.gate_plan.proofs.blocks.sort_each.Goals as goal

pub loop-at-preserved : goal.loop-at-preserved
loop-at-preserved c = search (rules, arith, set_more)

pub put_all-requires : goal.put_all-requires
put_all-requires c = omega arith

pub returns : goal.returns
returns c = record { same = search (rules, arith); found = search (rules, arith, sorted_rows); ready = search (rules, arith) }
