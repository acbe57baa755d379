use Rattle.{std.proofs.Common.{Ok, Err, refl}, bench_io.proofs.Bytes.Wrote-nil, ptu_cli.proofs.Complete.runs}
use Rattle.ptu_cli.proofs.top.ptu_main.Goals as goal

pub returns-in-Err : goal.returns-in-Err
returns-in-Err g c = runs _ _ (Err c.in-Err.fault) _ c.status.ensures c.tell.ensures c.in-Err.ensures.does c.in-Err.ensures.usage

pub returns-in-Ok : goal.returns-in-Ok
returns-in-Ok g c = runs _ _ (Ok tt) _ refl (Wrote-nil _) c.in-Ok.ensures.does c.in-Ok.ensures.usage
