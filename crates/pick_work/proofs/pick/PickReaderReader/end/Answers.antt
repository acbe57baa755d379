use Rattle.pick_work.proofs.Picked.{writes-headed}
use Rattle.pick_work.proofs.pick.PickReaderReader.end.Goals as goal

pub returns : goal.returns
returns g c = λ bytes h. writes-headed _ _ _ _ _ _ c.pick_end.result (c.pick_end.ensures.writes bytes h.streamed h.picked)
