use Rattle.record_write.proofs.Puts.{short-flushed}
use Rattle.record_write.proofs.picker.Picker.photon.Goals as goal

pub returns-in-Err-flush-clause-writes : goal.returns-in-Err-flush-clause-writes
returns-in-Err-flush-clause-writes g c = λ photons h. record
    { writes = tt; cuts = λ fault. short-flushed _ _ _ _ _ _ c.new-block.ensures (c.in-Ok.ensures.puts photons h).puts c.in-Err-flush.ensures.short }
