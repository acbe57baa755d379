use Rattle.tally_engine.proofs.part.PartTally.close.Goals as goal

pub returns-in-Hist-clause-keeps : goal.returns-in-Hist-clause-keeps
returns-in-Hist-clause-keeps g c = λ h is. c.close.ensures.keeps h (rw c.in-Hist.is at is)

pub returns-in-Trace-clause-keeps : goal.returns-in-Trace-clause-keeps
returns-in-Trace-clause-keeps g c = λ h is. c.close-in-Trace.ensures.keeps h (rw c.in-Trace.is at is)

pub returns-in-StartStop-clause-keeps : goal.returns-in-StartStop-clause-keeps
returns-in-StartStop-clause-keeps g c = λ h is. c.close-in-StartStop.ensures.keeps h (rw c.in-StartStop.is at is)

pub returns-in-Coincidence-clause-keeps : goal.returns-in-Coincidence-clause-keeps
returns-in-Coincidence-clause-keeps g c = λ h is. c.close-in-Coincidence.ensures.keeps h (rw c.in-Coincidence.is at is)

pub returns-in-Image-clause-keeps : goal.returns-in-Image-clause-keeps
returns-in-Image-clause-keeps g c = λ h is. c.close-in-Image.ensures.keeps h (rw c.in-Image.is at is)

pub returns-in-Correlation-clause-keeps : goal.returns-in-Correlation-clause-keeps
returns-in-Correlation-clause-keeps g c = λ h is. c.close-in-Correlation.ensures.keeps h (rw c.in-Correlation.is at is)

pub returns-in-Cube-clause-keeps : goal.returns-in-Cube-clause-keeps
returns-in-Cube-clause-keeps g c = λ h is. c.close-in-Cube.ensures.keeps h (rw c.in-Cube.is at is)

pub returns-in-Fold-clause-keeps : goal.returns-in-Fold-clause-keeps
returns-in-Fold-clause-keeps g c = λ h is. c.close-in-Fold.ensures.keeps h (rw c.in-Fold.is at is)
