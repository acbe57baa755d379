use Rattle.tally_engine.proofs.part.PartTally.events.Goals as goal

pub returns-in-Hist-clause-follows : goal.returns-in-Hist-clause-follows
returns-in-Hist-clause-follows g c = λ h is. c.events.ensures.follows h (rw c.in-Hist.is at is)

pub returns-in-Trace-clause-follows : goal.returns-in-Trace-clause-follows
returns-in-Trace-clause-follows g c = λ h is. c.events-in-Trace.ensures.follows h (rw c.in-Trace.is at is)

pub returns-in-StartStop-clause-follows : goal.returns-in-StartStop-clause-follows
returns-in-StartStop-clause-follows g c = λ h is. c.events-in-StartStop.ensures.follows h (rw c.in-StartStop.is at is)

pub returns-in-Coincidence-clause-follows : goal.returns-in-Coincidence-clause-follows
returns-in-Coincidence-clause-follows g c = λ h is. c.events-in-Coincidence.ensures.follows h (rw c.in-Coincidence.is at is)

pub returns-in-Image-clause-follows : goal.returns-in-Image-clause-follows
returns-in-Image-clause-follows g c = λ h is. c.events-in-Image.ensures.follows h (rw c.in-Image.is at is)

pub returns-in-Correlation-clause-follows : goal.returns-in-Correlation-clause-follows
returns-in-Correlation-clause-follows g c = λ h is. c.events-in-Correlation.ensures.follows h (rw c.in-Correlation.is at is)

pub returns-in-Cube-clause-follows : goal.returns-in-Cube-clause-follows
returns-in-Cube-clause-follows g c = λ h is. c.events-in-Cube.ensures.follows h (rw c.in-Cube.is at is)

pub returns-in-Fold-clause-follows : goal.returns-in-Fold-clause-follows
returns-in-Fold-clause-follows g c = λ h is. c.events-in-Fold.ensures.follows h (rw c.in-Fold.is at is)
