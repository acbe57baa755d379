use Rattle.scan_image.proofs.count.count_run.Goals as goal

pub returns-then-is_backwards-clause-follows : goal.returns-then-is_backwards-clause-follows
returns-then-is_backwards-clause-follows g c =
    λ h is. c.count_on.ensures.follows c.args.lines.now (rw c.facing.ensures c.strip-strip.ensures.place) c.requires.of_set h is

pub returns-else-is_backwards-clause-follows : goal.returns-else-is_backwards-clause-follows
returns-else-is_backwards-clause-follows g c = λ h is. c.count_on-else-is_backwards.ensures.follows c.args.lines.now
    (rw c.facing-else-is_backwards.ensures c.strip-strip.ensures.place) c.requires.of_set h is
