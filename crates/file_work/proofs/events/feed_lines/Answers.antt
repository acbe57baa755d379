use Rattle.{file_work.{specs.EventLines.listed_none, proofs.EventSteps.puts-lines}, bench_io.proofs.Texts.{writes-flushed, writes-unflushed}}
use Rattle.command_work.proofs.RestEnds.{stays-open}
use Rattle.file_work.proofs.events.feed_lines.Goals as goal

pub returns-in-Ok-clause-writes : goal.returns-in-Ok-clause-writes
returns-in-Ok-clause-writes g c = λ going bytes h.
    writes-flushed _ _ _ _ _ _ _ c.feed-fed.result c.in-Ok.ensures.all
    (puts-lines _ (λ t. g.O.Sink.state t.out.now) (λ t. t.block) _ _ _ _ _ (listed_none _ _ _ _ _ _) (λ l is. rw c.requires.none.empty at is.text) (λ l is. (rw c.requires.none.empty at is.text, is.empty)) c.feed-fed.result (c.feed-fed.ensures.fed going bytes h))

pub returns-in-Err-clause-writes : goal.returns-in-Err-clause-writes
returns-in-Err-clause-writes g c = λ going bytes h.
    writes-unflushed _ _ _ _ _ _ _ c.feed-fed.result c.in-Err.ensures.short
    (puts-lines _ (λ t. g.O.Sink.state t.out.now) (λ t. t.block) _ _ _ _ _ (listed_none _ _ _ _ _ _) (λ l is. rw c.requires.none.empty at is.text) (λ l is. (rw c.requires.none.empty at is.text, is.empty)) c.feed-fed.result (c.feed-fed.ensures.fed going bytes h))

pub returns-in-Ok-clause-going : goal.returns-in-Ok-clause-going
returns-in-Ok-clause-going g c = stays-open _ _ _ c.feed-fed.result c.feed-fed.ensures.refused c.feed-fed.ensures.counted

pub returns-in-Ok-clause-fed : goal.returns-in-Ok-clause-fed
returns-in-Ok-clause-fed g c = record { same_how = c.feed-fed.ensures.same_how; taken = c.feed-fed.ensures.taken; limit = c.feed-fed.ensures.limit }

pub returns-in-Err-clause-fed : goal.returns-in-Err-clause-fed
returns-in-Err-clause-fed g c = record { same_how = c.feed-fed.ensures.same_how; taken = c.feed-fed.ensures.taken; limit = c.feed-fed.ensures.limit }
