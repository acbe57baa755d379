use Rattle.report_work.proofs.run.RunReaderReader.piece.Given as goal

abbrev pub ghosts-feed_engine : goal.ghosts-feed_engine
ghosts-feed_engine g a = record { name = a.blank.name; parts = a.blank.parts }
