use Rattle.report_work.proofs.run.RunReaderReader.end.Given as goal

abbrev pub ghosts-finish_engine : goal.ghosts-finish_engine
ghosts-finish_engine g a = record { name = a.blank.name; parts = a.blank.parts }
