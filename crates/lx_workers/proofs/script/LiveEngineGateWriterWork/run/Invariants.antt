use Rattle.lx_workers.proofs.script.LiveEngineGateWriterWork.run.Given as goal

abbrev pub ghosts-run_script : goal.ghosts-run_script
ghosts-run_script g a = record { refusals = a.writers.now }
