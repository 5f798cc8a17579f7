use Rattle.xdb_run.proofs.run.run_script.Given as goal

abbrev pub ghosts-run_script_named : goal.ghosts-run_script_named
ghosts-run_script_named g a = record { name = a.blank.name; parts = a.blank.parts }
