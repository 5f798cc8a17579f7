use Rattle.xdb_engine.proofs.tests.each_scene_is_right.Given as goal

abbrev pub ghosts-plays : goal.ghosts-plays
ghosts-plays g a = record { name = a.blank.name; parts = a.blank.parts }
