use Rattle.xdb_device.proofs.tests.rigs.failures_are_booked_through_two_rigs.Given as goal

abbrev pub ghosts-run : goal.ghosts-run
ghosts-run g a = record { name = a.blank.name; parts = a.blank.parts }
