-- Each part is a law on lists.
use Rattle.xdb_jobs.proofs.StateLaws.{hulls_alike, started_alike, finished_alike, cancelled_alike}
use Rattle.xdb_jobs.proofs.laws.jobs_are_the_compactions.Goals as goal

pub returns-clause-hulls : goal.returns-clause-hulls
returns-clause-hulls g c = hulls_alike

pub returns-clause-started : goal.returns-clause-started
returns-clause-started g c = started_alike

pub returns-clause-finished : goal.returns-clause-finished
returns-clause-finished g c = finished_alike

pub returns-clause-cancelled : goal.returns-clause-cancelled
returns-clause-cancelled g c = cancelled_alike
