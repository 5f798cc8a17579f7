-- The searches go over the open loads, and the fences of those that are left are what is left of the fences.
use Rattle.std.specs.List.{list_any}
use Rattle.xdb_key.specs.Ops.{touches}
use Rattle.xdb_plain.specs.Fences.{any_meet, fence_of}
use Rattle.xdb_plain.specs.State.{open_loads}
use Rattle.xdb_jobs.specs.Fencing.{fence}
use Rattle.xdb_jobs.proofs.ListLaws.{find_map}
use Rattle.xdb_jobs.proofs.StateLaws.{installed_alike, ended_alike}
use Rattle.xdb_jobs.proofs.laws.fences_are_of_open_loads.Goals as goal

pub returns-clause-meeting : goal.returns-clause-meeting
returns-clause-meeting c = λ ranges loads.
    find_map (λ l. fence l.name (fence_of l)) (λ f. f.load) (λ f. any_meet f.ranges ranges) (open_loads loads)

pub returns-clause-touched : goal.returns-clause-touched
returns-clause-touched c = λ ops loads.
    find_map (λ l. fence l.name (fence_of l)) (λ f. f.load) (λ f. list_any (λ op. touches op f.ranges) ops) (open_loads loads)

pub returns-clause-installed : goal.returns-clause-installed
returns-clause-installed c = installed_alike

pub returns-clause-ended : goal.returns-clause-ended
returns-clause-ended c = ended_alike
