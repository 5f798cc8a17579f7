-- What the plain state has of running compactions and of fences.
use Rattle.std.specs.Prelude.{ℕ, List, map, Option, Some, None}
use Rattle.std.specs.List.{filter_map}
use Rattle.xdb_key.specs.Bounds.{Bounds}
use Rattle.xdb_plain.specs.Fences.{fence_of}
use Rattle.xdb_plain.specs.State.{JobKind, flush_of, compaction_of, Compaction, Load, open_loads}
use Rattle.xdb_plain.specs.State as plain
use Rattle.xdb_jobs.specs.Fencing.{fence}
use Rattle.xdb_jobs.specs.declared.fences.Fence.{Fence}
use Rattle.xdb_jobs.specs.declared.jobs.Job.{Job}

-- a running compaction without its level and without what it holds
pub record Part : Type 0 where
  pub num : ℕ
  pub hull : Bounds
  pub inputs : List (ℕ × ℕ)
  pub cancelled : Option (List ℕ)

abbrev pub part : {H : Type 0} → Job H → Part
part j = record { num = j.num; hull = j.hull; inputs = j.inputs; cancelled = j.cancelled }

abbrev pub compaction_part : ℕ → Compaction → Part
compaction_part num c = record { num = num; hull = c.hull; inputs = c.inputs; cancelled = c.cancelled }

-- of a flush there is none
abbrev pub plain_part : plain.Job → Option Part
plain_part j = kind_part j.num j.kind
  where
    kind_part : ℕ → JobKind → Option Part
    kind_part num (flush_of group) = None
    kind_part num (compaction_of c) = Some (compaction_part num c)

-- the running compactions of the plain state
abbrev pub compactions : List plain.Job → List Part
compactions jobs = filter_map plain_part jobs

-- the fences of the open loads
abbrev pub fences_of : List Load → List Fence
fences_of loads = map (λ l. fence l.name (fence_of l)) (open_loads loads)
