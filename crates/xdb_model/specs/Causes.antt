-- What a reply tells of the state in which it was given.
use Rattle.std.specs.Prelude.{◌≡◌, ℕ, List, Option, Some}
use Rattle.xdb_key.specs.Groups.{Group, first_touching}
use Rattle.xdb_plain.specs.Fences.{fence_of}
use Rattle.xdb_plain.specs.State.{Load, waiting, Job, compaction_of, Compaction}

-- the load waits for its install, and the group is the first that touches its fence
pub record WaitsFor (load : Option Load) (gs : List Group) (g : ℕ) : Type 0 where
  pub l : Load
  pub found : load ≡ Some l
  pub phase : l.phase ≡ waiting
  pub first : first_touching (fence_of l) gs ≡ Some g

-- a running compaction that the load cancelled
pub record CancelledBy (job : Option Job) (load : List ℕ) : Type 0 where
  pub j : Job
  pub c : Compaction
  pub found : job ≡ Some j
  pub kind : j.kind ≡ compaction_of c
  pub cancelled : c.cancelled ≡ Some load
