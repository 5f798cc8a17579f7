-- How a queue keeps its groups: by the operations of each, and the number of the oldest.
use Rattle.std.specs.Prelude.{ℕ, ◌+◌, ◌≤◌, ◌<◌, ◌^◌, List, [], ◌∷◌, ◌++◌, length}
use Rattle.std.specs.List.{All}
use Rattle.xdb_key.specs.Groups.{Group}
use Rattle.xdb_key.specs.declared.op.Op.{Op}
use Rattle.xdb_mem.specs.Numbered.{RisesWithin}
use Rattle.xdb_mem.specs.Queue.{Queue, group}

-- groups of these operations, numbered one after the other
abbrev pub groups_from : ℕ → List (List (ℕ × Op)) → List Group
groups_from num [] = []
groups_from num (ops ∷ more) = group num ops ∷ groups_from (num + 1) more

abbrev pub queue_of : ℕ → List (List (ℕ × Op)) → List (ℕ × Op) → ℕ → Queue
queue_of oldest sealed active greatest =
    record { sealed = groups_from oldest sealed; active = group (oldest + length sealed) active; greatest = greatest }

-- the operations of all, one after the other
abbrev pub joined : List (List (ℕ × Op)) → List (ℕ × Op)
joined [] = []
joined (ops ∷ more) = ops ++ joined more

-- what is kept of a queue; `room` is for how many groups there is room
pub record IsKept (oldest : ℕ) (sealed : List (List (ℕ × Op))) (active : List (ℕ × Op)) (greatest room : ℕ) : Type 0 where
  pub rising : RisesWithin 1 (greatest + 1) (joined sealed ++ active)
  pub small : greatest < 2 ^ 56
  pub filled : All (λ ops. 1 ≤ length ops) sealed
  pub from : 1 ≤ oldest
  -- each seal took an operation
  pub counted : oldest + length sealed ≤ greatest + 1
  pub used : 1 ≤ length active → oldest + length sealed ≤ greatest
  -- a group that can be sealed has its room
  pub ready : 1 ≤ length active → length sealed < room
