-- The queue of groups that aren't in a table yet. All but the last are sealed; the last one is active.
use Rattle.std.specs.Prelude.{◌≡◌, ℕ, ◌+◌, ◌≤◌, ◌<◌, ◌^◌, List, [], ◌∷◌, ◌++◌, length, Option, Some, None, ◌==◌, if◌then◌else◌}
use Rattle.std.specs.List.{flat_map, All}
use Rattle.xdb_key.specs.Groups.{Group}
use Rattle.xdb_key.specs.declared.op.Op.{Op}
use Rattle.xdb_mem.specs.Numbered.{numbered, RisesWithin}

abbrev pub group : ℕ → List (ℕ × Op) → Group
group num ops = record { num = num; ops = ops }

pub record Queue : Type 0 where
  pub sealed : List Group
  pub active : Group
  -- the greatest number that was ever committed, and 0 before the first commit
  pub greatest : ℕ

-- the unflushed groups, in the order of their numbers
abbrev pub groups : Queue → List Group
groups q = q.sealed ++ q.active ∷ []

-- the operations of all groups
abbrev pub all_ops : List Group → List (ℕ × Op)
all_ops gs = flat_map (λ g. g.ops) gs

-- before the first commit there is one empty group, numbered 1
abbrev pub opening : Queue
opening = record { sealed = []; active = group 1 []; greatest = 0 }

-- the number of the last of the operations, and the number before them where there is none
abbrev pub last_number : ℕ → ℕ → List Op → ℕ
last_number before first [] = before
last_number before first (op ∷ ops) = first + length ops

-- the operations join the active group, numbered one after the other
abbrev pub committed : ℕ → List Op → Queue → Queue
committed first ops q = record q { active = group q.active.num (q.active.ops ++ numbered first ops); greatest = last_number q.greatest first ops }

-- the active group is sealed, and an empty one with the next number is active
abbrev pub sealed_once : Queue → Queue
sealed_once q = record q { sealed = q.sealed ++ q.active ∷ []; active = group (q.active.num + 1) [] }

-- the number of the first group
abbrev pub first_num : List Group → Option ℕ
first_num [] = None
first_num (g ∷ gs) = Some g.num

-- the operations of the group with the number
abbrev pub ops_in : ℕ → List Group → Option (List (ℕ × Op))
ops_in num [] = None
ops_in num (g ∷ gs) = if g.num == num then Some g.ops else ops_in num gs

-- the groups' numbers go up by one, from this one on
abbrev pub AreCounted : ℕ → List Group → Type 0
AreCounted num [] = Unit {0}
AreCounted num (g ∷ gs) = (g.num ≡ num) × AreCounted (num + 1) gs

-- what every queue keeps
pub record IsQueue (q : Queue) : Type 0 where
  -- all numbers rise, from the oldest group to the active one
  pub rising : RisesWithin 1 (q.greatest + 1) (all_ops (groups q))
  pub small : q.greatest < 2 ^ 56
  -- no sealed group is empty
  pub filled : All (λ g. 1 ≤ length g.ops) q.sealed
  pub counted : (first : ℕ) × (1 ≤ first) × AreCounted first (groups q)
