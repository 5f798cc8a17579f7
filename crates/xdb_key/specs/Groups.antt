-- Groups of operations that aren't in a table yet, numbered and in the order of their numbers.
use Rattle.std.specs.Prelude.{ℕ, Bool, ◌&&◌, List, [], ◌∷◌, Option, Some, None, nat_lt, if◌then◌else◌}
use Rattle.std.specs.List.{list_any}
use Rattle.xdb_key.specs.Bounds.{Bounds}
use Rattle.xdb_key.specs.Ops.{touches}
use Rattle.xdb_key.specs.declared.op.Op.{Op}

-- a group: its number, and its operations with their sequence numbers
pub record Group : Type 0 where
  pub num : ℕ
  pub ops : List (ℕ × Op)

-- it has an operation that touches the ranges
abbrev pub group_touches : List Bounds → Group → Bool
group_touches ranges g = list_any (λ o. touches o.1 ranges) g.ops

-- it has such an operation with a sequence number below the mark
abbrev pub group_touches_below : List Bounds → ℕ → Group → Bool
group_touches_below ranges mark g = list_any (λ o. nat_lt o.0 mark && touches o.1 ranges) g.ops

-- the first group with an operation that touches the ranges
abbrev pub first_touching : List Bounds → List Group → Option ℕ
first_touching ranges [] = None
first_touching ranges (g ∷ gs) = if group_touches ranges g then Some g.num else first_touching ranges gs

-- the later of two answers
abbrev pub later : Option ℕ → Option ℕ → Option ℕ
later a None = a
later a (Some n) = Some n

-- the last group with an operation, numbered below the mark, that touches the ranges
abbrev pub last_touching : List Bounds → ℕ → List Group → Option ℕ
last_touching ranges mark [] = None
last_touching ranges mark (g ∷ gs) =
    later (if group_touches_below ranges mark g then Some g.num else None) (last_touching ranges mark gs)
