-- Operations with their sequence numbers, and what they are as entries and range tombstones.
use Rattle.std.specs.Prelude.{ℕ, ◌+◌, ◌≤◌, List, [], ◌∷◌, Option, Some, None, max}
use Rattle.std.specs.List.{filter_map}
use Rattle.xdb_key.specs.Entries.{Point, point, Tombstone, tombstone}
use Rattle.xdb_key.specs.declared.op.Kind.TheVariants as kinds
use Rattle.xdb_key.specs.declared.op.Op.{Op}
use Rattle.xdb_key.specs.declared.op.Op.TheVariants.{Set, Del, DelSpan}

-- operations numbered one after the other
abbrev pub numbered : ℕ → List Op → List (ℕ × Op)
numbered first [] = []
numbered first (op ∷ ops) = (first, op) ∷ numbered (first + 1) ops

-- the greatest number; there is none below 1, so 0 stands for no operations
abbrev pub greatest_of : List (ℕ × Op) → ℕ
greatest_of [] = 0
greatest_of (o ∷ os) = max o.0 (greatest_of os)

-- the numbers rise strictly, from the first bound on and below the second
abbrev pub RisesWithin : ℕ → ℕ → List (ℕ × Op) → Type 0
RisesWithin low high [] = low ≤ high
RisesWithin low high (o ∷ os) = (low ≤ o.0) × RisesWithin (o.0 + 1) high os

-- a set or a delete as an entry
abbrev pub point_at : ℕ → Op → Option Point
point_at n (Set key value) = Some (point key n kinds.Set value)
point_at n (Del key) = Some (point key n kinds.Del [])
point_at n (DelSpan range) = None

-- a range delete as a range tombstone
abbrev pub span_at : ℕ → Op → Option Tombstone
span_at n (Set key value) = None
span_at n (Del key) = None
span_at n (DelSpan range) = Some (tombstone range n)

abbrev pub points : List (ℕ × Op) → List Point
points ops = filter_map (λ o. point_at o.0 o.1) ops

abbrev pub spans : List (ℕ × Op) → List Tombstone
spans ops = filter_map (λ o. span_at o.0 o.1) ops
