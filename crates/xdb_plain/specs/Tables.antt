-- Tables to be loaded, as plain data: a name and operations.
use Rattle.std.specs.Prelude.{ℕ, Bool, true, false, not, ◌&&◌, List, [], ◌∷◌, ◌++◌, map, filter}
use Rattle.std.specs.Ordering.{eq_by_cmp}
use Rattle.xdb_key.specs.Order.{key_cmp}
use Rattle.xdb_key.specs.Bounds.{Bounds, bounds}
use Rattle.xdb_key.specs.Ops.{op_hull}
use Rattle.xdb_key.specs.declared.op.Op.{Op}
use Rattle.xdb_key.specs.declared.op.Op.TheVariants.{Set, Del, DelSpan}
use Rattle.xdb_key.specs.Bounds.{lesser, greater}

pub record TableOps : Type 0 where
  pub name : List ℕ
  pub ops : List Op

abbrev pub table_ops : List ℕ → List Op → TableOps
table_ops name ops = record { name = name; ops = ops }

abbrev pub is_span : Op → Bool
is_span (Set key value) = false
is_span (Del key) = false
is_span (DelSpan range) = true

-- the order in which a table's operations act: its range deletes, and then its points
abbrev pub spans_first : List Op → List Op
spans_first ops = filter is_span ops ++ filter (λ op. not (is_span op)) ops

-- the least range with a range and some others
abbrev pub least_range : Bounds → List Bounds → Bounds
least_range r [] = r
least_range r (b ∷ bs) = least_range (bounds (lesser r.lo b.lo) (greater r.hi b.hi)) bs

-- the least range with the keys that the operations speak of
abbrev pub ops_bounds : List Op → Bounds
ops_bounds [] = bounds [] []
ops_bounds (op ∷ ops) = least_range (op_hull op) (map op_hull ops)

abbrev pub table_bounds : TableOps → Bounds
table_bounds t = ops_bounds t.ops

abbrev pub same_bounds : Bounds → Bounds → Bool
same_bounds a b = eq_by_cmp key_cmp a.lo b.lo && eq_by_cmp key_cmp a.hi b.hi
