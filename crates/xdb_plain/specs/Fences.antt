-- Fences: the keys that an open load keeps others from.
use Rattle.std.specs.Prelude.{ℕ, Bool, List, [], ◌∷◌, ◌++◌, map, Option, Some, None}
use Rattle.std.specs.Option.{option_map}
use Rattle.std.specs.List.{find, list_any}
use Rattle.xdb_key.specs.Bounds.{Bounds, meets}
use Rattle.xdb_key.specs.Ops.{touches}
use Rattle.xdb_key.specs.declared.op.Op.{Op}
use Rattle.xdb_edit.specs.Versions.{or_else}
use Rattle.xdb_plain.specs.State.{Load, open_loads}
use Rattle.xdb_plain.specs.Tables.{TableOps, table_bounds}

abbrev pub span_list : Option Bounds → List Bounds
span_list None = []
span_list (Some span) = span ∷ []

-- the span of a load, and the bounds of its tables
abbrev pub fence : List TableOps → Option Bounds → List Bounds
fence tables span = span_list span ++ map table_bounds tables

abbrev pub fence_of : Load → List Bounds
fence_of l = fence l.tables l.span

-- one of the ranges meets one of the others
abbrev pub any_meet : List Bounds → List Bounds → Bool
any_meet xs ys = list_any (λ x. list_any (meets x) ys) xs

-- the name of the first open load, in order of opening, whose fence an operation touches
abbrev pub fence_touched : List Op → List Load → Option (List ℕ)
fence_touched ops loads = option_map (λ l. l.name) (find (λ l. list_any (λ op. touches op (fence_of l)) ops) (open_loads loads))

-- the name of the first open load, in order of opening, whose fence meets one of the ranges
abbrev pub fence_met : List Bounds → List Load → Option (List ℕ)
fence_met ranges loads = option_map (λ l. l.name) (find (λ l. any_meet (fence_of l) ranges) (open_loads loads))

-- the first of the others that meets the table, beside it
abbrev pub met_by : TableOps → List TableOps → Option (List ℕ × List ℕ)
met_by t others = option_map (λ u. (t.name, u.name)) (find (λ u. meets (table_bounds t) (table_bounds u)) others)

-- the first two tables that meet: of such pairs those with the first first, and of these that with the first second
abbrev pub first_overlap : List TableOps → Option (List ℕ × List ℕ)
first_overlap [] = None
first_overlap (t ∷ ts) = or_else (met_by t ts) (first_overlap ts)
