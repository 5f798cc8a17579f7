-- The hull of a plan: where it begins, and how it grows.
use Rattle.std.specs.Prelude.{ℕ, suc, List, [], ◌∷◌, ◌++◌, map, drop, Option, Some, None, if◌then◌else◌}
use Rattle.std.specs.Borrow.{Bor}
use Rattle.std.specs.declared.cmp.Ordering.{Ordering}
use Rattle.std.specs.List.{flat_map}
use Rattle.std.specs.Option.{option_map}
use Rattle.xdb_key.specs.Bounds.{Bounds, bounds, meets, lesser, greater}
use Rattle.xdb_key.specs.Order.{key_cmp}
use Rattle.xdb_meta.specs.Table.{Table, bounds_of}
use Rattle.xdb_edit.specs.Plans.{Planned, hull_over, grown}
use Rattle.xdb_edit.specs.Versions.{LevelLists, tables_of}
use Rattle.xdb_levels.specs.Levels.{met}

abbrev pub plan : ℕ → List (ℕ × ℕ) → Bounds → List Bounds → Planned
plan level inputs hull floor = record { level = level; inputs = inputs; hull = hull; floor = floor }

-- the tables that a plan of a level may take: those of the level and those of the next
abbrev pub both : LevelLists → ℕ → List Table
both levels level = tables_of levels level ++ tables_of levels (suc level)

-- the hull, grown over these until it meets no more of them
abbrev pub grown_over : LevelLists → ℕ → Bounds → Bounds
grown_over levels level hull = grown (both levels level) (both levels level) hull

-- the least range with the bounds of the tables; none of no tables
abbrev pub hull_of : List Table → Option Bounds
hull_of [] = None
hull_of (t ∷ ts) = Some (hull_over (bounds_of t) ts)

-- the hull of the plan for a range
abbrev pub plan_hull : LevelLists → ℕ → Bounds → Option Bounds
plan_hull levels level range =
    option_map (grown_over levels level) (hull_of (met levels level range))

-- the bounds of all tables that a plan of a level may take
abbrev pub all_bounds : LevelLists → ℕ → List Bounds
all_bounds levels level = map bounds_of (both levels level)

-- the bounds of the tables from a level on
abbrev pub bounds_from : LevelLists → ℕ → List Bounds
bounds_from levels level = map bounds_of (flat_map (λ ts. ts) (drop level levels))

-- what a list of references refers to
abbrev pub lent : {A : Type 0} → List (Bor A) → List A
lent xs = map (λ x. x.now) xs

-- a table that is lent, by its level and number
abbrev pub lent_name : ℕ → Bor Table → ℕ × ℕ
lent_name level t = (level, t.now.num)

-- the least range with two
abbrev pub wider : Bounds → Bounds → Bounds
wider r o = bounds (lesser r.lo o.lo) (greater r.hi o.hi)

abbrev pub hull_with : Option Bounds → Bounds → Bounds
hull_with None r = r
hull_with (Some h) r = wider h r

-- the range, widened by each of the others that it meets, one after the other
abbrev pub swept : Bounds → List Bounds → Bounds
swept h [] = h
swept h (r ∷ rs) = swept (if meets h r then wider h r else h) rs

-- by where they begin
abbrev pub start_cmp : Bounds → Bounds → Ordering
start_cmp a b = key_cmp a.lo b.lo
