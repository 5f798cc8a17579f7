-- Which tables a compaction takes, and at which level a new table may stand.
use Rattle.std.specs.Prelude.{ℕ, zero, suc, ◌-◌, ◌*◌, ◌^◌, Bool, List, [], ◌∷◌, ◌++◌, length, map, filter, take, drop, sum, Option, Some, None, nat_le, nat_lt, if◌then◌else◌}
use Rattle.std.specs.declared.cmp.Ordering.{Ordering}
use Rattle.std.specs.List.{list_any, flat_map}
use Rattle.std.specs.Ordering.{nat_cmp}
use Rattle.xdb_key.specs.Bounds.{Bounds, bounds, meets, lesser, greater}
use Rattle.xdb_meta.specs.Table.{Table, bounds_of}
use Rattle.xdb_edit.specs.Versions.{LevelLists, tables_of, put_all_in, or_else}

-- a compaction: the level that it takes from, what it takes by level and number, rising, the keys that it
-- is over, and the bounds of the tables below the level that it writes to
pub record Planned : Type 0 where
  pub level : ℕ
  pub inputs : List (ℕ × ℕ)
  pub hull : Bounds
  pub floor : List Bounds

-- the least range with a range and the bounds of the tables
abbrev pub hull_over : Bounds → List Table → Bounds
hull_over r [] = r
hull_over r (t ∷ ts) = hull_over (bounds (lesser r.lo t.lo) (greater r.hi t.hi)) ts

-- the tables whose bounds meet the range
abbrev pub meeting : Bounds → List Table → List Table
meeting r ts = filter (λ t. meets r (bounds_of t)) ts

-- The hull, widened over the tables that it meets, once for each table of `fuel`. With all of the tables as
-- fuel nothing is left to add, since each time but the last adds one of them.
abbrev pub grown : List Table → List Table → Bounds → Bounds
grown tables [] hull = hull
grown tables (t ∷ fuel) hull = grown tables fuel (hull_over hull (meeting hull tables))

abbrev pub num_cmp : Table → Table → Ordering
num_cmp a b = nat_cmp a.num b.num

abbrev pub by_num : List Table → List Table
by_num ts = put_all_in num_cmp ts []

-- the tables of a level that meet the hull, by their level and number
abbrev pub inputs_at : LevelLists → ℕ → Bounds → List (ℕ × ℕ)
inputs_at levels level hull = map (λ t. (level, t.num)) (by_num (meeting hull (tables_of levels level)))

-- the compaction over a hull, of a level into the next
abbrev pub planned : LevelLists → ℕ → Bounds → Planned
planned levels level hull = record {
  level = level;
  inputs = inputs_at levels level hull ++ inputs_at levels (suc level) hull;
  hull = hull;
  floor = map bounds_of (flat_map (λ ts. ts) (drop (suc (suc level)) levels));
}

-- no running compaction is over a key of the hull
abbrev pub unless_running : List Bounds → Planned → Option Planned
unless_running running p = if list_any (meets p.hull) running then None else Some p

-- the plan that begins with these tables of the level
abbrev pub plan_from : LevelLists → List Bounds → ℕ → List Table → Option Planned
plan_from levels running level [] = None
plan_from levels running level (t ∷ ts) =
    let tables = tables_of levels level ++ tables_of levels (suc level) in
    unless_running running (planned levels level (grown tables tables (hull_over (bounds_of t) ts)))

-- The plan for the tables of a level that meet the range, which takes in what they meet of this level and
-- the next. `running` are the hulls of running compactions. L6 has no level to go to.
abbrev pub plan_for : LevelLists → List Bounds → ℕ → Bounds → Option Planned
plan_for levels running level range =
    if nat_lt 5 level then None else plan_from levels running level (meeting range (tables_of levels level))

-- L0 is due with four tables, a level below it when its sizes pass eight times those of the level above
abbrev pub is_due : ℕ → List Table → Bool
is_due zero ts = nat_le 4 (length ts)
is_due (suc level) ts = nat_lt (65536 * 8 ^ level) (sum (map (λ t. t.size) ts))

-- the order in which the tables of a level are tried: that of L0 itself, and by number below it
abbrev pub in_turn : ℕ → List Table → List Table
in_turn zero ts = ts
in_turn (suc level) ts = by_num ts

-- the first plan for one of the tables
abbrev pub plan_of_first : LevelLists → List Bounds → ℕ → List Table → Option Planned
plan_of_first levels running level [] = None
plan_of_first levels running level (t ∷ ts) = or_else (plan_for levels running level (bounds_of t)) (plan_of_first levels running level ts)

-- the first plan for one of the levels that are due, from a level on
abbrev pub pick_from : LevelLists → List Bounds → ℕ → LevelLists → Option Planned
pick_from levels running level [] = None
pick_from levels running level (ts ∷ rest) =
    or_else (if is_due level ts then plan_of_first levels running level (in_turn level ts) else None) (pick_from levels running (suc level) rest)

-- the compaction that is most wanted, of L0 to L5
abbrev pub pick : LevelLists → List Bounds → Option Planned
pick levels running = pick_from levels running 0 (take 6 levels)

-- how many levels from the first on have no table that meets the bounds
abbrev pub free_levels : LevelLists → Bounds → ℕ
free_levels [] b = 0
free_levels (ts ∷ rest) b = if list_any (λ t. meets b (bounds_of t)) ts then 0 else suc (free_levels rest b)

-- The greatest level such that nothing in it or above it meets the bounds; 0 where there is none, or where
-- a running compaction meets them.
abbrev pub place : LevelLists → List Bounds → Bounds → ℕ
place levels running b = if list_any (meets b) running then 0 else free_levels levels b - 1
