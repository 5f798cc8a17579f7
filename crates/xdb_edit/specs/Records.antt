-- The records that an edit is written as, and their order.
use Rattle.std.specs.Prelude.{ℕ, Bool, true, ◌&&◌, ◌||◌, List, [], ◌∷◌, ◌++◌, map, Option, Some, None, nat_lt, ◌==◌, IsTrue}
use Rattle.std.specs.List.{filter_map, list_all, AllByRecursion}
use Rattle.xdb_meta.specs.Table.{Table, IsTable, is_number}
use Rattle.xdb_edit.specs.Changes.{Changes, changes}
use Rattle.xdb_edit.specs.declared.record.Rank.{Rank}
use Rattle.xdb_edit.specs.declared.record.Record.{Record}
use Rattle.xdb_edit.specs.declared.record.Record.TheVariants.{Removed, NewBacking, Added}

-- the records of an edit: what it removes, then its new files, then what it adds
abbrev pub records_of : Changes → List Record
records_of e = map (λ p. Removed p.0 p.1) e.removed ++ map NewBacking e.new_backings ++ map (λ p. Added p.0 p.1) e.added

abbrev pub removed_in : Record → Option (ℕ × ℕ)
removed_in (Removed level num) = Some (level, num)
removed_in (NewBacking num) = None
removed_in (Added level table) = None

abbrev pub new_backing_in : Record → Option ℕ
new_backing_in (Removed level num) = None
new_backing_in (NewBacking num) = Some num
new_backing_in (Added level table) = None

abbrev pub added_in : Record → Option (ℕ × Table)
added_in (Removed level num) = None
added_in (NewBacking num) = None
added_in (Added level table) = Some (level, table)

-- the edit that has these records
abbrev pub changes_of : List Record → Changes
changes_of rs = changes (filter_map removed_in rs) (filter_map new_backing_in rs) (filter_map added_in rs)

-- where a record stands: by its kind, then its level, then its number
abbrev pub ranked : ℕ → ℕ → ℕ → Rank
ranked kind level num = record { kind = kind; level = level; num = num }

abbrev pub rank_of : Record → Rank
rank_of (Removed level num) = ranked 1 level num
rank_of (NewBacking num) = ranked 2 0 num
rank_of (Added level table) = ranked 3 level table.num

abbrev pub is_before : Rank → Rank → Bool
is_before a b = nat_lt a.kind b.kind || (a.kind == b.kind && (nat_lt a.level b.level || (a.level == b.level && nat_lt a.num b.num)))

-- a rank before that of each record
abbrev pub front : Rank
front = ranked 0 0 0

-- the records rise strictly, from behind a rank on
abbrev pub rises : Rank → List Record → Bool
rises last [] = true
rises last (r ∷ rs) = is_before last (rank_of r) && rises (rank_of r) rs

-- the levels are 0 to 6
abbrev pub is_level : ℕ → Bool
is_level n = nat_lt n 7

-- the numbers that a record has beside its table are in their ranges
abbrev pub fits : Record → Bool
fits (Removed level num) = is_level level && is_number num
fits (NewBacking num) = is_number num
fits (Added level table) = is_level level

-- an edit whose lists and fields are in their order and ranges
pub record IsEdit (e : Changes) : Type 0 where
  pub order : IsTrue (rises front (records_of e))
  pub ranges : IsTrue (list_all fits (records_of e))
  pub tables : AllByRecursion (λ p. IsTable p.1) e.added
