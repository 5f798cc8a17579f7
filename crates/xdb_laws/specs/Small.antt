-- Small contents that meet the premises of the laws. Keys have one letter: a is 97.
use Rattle.std.specs.Prelude.{ℕ, List, [], ◌∷◌, Some, None, ◌==◌, if◌then◌else◌}
use Rattle.xdb_key.specs.Entries.{tombstone}
use Rattle.xdb_key.specs.declared.op.Op.{Op}
use Rattle.xdb_key.specs.declared.op.Op.TheVariants.{Set, DelSpan}
use Rattle.xdb_edit.specs.Changes.{Changes, changes}
pub use Rattle.xdb_edit.specs.Samples.{small_table, letters}
use Rattle.xdb_edit.specs.Versions.{LevelLists}
use Rattle.xdb_meta.specs.Table.{Table}
use Rattle.xdb_rangedel.specs.Content.{Item, entry, span}
use Rattle.xdb_stripes.specs.declared.floor.Floor.{Floor}
use Rattle.xdb_stripes.specs.declared.floor.Floor.TheVariants.{Ranges}
use Rattle.xdb_laws.specs.Compaction.{Move}
use Rattle.xdb_laws.specs.Flush.{Flush}

-- the letter has the number as its value, from that number on
abbrev pub put : ℕ → ℕ → Item
put letter seq = entry (letter ∷ []) seq (Some (seq ∷ []))

abbrev pub deleted : ℕ → ℕ → Item
deleted letter seq = entry (letter ∷ []) seq None

abbrev pub range_deleted : ℕ → ℕ → ℕ → Item
range_deleted lo hi seq = span (tombstone (letters lo hi) seq)

-- The group puts b at 5, deletes from a up to c at 6, and puts a at 7. The active group has put b at 9. A table of L0
-- was flushed before; another one was loaded at 8, outside the range delete, and stands behind the new table. L1 has b.
abbrev pub small_flush : Flush
small_flush = record {
  group = put 98 5 ∷ range_deleted 97 99 6 ∷ put 97 7 ∷ [];
  groups = (put 98 9 ∷ []) ∷ [];
  older = (put 97 3 ∷ []) ∷ [];
  newer = (put 100 8 ∷ []) ∷ [];
  lower = ((put 98 2 ∷ []) ∷ []) ∷ [];
  table = put 97 7 ∷ range_deleted 97 99 6 ∷ [];
}

abbrev pub small_marks : List ℕ
small_marks = 4 ∷ 9 ∷ []

-- what is committed at 10 and 11
abbrev pub small_batch : List Op
small_batch = Set (97 ∷ []) (10 ∷ []) ∷ DelSpan (letters 98 100) ∷ []

-- What the compaction of L0 into L1 was given: a delete of a at 5, a range delete from b up to c at 4, and a at 2. While
-- it ran, a was flushed at 8 and b put at 9. In L1 stands d beside it, and in L2 b, which the floor has. The delete of a
-- goes, and with it a; the range delete stays.
abbrev pub small_move : Move
small_move = record {
  above = (put 98 9 ∷ []) ∷ (put 97 8 ∷ []) ∷ (deleted 97 5 ∷ range_deleted 98 99 4 ∷ []) ∷ [];
  level = put 97 2 ∷ put 100 3 ∷ [];
  below = (put 98 1 ∷ []) ∷ [];
  given = deleted 97 5 ∷ range_deleted 98 99 4 ∷ put 97 2 ∷ [];
  left = (put 98 9 ∷ []) ∷ (put 97 8 ∷ []) ∷ [];
  rest = put 100 3 ∷ [];
  made = range_deleted 98 99 4 ∷ [];
}

abbrev pub small_floor : Floor
small_floor = Ranges (letters 98 99 ∷ [])

-- the level that it was taken with
abbrev pub small_level : List (List Item)
small_level = (deleted 97 5 ∷ range_deleted 98 99 4 ∷ []) ∷ (put 97 2 ∷ put 100 3 ∷ []) ∷ []

-- The same compaction and flush over tables. Table 1 stood in L0 and table 2 in L1 when the compaction was taken; table 3
-- was flushed since; tables 4 and 5 stand beside and below; and table 6 is made.
--   L0  1 [a,c)  3 [a,b)     L1  2 [a,b)  4 [d,e)     L2  5 [b,c)
abbrev pub small_content : Table → List Item
small_content t =
    if t.num == 1 then deleted 97 5 ∷ range_deleted 98 99 4 ∷ [] else (
    if t.num == 2 then put 97 2 ∷ [] else (
    if t.num == 3 then put 97 8 ∷ [] else (
    if t.num == 4 then put 100 3 ∷ [] else (
    if t.num == 5 then put 98 1 ∷ [] else range_deleted 98 99 4 ∷ []))))

abbrev pub small_groups : List (List Item)
small_groups = (put 98 9 ∷ []) ∷ []

abbrev pub small_version : LevelLists
small_version =
    (small_table 1 97 99 5 100 ∷ small_table 3 97 98 8 100 ∷ [])
    ∷ (small_table 2 97 98 2 100 ∷ small_table 4 100 101 3 100 ∷ []) ∷ (small_table 5 98 99 1 100 ∷ []) ∷ []

abbrev pub small_edit : Changes
small_edit = changes ((0, 1) ∷ (1, 2) ∷ []) (6 ∷ []) ((1, small_table 6 98 99 4 100) ∷ [])

-- and once b of the oldest group was flushed into table 7

abbrev pub small_l0 : List Table
small_l0 = small_table 1 97 99 5 100 ∷ small_table 3 97 98 8 100 ∷ []

abbrev pub flushed_table : Table
flushed_table = small_table 7 98 99 9 100

abbrev pub flushed_content : Table → List Item
flushed_content t = if t.num == 7 then put 98 9 ∷ [] else small_content t
