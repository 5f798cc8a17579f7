-- A small load with a span, which meets the premises of the laws of excises, loads, snapshots and questions.
use Rattle.std.specs.Prelude.{ℕ, Bool, true, false, ◌==◌, if◌then◌else◌, List, [], ◌∷◌, ◌++◌, Some, codes}
use Rattle.xdb_key.specs.Bounds.{Bounds, key_hull}
use Rattle.xdb_key.specs.Groups.{Group}
use Rattle.xdb_key.specs.declared.op.Op.{Op}
use Rattle.xdb_key.specs.declared.op.Op.TheVariants.{Set, Del, DelSpan}
use Rattle.xdb_edit.specs.Changes.{changes}
use Rattle.xdb_meta.specs.Table.{Table}
use Rattle.xdb_mem.specs.Parts.{items}
use Rattle.xdb_mem.specs.Queue.{all_ops}
use Rattle.xdb_plain.specs.State.{Plain, opening, group_of}
use Rattle.xdb_plain.specs.Tables.{TableOps, table_ops}
use Rattle.xdb_rangedel.specs.Content.{Item, entry}
use Rattle.xdb_laws.specs.Image.{image}
use Rattle.xdb_laws.specs.LoadEdit.{LoadEdit}
use Rattle.xdb_laws.specs.Loads.{items_at, Install}
use Rattle.xdb_laws.specs.Parts.{Handout}
use Rattle.xdb_laws.specs.Small.{letters, put, range_deleted}

-- from b up to e
abbrev pub small_span : Bounds
small_span = letters 98 101

-- The table from a up to h has a and f at 2 and 3, a range delete from d up to g at 7, and c at 5. What is left of it
-- before the span is a, and behind it are f and the rest of the range delete.
abbrev pub small_file : List Item
small_file = put 97 2 ∷ put 99 5 ∷ put 102 3 ∷ range_deleted 100 103 7 ∷ []

abbrev pub small_shown : Bounds
small_shown = letters 97 104

abbrev pub small_left : Bounds
small_left = letters 97 98

abbrev pub small_right : Bounds
small_right = letters 101 103

-- what the halves have
abbrev pub left_half : List Item
left_half = put 97 2 ∷ []

abbrev pub right_half : List Item
right_half = put 102 3 ∷ range_deleted 101 103 7 ∷ []

-- Operations from k on aren't in tables yet, and the span touches none of them.
abbrev pub small_groups : List Group
small_groups = group_of 1 ((8, Set (107 ∷ []) (8 ∷ [])) ∷ []) ∷ group_of 2 ((9, DelSpan (letters 109 111)) ∷ []) ∷ []

abbrev pub small_mem : List Item
small_mem = put 107 8 ∷ range_deleted 109 111 9 ∷ []

-- a table of L1, which the span doesn't meet
abbrev pub small_other : List Item
small_other = put 107 1 ∷ []

-- The load has two tables: one with a range delete from b up to d and c above it, and one with i deleted.
abbrev pub small_ops : List Op
small_ops = DelSpan (letters 98 100) ∷ Set (99 ∷ []) (10 ∷ []) ∷ []

abbrev pub small_tables : List TableOps
small_tables = table_ops (codes "t") small_ops ∷ table_ops (codes "u") (Del (105 ∷ []) ∷ []) ∷ []

-- the file of the first
abbrev pub first_file : List Item
first_file = entry (99 ∷ []) 0 (Some (10 ∷ [])) ∷ range_deleted 98 100 0 ∷ []

-- the load's contents at 10, the second of which comes to L1
abbrev pub first_load : List Item
first_load = items_at 10 small_ops

abbrev pub second_load : List Item
second_load = items_at 10 (Del (105 ∷ []) ∷ [])

-- before the install, without the span's keys, and behind it
abbrev pub small_before : List Item
small_before = small_mem ++ (small_file ++ small_other)

abbrev pub small_rest : List Item
small_rest = small_mem ++ ((left_half ++ right_half) ++ small_other)

abbrev pub small_after : List Item
small_after = small_rest ++ (first_load ++ second_load)

abbrev pub small_install : Install
small_install = record {
  next = 10;
  tables = small_tables;
  out = Some small_span;
  loads = first_load ∷ second_load ∷ [];
  old = small_before;
  left = small_rest;
  new = small_after;
}

-- a state with the groups, and whose map is the image of all content
abbrev pub small_state : Plain
small_state = record (opening 10 1) {
  map = image (items (all_ops small_groups) ++ (small_file ++ small_other)) 10;
  sealed = group_of 1 ((8, Set (107 ∷ []) (8 ∷ [])) ∷ []) ∷ [];
  active = group_of 2 ((9, DelSpan (letters 109 111)) ∷ []);
}

-- Two tables by their bounds, of which the first meets the range from b up to d.
abbrev pub small_handout : Handout
small_handout = record {
  range = letters 98 100;
  limit = 10;
  ops = all_ops small_groups;
  tables = (small_shown, small_file) ∷ (letters 107 108, small_other) ∷ [];
  part = [];
  handed = (small_shown, small_file) ∷ [];
}

-- The same over tables by their numbers: 1 stands in L0 and 2 in L1. 3 and 4 are the halves of 1; 5 is loaded into L1,
-- and 6 into L0, since a running compaction meets it.
abbrev pub load_content : Table → List Item
load_content t =
    if t.num == 1 then small_file else (
    if t.num == 2 then small_other else (
    if t.num == 3 then left_half else (
    if t.num == 4 then right_half else (
    if t.num == 5 then first_load else second_load))))

abbrev pub table_by : ℕ → Bounds → ℕ → ℕ → Bool → Table
table_by num b seq_hi backing virt =
    record { num = num; backing = backing; lo = b.lo; hi = b.hi; seq_lo = 1; seq_hi = seq_hi; synthetic = 0; size = 100; virt = virt }

abbrev pub first_table : Table
first_table = table_by 1 small_shown 7 1 false

abbrev pub second_table : Table
second_table = table_by 2 (letters 107 108) 1 2 false

abbrev pub left_table : Table
left_table = table_by 3 small_left 7 1 true

abbrev pub right_table : Table
right_table = table_by 4 small_right 7 1 true

abbrev pub first_loaded : Table
first_loaded = table_by 5 (letters 98 100) 10 5 false

abbrev pub second_loaded : Table
second_loaded = table_by 6 (key_hull (105 ∷ [])) 10 6 false

abbrev pub load_edit : LoadEdit
load_edit = record {
  next = 10;
  tables = small_tables;
  out = Some small_span;
  levels = (first_table ∷ []) ∷ (second_table ∷ []) ∷ [];
  running = letters 105 106 ∷ [];
  halves = λ t. if t.num == 1 then left_table ∷ right_table ∷ [] else [];
  loaded = (1, first_loaded) ∷ (0, second_loaded) ∷ [];
  edit = changes ((0, 1) ∷ []) (5 ∷ 6 ∷ []) ((0, left_table) ∷ (0, right_table) ∷ (0, second_loaded) ∷ (1, first_loaded) ∷ []);
}

abbrev pub load_groups : List (List Item)
load_groups = (put 107 8 ∷ []) ∷ (range_deleted 109 111 9 ∷ []) ∷ []
