-- What is handed out for a question or a cursor: the memtables' part, and tables of a version.
use Rattle.std.specs.Prelude.{ℕ, List, ◌++◌}
use Rattle.std.specs.List.{AllByRecursion, filter, flat_map}
use Rattle.xdb_key.specs.Bounds.{Bounds, meets}
use Rattle.xdb_key.specs.declared.op.Op.{Op}
use Rattle.xdb_mem.specs.Parts.{items, items_below}
use Rattle.xdb_rangedel.specs.Content.{Item, in_pieces, IsClear}
use Rattle.xdb_rangedel.specs.Members.{SameMembers}
use Rattle.xdb_rangedel.specs.View.{restricted}
use Rattle.xdb_laws.specs.Excises.{KeepsTo}

-- tables as their bounds and what they have
abbrev pub content_of_all : List (Bounds × List Item) → List Item
content_of_all ts = flat_map (λ t. t.1) ts

-- no table has anything outside its bounds
abbrev pub KeepToBounds : List (Bounds × List Item) → Type 0
KeepToBounds ts = AllByRecursion (λ t. KeepsTo t.0 t.1) ts

-- the tables whose bounds meet the range
abbrev pub meeting : Bounds → List (Bounds × List Item) → List (Bounds × List Item)
meeting r ts = filter (λ t. meets r t.0) ts

-- the part of the memtables in the range, at numbers below the limit
abbrev pub IsMemPart : Bounds → ℕ → List (ℕ × Op) → List Item → Type 0
IsMemPart r limit ops part = SameMembers part (in_pieces (restricted r (items_below limit ops)))

-- What is handed out for a range, as plain data: up to which number it is seen, the operations of the memtables and the
-- tables of a version; and of these the memtables' part, and tables.
pub record Handout : Type 0 where
  pub range : Bounds
  pub limit : ℕ
  pub ops : List (ℕ × Op)
  pub tables : List (Bounds × List Item)
  pub part : List Item
  pub handed : List (Bounds × List Item)

-- all that is there, and what is handed out
abbrev pub all_of : Handout → List Item
all_of h = items h.ops ++ content_of_all h.tables

abbrev pub handed_of : Handout → List Item
handed_of h = h.part ++ content_of_all h.handed

-- It is clear. The part is that of the range, and the tables are those that meet it; in which order they stand is nothing.
pub record IsHandout (h : Handout) : Type 0 where
  pub clear : IsClear (all_of h)
  pub inside : KeepToBounds h.tables
  pub mem : IsMemPart h.range h.limit h.ops h.part
  pub tables_are : SameMembers h.handed (meeting h.range h.tables)
