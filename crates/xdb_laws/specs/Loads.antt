-- The install of a load, as contents: what is there before, what its span leaves, and what its tables bring.
use Rattle.std.specs.Prelude.{◌≡◌, ℕ, ◌+◌, List, [], ◌∷◌, ◌++◌, map, Option, None, IsTrue}
use Rattle.std.specs.List.{AllByRecursion}
use Rattle.xdb_key.specs.Bounds.{Bounds, covers}
use Rattle.xdb_key.specs.Ops.{op_hull, is_table}
use Rattle.xdb_key.specs.declared.op.Op.{Op}
use Rattle.xdb_mem.specs.Parts.{item_at}
use Rattle.xdb_plain.specs.Changes.{one_for}
use Rattle.xdb_plain.specs.Fences.{first_overlap}
use Rattle.xdb_plain.specs.Tables.{TableOps}
use Rattle.xdb_rangedel.specs.Content.{Item, in_pieces, IsClear}
use Rattle.xdb_rangedel.specs.Layers.{IsAllBelow}
use Rattle.xdb_rangedel.specs.Members.{Has, SameMembers}
use Rattle.xdb_laws.specs.Excises.{Excised}
use Rattle.xdb_laws.specs.Ordered.{joined}
use Rattle.xdb_laws.specs.Rewrite.{IsRewrite}

-- the operations of a table, all with one number
abbrev pub items_at : ℕ → List Op → List Item
items_at n ops = map (item_at n) ops

-- for each table a content that says what its operations say at the number
abbrev pub AreLoadsOf : ℕ → List TableOps → List (List Item) → Type 0
AreLoadsOf n [] [] = Unit {0}
AreLoadsOf n [] (c ∷ cs) = ⊥
AreLoadsOf n (t ∷ ts) [] = ⊥
AreLoadsOf n (t ∷ ts) (c ∷ cs) = IsRewrite (items_at n t.ops) c × AreLoadsOf n ts cs

-- the points of each table rise, and the bounds of no two tables meet
pub record AreLoadable (tables : List TableOps) : Type 0 where
  pub in_order : AllByRecursion (λ t. IsTrue (is_table t.ops)) tables
  pub apart : first_overlap tables ≡ None

-- The install of a load as plain data: the next number, the load's tables and its span, what the tables bring, and all
-- content before, without the span's keys, and behind the install.
pub record Install : Type 0 where
  pub next : ℕ
  pub tables : List TableOps
  pub out : Option Bounds
  pub loads : List (List Item)
  pub old : List Item
  pub left : List Item
  pub new : List Item

-- A clear content whose numbers lie below the next one gives way to what the span leaves of it, and to the contents of
-- the tables at the next number; in which order these stand is nothing.
pub record IsInstall (x : Install) : Type 0 where
  pub below : IsAllBelow x.next x.old
  pub clear : IsClear x.old
  pub excised : Excised x.out x.old x.left
  pub loadable : AreLoadable x.tables
  pub loaded : AreLoadsOf x.next x.tables x.loads
  pub members : SameMembers x.new (joined x.loads ++ x.left)

-- the next number behind it
abbrev pub next_after : Install → ℕ
next_after x = x.next + one_for x.tables

-- the file of a table: its operations with the number 0, their spans in pieces
abbrev pub HasOperations : List Op → List Item → Type 0
HasOperations ops file = SameMembers file (in_pieces (items_at 0 ops))

-- the range is around the hulls of the operations
abbrev pub IsAround : List Op → Bounds → Type 0
IsAround ops b = (op : Op) → Has ops op → IsTrue (covers b (op_hull op))
