-- The bounds of an external table, and its extent.
use Rattle.std.specs.Prelude.{◌≡◌, List, IsTrue}
use Rattle.xdb_key.specs.Bounds.{Bounds, bounds, covers}
use Rattle.xdb_key.specs.Entries.{Reach}
use Rattle.xdb_key.specs.Ops.{op_hull}
use Rattle.xdb_key.specs.declared.op.Op.{Op}
use Rattle.xdb_rangedel.specs.Members.{Has}

-- the least range with the hulls of the operations: it covers each, and begins and ends with one
pub record AreBounds (ops : List Op) (b : Bounds) : Type 0 where
  pub around : (op : Op) → Has ops op → IsTrue (covers b (op_hull op))
  pub first : (op : Op) × Has ops op × ((op_hull op).lo ≡ b.lo)
  pub last : (op : Op) × Has ops op × ((op_hull op).hi ≡ b.hi)

-- the table's bounds, and no number but 0
pub record IsExtentOf (ops : List Op) (e : Reach) : Type 0 where
  pub keys : AreBounds ops (bounds e.lo e.hi)
  pub seq_lo : e.seq_lo ≡ 0
  pub seq_hi : e.seq_hi ≡ 0
