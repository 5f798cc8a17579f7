-- How a memtable keeps operations: entries in internal order, and range tombstones in the order of their numbers.
use Rattle.std.specs.Prelude.{◌≡◌, ℕ, ◌^◌, List, [], ◌∷◌, ◌++◌, map, nat_lt, if◌then◌else◌}
use Rattle.xdb_key.specs.Entries.{Point, Tombstone}
use Rattle.xdb_key.specs.declared.op.Kind.{Kind}
use Rattle.xdb_key.specs.declared.op.Kind.TheVariants as kinds
use Rattle.xdb_key.specs.declared.op.Op.{Op}
use Rattle.xdb_key.specs.declared.op.Op.TheVariants.{Set, Del, DelSpan}
use Rattle.xdb_rangedel.specs.Members.{SameMembers}
use Rattle.xdb_mem.specs.Numbered.{RisesWithin, points, spans}
use Rattle.xdb_mem.specs.InOrder.{AreInOrder}

-- the operation that an entry was; no entry is of the kind of a range delete
abbrev pub op_of : Kind → List ℕ → List ℕ → Op
op_of kinds.Set key value = Set key value
op_of kinds.Del key value = Del key
op_of kinds.SpanDel key value = Del key

abbrev pub entry_op : Point → ℕ × Op
entry_op p = (p.seq, op_of p.kind p.key p.value)

abbrev pub span_op : Tombstone → ℕ × Op
span_op t = (t.seq, DelSpan t.range)

-- an operation put at its place by number; it is left out where its number is there
abbrev pub put : ℕ × Op → List (ℕ × Op) → List (ℕ × Op)
put o [] = o ∷ []
put o (p ∷ ps) = if nat_lt o.0 p.0 then o ∷ p ∷ ps else (if nat_lt p.0 o.0 then p ∷ put o ps else p ∷ ps)

abbrev pub by_number : List (ℕ × Op) → List (ℕ × Op)
by_number [] = []
by_number (o ∷ os) = put o (by_number os)

-- the operations that entries and tombstones were, in the order of their numbers
unfoldable pub ops_of : List Point → List Tombstone → List (ℕ × Op)
ops_of entries tombstones = by_number (map entry_op entries ++ map span_op tombstones)

-- what is kept of operations
pub record IsHeld (ops : List (ℕ × Op)) (entries : List Point) (tombstones : List Tombstone) : Type 0 where
  pub rising : RisesWithin 1 (2 ^ 56) ops
  pub members : SameMembers entries (points ops)
  pub order : AreInOrder entries
  pub same_spans : tombstones ≡ spans ops
