-- Entries, range tombstones and extents as plain data.
use Rattle.std.specs.Prelude.{◌≡◌, ℕ, ◌<◌, ◌≤◌, ◌^◌, List, [], IsTrue}
use Rattle.xdb_key.specs.Bounds.{Bounds}
use Rattle.xdb_key.specs.Order.{is_below}
use Rattle.xdb_key.specs.declared.op.Kind.{Kind}
use Rattle.xdb_key.specs.declared.op.Kind.TheVariants.{Del, Set, SpanDel}

-- an entry: a value set, or a delete, at a number
pub record Point : Type 0 where
  pub key : List ℕ
  pub seq : ℕ
  pub kind : Kind
  pub value : List ℕ

abbrev pub point : List ℕ → ℕ → Kind → List ℕ → Point
point key seq kind value = record { key = key; seq = seq; kind = kind; value = value }

-- a delete has no value, and a range delete is no entry
abbrev pub SuitsKind : Kind → List ℕ → Type 0
SuitsKind Del value = value ≡ []
SuitsKind Set value = Unit {0}
SuitsKind SpanDel value = ⊥

abbrev pub IsPoint : Point → Type 0
IsPoint p = (p.seq < 2 ^ 56) × SuitsKind p.kind p.value

-- a range tombstone: a range deleted at a number
pub record Tombstone : Type 0 where
  pub range : Bounds
  pub seq : ℕ

abbrev pub tombstone : Bounds → ℕ → Tombstone
tombstone range seq = record { range = range; seq = seq }

-- what a file's content lies within: keys from lo on and below hi, numbers from seq_lo to seq_hi
pub record Reach : Type 0 where
  pub lo : List ℕ
  pub hi : List ℕ
  pub seq_lo : ℕ
  pub seq_hi : ℕ

abbrev pub reach : Bounds → ℕ → ℕ → Reach
reach range seq_lo seq_hi = record { lo = range.lo; hi = range.hi; seq_lo = seq_lo; seq_hi = seq_hi }

pub record IsReach (e : Reach) : Type 0 where
  pub ordered : IsTrue (is_below e.lo e.hi)
  pub numbers : e.seq_lo ≤ e.seq_hi
  pub small : e.seq_hi < 2 ^ 56
