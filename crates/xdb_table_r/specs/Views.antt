-- A view of a table: its points with keys from a bound on and below another, its spans cut to these bounds, and a
-- synthetic number in place of all numbers.
use Rattle.std.specs.Prelude.{◌≡◌, ℕ, ◌≤◌, ◌%◌, List, [], map, Option, Some, None, Result, Ok, IsTrue, All, ◌==◌, if◌then◌else◌}
use Rattle.std.specs.List.{filter_map, AllPairs}
use Rattle.std.specs.Ordering.{is_lt}
use Rattle.xdb_key.specs.Bounds.{Bounds, bounds, holds}
use Rattle.xdb_key.specs.Entries.{Point, point, Tombstone, tombstone}
use Rattle.xdb_key.specs.Kinds.{internal_cmp, trailer}
use Rattle.xdb_key.specs.Order.{is_below, is_upto}
use Rattle.xdb_key.specs.Reading.{◌>>=◌}
use Rattle.xdb_key.specs.declared.op.Kind.{Kind}
use Rattle.xdb_key.specs.declared.op.Kind.TheVariants as kinds
use Rattle.xdb_rangedel.specs.Clip.{parts_in}
use Rattle.xdb_block.specs.Rows.{Row, user_part, trailer_part}
use Rattle.xdb_table_w.specs.Extents.{number}
use Rattle.xdb_table_r.specs.declared.window.Window.{Window}
use Rattle.xdb_table_r.specs.Tables.{Table}
use Rattle.xdb_table_r.specs.Points.{points_at}

-- the keys that a view shows
abbrev pub range_of : Window → Bounds
range_of w = bounds w.lo w.hi

-- ---- points

-- the kind of a point by its code, 0 for a delete
abbrev pub kind_of : ℕ → Kind
kind_of code = if code == 0 then kinds.Del else kinds.Set

-- the point of a row
abbrev pub point_of : Row → Point
point_of r = point (user_part r.key) (number r) (kind_of (trailer_part r.key % 256)) r.value

-- 0 means that there is no synthetic number
abbrev pub number_for : ℕ → ℕ → ℕ
number_for synthetic own = if synthetic == 0 then own else synthetic

abbrev pub renumbered : ℕ → Point → Point
renumbered synthetic p = point p.key (number_for synthetic p.seq) p.kind p.value

-- what a range shows of a row
abbrev pub point_in : Bounds → ℕ → Row → Option Point
point_in r synthetic i = if holds r (user_part i.key) then Some (renumbered synthetic (point_of i)) else None

-- the points of rows, in the order of the rows
abbrev pub points_in : Bounds → ℕ → List Row → List Point
points_in r synthetic rows = filter_map (point_in r synthetic) rows

-- the points of a file with this index
abbrev pub seen_at : Bounds → ℕ → List Row → List ℕ → Result (List Point) ℕ
seen_at r synthetic index file = points_at index file >>= λ rows. Ok (points_in r synthetic rows)

-- the first stands before the second in internal order
abbrev pub comes_before : Point → Point → Type 0
comes_before a b = IsTrue (is_lt (internal_cmp a.key (trailer a.seq a.kind) b.key (trailer b.seq b.kind)))

-- Points of a range: their keys rise. Without a synthetic number they rise strictly in internal order; with one, it is
-- the number of each.
pub record AreSeen (r : Bounds) (synthetic : ℕ) (ps : List Point) : Type 0 where
  pub within : All (λ p. IsTrue (holds r p.key)) ps
  pub rise : AllPairs (λ a b. IsTrue (is_upto a.key b.key)) ps
  pub strict : synthetic ≡ 0 → AllPairs comes_before ps
  pub numbered : 1 ≤ synthetic → All (λ p. p.seq ≡ synthetic) ps

-- ---- spans

-- the span with the synthetic number in place of its own
abbrev pub span_for : ℕ → Tombstone → Tombstone
span_for synthetic t = tombstone t.range (number_for synthetic t.seq)

-- what a range has of the spans; nothing where it ends before it begins
abbrev pub spans_in : Bounds → ℕ → List Tombstone → List Tombstone
spans_in r synthetic ts = if is_below r.lo r.hi then map (span_for synthetic) (parts_in r ts) else []

-- ---- views

-- a table, and the bounds and the number that it is seen with
pub record Shown (F : Type 0) : Type 0 where
  pub table : Table F
  pub lo : List ℕ
  pub hi : List ℕ
  pub synthetic : ℕ

abbrev pub shown : {F : Type 0} → Table F → List ℕ → List ℕ → ℕ → Shown F
shown table lo hi synthetic = record { table = table; lo = lo; hi = hi; synthetic = synthetic }

abbrev pub keys_of : {F : Type 0} → Shown F → Bounds
keys_of v = bounds v.lo v.hi

-- the points that a view shows, where the table's file has these bytes
abbrev pub view_at : {F : Type 0} → Shown F → List ℕ → Result (List Point) ℕ
view_at v file = seen_at (keys_of v) v.synthetic v.table.index file
