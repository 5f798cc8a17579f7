-- The extent of a content: the least range with the hulls of its points and with its spans, and the least
-- and the greatest of its numbers.
use Rattle.std.specs.Prelude.{◌≡◌, ℕ, ◌/◌, ◌^◌, ◌<◌, ◌≤◌, List, [], ◌∷◌, ◌++◌, map, min, max, Option, Some, None, IsTrue, if◌then◌else◌}
use Rattle.std.specs.List.{AllByRecursion}
use Rattle.xdb_key.specs.Bounds.{bounds, holds, covers, successor}
use Rattle.xdb_key.specs.Entries.{Reach}
use Rattle.xdb_key.specs.Order.{is_below}
use Rattle.xdb_block.specs.Kept.{last_key}
use Rattle.xdb_block.specs.Rows.{Row, user_part, trailer_part}
use Rattle.xdb_rangedel.specs.Members.{Has}
use Rattle.xdb_table_w.specs.declared.seqs.Seqs.{Seqs}
use Rattle.xdb_table_w.specs.Content.{Content}

abbrev pub user : Row → List ℕ
user r = user_part r.key

abbrev pub end : Row → List ℕ
end r = r.value

-- the number of a row
abbrev pub number : Row → ℕ
number r = trailer_part r.key / 256

abbrev pub numbers : List Row → List ℕ
numbers rows = map number rows

-- the least bounds and numbers: each is one of the content's
pub record IsExtent (c : Content) (e : Reach) : Type 0 where
  pub hulls : AllByRecursion (λ r. IsTrue (holds (bounds e.lo e.hi) (user r))) c.points
  pub spans : AllByRecursion (λ r. IsTrue (covers (bounds e.lo e.hi) (bounds (user r) (end r)))) c.spans
  pub lo : Has (map user c.points ++ map user c.spans) e.lo
  pub hi : Has (map (λ r. successor (user r)) c.points ++ map end c.spans) e.hi
  pub between : AllByRecursion (λ n. (e.seq_lo ≤ n) × (n ≤ e.seq_hi)) (numbers c.points ++ numbers c.spans)
  pub seq_lo : Has (numbers c.points ++ numbers c.spans) e.seq_lo
  pub seq_hi : Has (numbers c.points ++ numbers c.spans) e.seq_hi

-- ---- the least and the greatest number so far, which are below 2^56

abbrev pub seqs : ℕ → ℕ → Seqs
seqs lo hi = record { lo = lo; hi = hi }

abbrev pub widened : Option Seqs → ℕ → Seqs
widened None n = seqs n n
widened (Some s) n = seqs (min s.lo n) (max s.hi n)

abbrev pub Spread : List ℕ → Option Seqs → Type 0
Spread ns None = ns ≡ []
Spread ns (Some s) = AllByRecursion (λ n. (s.lo ≤ n) × (n ≤ s.hi)) ns × Has ns s.lo × Has ns s.hi × (s.hi < 2 ^ 56)

-- of two parts
abbrev pub both : Option Seqs → Option Seqs → Option Seqs
both None b = b
both (Some s) None = Some s
both (Some s) (Some t) = Some (seqs (min s.lo t.lo) (max s.hi t.hi))

-- ---- bounds of which there is one at least

abbrev pub lesser : Option (List ℕ) → Option (List ℕ) → List ℕ
lesser None None = []
lesser None (Some b) = b
lesser (Some a) None = a
lesser (Some a) (Some b) = if is_below a b then a else b

abbrev pub greater : Option (List ℕ) → Option (List ℕ) → List ℕ
greater None None = []
greater None (Some b) = b
greater (Some a) None = a
greater (Some a) (Some b) = if is_below a b then b else a

-- the end of the hull of the last key
abbrev pub hull_end : List Row → Option (List ℕ)
hull_end [] = None
hull_end (r ∷ rs) = Some (successor (user_part (last_key [] (r ∷ rs))))
