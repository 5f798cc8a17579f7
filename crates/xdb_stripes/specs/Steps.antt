-- How code finds what the rules ask: by the ends of stripes, and by a floor cut into disjoint pieces, each with the
-- number 0.
use Rattle.std.specs.Prelude.{◌≡◌, ℕ, ◌<◌, ◌^◌, Bool, true, false, not, ◌&&◌, ◌||◌, ◌==◌, List, map, nat_lt, IsTrue}
use Rattle.std.specs.List.{list_any}
use Rattle.std.specs.Option.{is_some}
use Rattle.xdb_key.specs.Bounds.{Bounds, holds, meets}
use Rattle.xdb_key.specs.Order.{is_below}
use Rattle.xdb_key.specs.Entries.{Point, Tombstone, tombstone}
use Rattle.xdb_key.specs.declared.op.Kind.{Kind}
use Rattle.xdb_key.specs.declared.op.Kind.TheVariants.{Del, Set, SpanDel}
use Rattle.xdb_rangedel.specs.Cover.{cover_of}
use Rattle.xdb_rangedel.specs.Content.{same_key}
use Rattle.xdb_stripes.specs.declared.floor.Floor.{Floor}
use Rattle.xdb_stripes.specs.declared.floor.FloorIndex.{FloorIndex}
use Rattle.xdb_stripes.specs.declared.floor.FloorIndex.TheVariants.{Everywhere, Within}
use Rattle.xdb_stripes.specs.Stripes.{stripe, outranks}
use Rattle.xdb_stripes.specs.Floors.{floor_holds, floor_meets}
use Rattle.xdb_stripes.specs.Thinned.{same_bounds}

-- the limit is the end of the stripe of the number
pub record IsEnd (stripes : List ℕ) (n limit : ℕ) : Type 0 where
  pub above : n < limit
  pub same : (m : ℕ) → m < 2 ^ 56 → outranks stripes m n ≡ (nat_lt n m && nat_lt m limit)

abbrev pub index_holds : FloorIndex → List ℕ → Bool
index_holds Everywhere k = true
index_holds (Within ts) k = is_some (cover_of ts k 1)

abbrev pub index_meets : FloorIndex → Bounds → Bool
index_meets Everywhere range = true
index_meets (Within ts) range = list_any (λ t. meets t.range range) ts

-- the index answers as the floor does
pub record IsIndex (floor : Floor) (index : FloorIndex) : Type 0 where
  pub keys : (k : List ℕ) → index_holds index k ≡ floor_holds floor k
  pub ranges : (r : Bounds) → IsTrue (is_below r.lo r.hi) → index_meets index r ≡ floor_meets floor r

-- a span of number 0 over each range
abbrev pub at_zero : List Bounds → List Tombstone
at_zero rs = map (λ r. tombstone r 0) rs

-- what the rules say of an entry, asked of entries and spans apart, and of an index of the floor

abbrev pub shadows_entry : List ℕ → Point → Point → Bool
shadows_entry stripes p q = same_key q.key p.key && outranks stripes q.seq p.seq

abbrev pub buries_entry : List ℕ → Point → Tombstone → Bool
buries_entry stripes p t = holds t.range p.key && outranks stripes t.seq p.seq

abbrev pub is_delete : Kind → Bool
is_delete Del = true
is_delete Set = false
is_delete SpanDel = true

abbrev pub is_lost_delete : List ℕ → FloorIndex → Point → Bool
is_lost_delete stripes index p = is_delete p.kind && (stripe stripes p.seq == 0 && not (index_holds index p.key))

abbrev pub is_kept_entry : List ℕ → FloorIndex → List Point → List Tombstone → Point → Bool
is_kept_entry stripes index ps ts p =
    not (list_any (shadows_entry stripes p) ps || (list_any (buries_entry stripes p) ts || is_lost_delete stripes index p))

-- and of a span

abbrev pub repeats_span : List ℕ → Tombstone → Tombstone → Bool
repeats_span stripes t u = same_bounds u.range t.range && outranks stripes u.seq t.seq

abbrev pub is_lost_span : List ℕ → FloorIndex → Tombstone → Bool
is_lost_span stripes index t = stripe stripes t.seq == 0 && not (index_meets index t.range)

abbrev pub is_kept_span : List ℕ → FloorIndex → List Tombstone → Tombstone → Bool
is_kept_span stripes index ts t = not (list_any (repeats_span stripes t) ts || is_lost_span stripes index t)
