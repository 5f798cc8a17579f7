-- How the next pair is found: the nearest key of an entry, and what decides there.
use Rattle.std.specs.Prelude.{◌≡◌, ℕ, Bool, true, false, not, ◌&&◌, ◌||◌, List, map, Option, Some, None, IfSome, nat_le, nat_lt, if◌then◌else◌}
use Rattle.std.specs.List.{find}
use Rattle.std.specs.List.Sorted.{IsPartitionPoint}
use Rattle.std.specs.Option.{option_map}
use Rattle.xdb_key.specs.Bounds.{Bounds, holds}
use Rattle.xdb_key.specs.Entries.{Point}
use Rattle.xdb_key.specs.Order.{is_below, is_upto}
use Rattle.xdb_key.specs.declared.op.Kind.{Kind}
use Rattle.xdb_key.specs.declared.op.Kind.TheVariants.{Del, Set, SpanDel}
use Rattle.xdb_mem.specs.Parts.{Parts}
use Rattle.xdb_rangedel.specs.Content.{Item, entry_of, mark, newest, is_seen, verdict, value_of}
use Rattle.xdb_rangedel.specs.Members.{Has}
use Rattle.xdb_merge.specs.Layers.{content_of_layers}
use Rattle.xdb_merge.specs.Steps.{Decides}
use Rattle.xdb_merge.specs.declared.edge.Edge.{Edge}
use Rattle.xdb_merge.specs.declared.edge.Edge.TheVariants.{At, Behind}

-- the key isn't before the edge
abbrev pub is_from : Edge → List ℕ → Bool
is_from (At key) k = is_upto key.now k
is_from (Behind key) k = is_below key.now k

abbrev pub edge_key : Edge → List ℕ
edge_key (At key) = key.now
edge_key (Behind key) = key.now

abbrev pub is_short : Edge → Point → Bool
is_short e p = not (is_from e p.key)

-- up to a place each entry passes the test, and none from there on
abbrev pub Splits : (Point → Bool) → List Point → ℕ → Type 0
Splits t ps n = IsPartitionPoint (λ p. t p ≡ true) (λ p. t p ≡ false) ps n

abbrev pub is_before : List ℕ → List ℕ → Bool
is_before end k = is_below k end

-- ---- the nearest key

-- in the direction of the search, the first of two keys comes before the second or is it
abbrev pub forwards : List ℕ → List ℕ → Bool
forwards a b = is_upto a b

abbrev pub backwards : List ℕ → List ℕ → Bool
backwards a b = is_upto b a

-- of the keys of entries that pass, this one comes first
pub record IsNearestKey (comes : List ℕ → List ℕ → Bool) (passes : List ℕ → Bool) (ps : List Point) (k : List ℕ) : Type 0 where
  pub passing : passes k ≡ true
  pub held : (p : Point) × Has ps p × (p.key ≡ k)
  pub first : (p : Point) → Has ps p → passes p.key ≡ true → comes k p.key ≡ true

-- there is none exactly where no key passes
abbrev pub IsNearest : (List ℕ → List ℕ → Bool) → (List ℕ → Bool) → List Point → Option (List ℕ) → Type 0
IsNearest comes passes ps None = (p : Point) → Has ps p → passes p.key ≡ false
IsNearest comes passes ps (Some k) = IsNearestKey comes passes ps k

-- of two, the one that comes first
abbrev pub nearer : (List ℕ → List ℕ → Bool) → Option (List ℕ) → Option (List ℕ) → Option (List ℕ)
nearer comes None b = b
nearer comes (Some a) None = Some a
nearer comes (Some a) (Some b) = if comes a b then Some a else Some b

-- ---- what decides at a key

-- the entry stands before each one of the key with a number below the limit
abbrev pub is_passed : ℕ → List ℕ → Point → Bool
is_passed limit key p = is_below p.key key || (nat_le limit p.seq && is_upto p.key key)

-- of the key's entries below the limit, the first one
abbrev pub first_seen : ℕ → List ℕ → List Point → Option Point
first_seen limit key ps = find (λ p. is_seen limit key (entry_of p)) ps

-- of two, the one of the greater number, and of one number the first
abbrev pub newer_entry : Option Point → Option Point → Option Point
newer_entry None b = b
newer_entry (Some p) None = Some p
newer_entry (Some p) (Some q) = if nat_lt p.seq q.seq then Some q else Some p

-- of the key's entries below the limit, this one has the newest mark
pub record IsNewest (limit : ℕ) (key : List ℕ) (ps : List Point) (o : Option Point) : Type 0 where
  pub newest : newest (map entry_of ps) limit key ≡ option_map (λ p. mark (entry_of p)) o
  pub member : IfSome o (λ p. (p.key ≡ key) × Has ps p)

abbrev pub is_set : Kind → Bool
is_set Del = false
is_set Set = true
is_set SpanDel = false

-- a span of a greater number hides the entry
abbrev pub is_hidden : ℕ → Option ℕ → Bool
is_hidden seq None = false
is_hidden seq (Some n) = nat_lt seq n

-- the entry sets a value, and the greatest number of a span over its key doesn't hide it
abbrev pub is_shown : Option ℕ → Point → Bool
is_shown cover p = is_set p.kind && not (is_hidden p.seq cover)

abbrev pub shown : Option ℕ → Option Point → Option Point
shown cover None = None
shown cover (Some p) = if is_shown cover p then Some p else None

-- what is said of the key at the number is the entry's value; where there is no entry, it has no value
abbrev pub IsDecider : List Item → ℕ → List ℕ → Option Point → Type 0
IsDecider c at key None = ◌≡◌ {A = Option (List ℕ)} (value_of (verdict c at key)) None
IsDecider c at key (Some p) = (p.key ≡ key) × (value_of (verdict c at key) ≡ Some p.value) × Decides c at p

-- ---- the nearest pair

abbrev pub pair_of : Point → List ℕ × List ℕ
pair_of p = (p.key, p.value)

-- A search from the one edge may begin at the other: none of the bounds' keys lies between, and the start of the bounds
-- doesn't lie behind.
pub record StartsIn (r : Bounds) (edge from : Edge) : Type 0 where
  pub behind : (k : List ℕ) → is_from from k ≡ true → is_from edge k ≡ true
  pub within : (k : List ℕ) → is_from from k ≡ true → is_upto r.lo k ≡ true
  pub passed : (k : List ℕ) → is_from edge k ≡ true → is_from from k ≡ false → is_upto r.lo k ≡ false

abbrev pub end_in : Bounds → List ℕ → List ℕ
end_in r end = if is_below r.hi end then r.hi else end

-- the value of a key, inside the bounds
abbrev pub value_in : List Parts → Bounds → ℕ → List ℕ → Option (List ℕ)
value_in ls r at k = if holds r k then value_of (verdict (content_of_layers ls) at k) else None
