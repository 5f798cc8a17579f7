-- Content: what memtables, tables and versions hold, and what it says of a key at a number.
use Rattle.std.specs.Prelude.{◌≡◌, ℕ, ◌+◌, ◌*◌, Bool, ◌&&◌, List, [], ◌∷◌, ◌++◌, map, Option, Some, None, nat_lt, if◌then◌else◌}
use Rattle.std.specs.Ordering.{eq_by_cmp}
use Rattle.std.specs.FinMap.{FinMap, get}
use Rattle.xdb_key.specs.Order.{key_cmp}
use Rattle.xdb_key.specs.Bounds.{holds}
use Rattle.xdb_key.specs.Entries.{Point, Tombstone}
use Rattle.xdb_key.specs.declared.op.Kind.{Kind}
use Rattle.xdb_key.specs.declared.op.Kind.TheVariants.{Del, Set, SpanDel}
use Rattle.xdb_rangedel.specs.Members.{Has}
use Rattle.xdb_rangedel.specs.Pieces.{pieces}

-- an entry: key, number, and the value, none for a delete; or a range tombstone
pub data Item : Type 0 where
  entry : List ℕ → ℕ → Option (List ℕ) → Item
  span : Tombstone → Item

-- what a content says of a key: its value, that it was deleted, or nothing
pub data Verdict : Type 0 where
  found : List ℕ → Verdict
  deleted : Verdict
  nothing : Verdict

abbrev pub seq_of : Item → ℕ
seq_of (entry key seq value) = seq
seq_of (span t) = t.seq

abbrev pub same_key : List ℕ → List ℕ → Bool
same_key a b = eq_by_cmp key_cmp a b

-- the item speaks of the key
abbrev pub here : List ℕ → Item → Bool
here k (entry key seq value) = same_key key k
here k (span t) = holds t.range k

-- where the item stands among those that speak of a key: by its number, and an entry above a span of the same number
abbrev pub rank : Item → ℕ
rank (entry key seq value) = 2 * seq + 1
rank (span t) = 2 * t.seq

abbrev pub verdict_by : Option (List ℕ) → Verdict
verdict_by None = deleted
verdict_by (Some value) = found value

-- what the item says of the keys that it speaks of
abbrev pub said : Item → Verdict
said (entry key seq value) = verdict_by value
said (span t) = deleted

-- what is known of the newest item: its rank, and what it says
pub record Mark : Type 0 where
  pub place : ℕ
  pub says : Verdict

abbrev pub mark : Item → Mark
mark i = record { place = rank i; says = said i }

-- the mark of a span with the number
abbrev pub deleted_at : ℕ → Mark
deleted_at seq = record { place = 2 * seq; says = deleted }

-- the item speaks of the key, at a number below the limit
abbrev pub is_seen : ℕ → List ℕ → Item → Bool
is_seen limit k i = here k i && nat_lt (seq_of i) limit

abbrev pub mark_at : ℕ → List ℕ → Item → Option Mark
mark_at limit k i = if is_seen limit k i then Some (mark i) else None

-- the mark of greater place; of two at one place the first
abbrev pub newer : Option Mark → Option Mark → Option Mark
newer None b = b
newer (Some m) None = Some m
newer (Some m) (Some n) = if nat_lt m.place n.place then Some n else Some m

-- the newest mark at a key, of the items with numbers below the limit
abbrev pub newest : List Item → ℕ → List ℕ → Option Mark
newest [] limit k = None
newest (i ∷ c) limit k = newer (mark_at limit k i) (newest c limit k)

abbrev pub said_by : Option Mark → Verdict
said_by None = nothing
said_by (Some m) = m.says

-- the greatest number below the limit decides, and an entry wins a tie with a span
abbrev pub verdict : List Item → ℕ → List ℕ → Verdict
verdict c limit k = said_by (newest c limit k)

abbrev pub value_of : Verdict → Option (List ℕ)
value_of (found value) = Some value
value_of deleted = None
value_of nothing = None

-- the map has each key whose verdict is a value, with that value
abbrev pub IsImage : List Item → ℕ → FinMap key_cmp (List ℕ) → Type 0
IsImage c limit m = (k : List ℕ) → get m k ≡ value_of (verdict c limit k)

-- two entries of one key at one number say the same; an entry that stands twice does no harm
abbrev pub IsClear : List Item → Type 0
IsClear c = (key : List ℕ) (seq : ℕ) (v w : Option (List ℕ)) → Has c (entry key seq v) → Has c (entry key seq w) → v ≡ w

abbrev pub value_at : Kind → List ℕ → Option (List ℕ)
value_at Set value = Some value
value_at Del value = None
value_at SpanDel value = None

abbrev pub entry_of : Point → Item
entry_of p = entry p.key p.seq (value_at p.kind p.value)

-- the content that code keeps as two lists
abbrev pub content_of : List Point → List Tombstone → List Item
content_of entries spans = map entry_of entries ++ map span spans

abbrev pub entries_in : List Item → List Item
entries_in [] = []
entries_in (entry key seq value ∷ c) = entry key seq value ∷ entries_in c
entries_in (span t ∷ c) = entries_in c

abbrev pub spans_in : List Item → List Tombstone
spans_in [] = []
spans_in (entry key seq value ∷ c) = spans_in c
spans_in (span t ∷ c) = t ∷ spans_in c

-- the content with its spans cut into pieces
abbrev pub in_pieces : List Item → List Item
in_pieces c = entries_in c ++ map span (pieces (spans_in c))
