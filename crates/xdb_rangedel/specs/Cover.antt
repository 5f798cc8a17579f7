-- Which range tombstone covers a key.
use Rattle.std.specs.Prelude.{ℕ, ◌&&◌, List, [], ◌∷◌, Option, Some, None, nat_lt, if◌then◌else◌}
use Rattle.xdb_key.specs.Bounds.{holds}
use Rattle.xdb_key.specs.Entries.{Tombstone}

-- the greater of two numbers, where there are any
abbrev pub greater : Option ℕ → Option ℕ → Option ℕ
greater None b = b
greater (Some m) None = Some m
greater (Some m) (Some n) = if nat_lt m n then Some n else Some m

-- the span's number, where it holds the key and its number is below the limit
abbrev pub cover_by : Tombstone → List ℕ → ℕ → Option ℕ
cover_by t key limit = if holds t.range key && nat_lt t.seq limit then Some t.seq else None

-- the greatest number below the limit of a span that holds the key
abbrev pub cover_of : List Tombstone → List ℕ → ℕ → Option ℕ
cover_of [] key limit = None
cover_of (t ∷ ts) key limit = greater (cover_by t key limit) (cover_of ts key limit)
