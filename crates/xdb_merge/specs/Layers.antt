-- Layers: what memtables or one table have, as entries and range tombstones. All layers together are one content.
use Rattle.std.specs.Prelude.{◌≡◌, ◌≤◌, true, List}
use Rattle.std.specs.List.{AllPairs, flat_map}
use Rattle.xdb_key.specs.Entries.{Point, Tombstone}
use Rattle.xdb_key.specs.Order.{is_upto}
use Rattle.xdb_mem.specs.Parts.{Parts}
use Rattle.xdb_rangedel.specs.Content.{Item, content_of}

abbrev pub layer : List Point → List Tombstone → Parts
layer entries spans = record { entries = entries; spans = spans }

-- the entries of all layers
abbrev pub entries_of : List Parts → List Point
entries_of ls = flat_map (λ l. l.entries) ls

-- the range tombstones of all layers
abbrev pub spans_of : List Parts → List Tombstone
spans_of ls = flat_map (λ l. l.spans) ls

-- what the layers hold together
abbrev pub content_of_layers : List Parts → List Item
content_of_layers ls = flat_map (λ l. content_of l.entries l.spans) ls

-- the first has a key up to the second's, and if they are one key, no lesser number
pub record IsAhead (p q : Point) : Type 0 where
  pub upto : is_upto p.key q.key ≡ true
  pub falls : p.key ≡ q.key → q.seq ≤ p.seq

-- by rising keys, and at one key by numbers that don't rise
abbrev pub AreSorted : List Point → Type 0
AreSorted ps = AllPairs IsAhead ps
