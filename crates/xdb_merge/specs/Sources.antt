-- What is kept of a view, and the layers that a merged cursor searches.
use Rattle.std.specs.Prelude.{◌≡◌, ℕ, true, false, List, []}
use Rattle.xdb_key.specs.Entries.{Tombstone}
use Rattle.xdb_mem.specs.Parts.{Parts}
use Rattle.xdb_rangedel.specs.Content.{newest}
use Rattle.xdb_rangedel.specs.Members.{SameMembers}
use Rattle.xdb_table_r.specs.Cursors.{Walk, walk}
use Rattle.xdb_table_r.specs.Views.{Shown}
use Rattle.xdb_merge.specs.Layers.{entries_of, content_of_layers}
use Rattle.xdb_merge.specs.Merge.{layer_of}

-- a cursor of a view that isn't read yet
abbrev pub unread : {F : Type 0} → Shown F → Walk F
unread v = walk v false [] 0

-- once the points are read, the spans are there
abbrev pub HasSpans : {F : Type 0} → Walk F → List Tombstone → Type 0
HasSpans w spans = w.read ≡ true → SameMembers spans (layer_of w).spans

-- the layer has the points that are read, and the spans in some order
pub record ShowsLayer {F : Type 0} (w : Walk F) (l : Parts) : Type 0 where
  pub entries : l.entries ≡ w.points
  pub spans : HasSpans w l.spans

-- layers of the same entries that say the same of each key
pub record AreAlike (ls ms : List Parts) : Type 0 where
  pub entries : entries_of ls ≡ entries_of ms
  pub says : (limit : ℕ) (k : List ℕ) → newest (content_of_layers ls) limit k ≡ newest (content_of_layers ms) limit k
