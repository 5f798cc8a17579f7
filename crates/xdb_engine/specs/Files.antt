-- Files whose bytes the specification can see, and the set that versions and files are kept in.
use Rattle.std.specs.Prelude.{◌≡◌, ℕ, List, [], Option, Some, None, IsSome}
use Rattle.xdb_edit.specs.Versions.{no_tables}
use Rattle.xdb_merge.specs.Tables.{content_told}
use Rattle.xdb_meta.specs.Table.{Table}
use Rattle.xdb_rangedel.specs.Content.{Item}
use Rattle.xdb_vset.specs.Backings.{file_in}
use Rattle.xdb_vset.specs.FileLists.{file_lists}
use Rattle.xdb_vset.specs.Seen.{Seen, seen}

-- every file of the type tells its bytes
abbrev pub AreTold : {F : Type 0} → (F → Option (List ℕ)) → Type 0
AreTold {F} bytes = (file : F) → IsSome (bytes file)

-- version 0, without tables, which nobody holds
abbrev pub first_set : {F : Type 0} → Seen F
first_set = seen (record { num = 0; levels = no_tables }) [] [] (file_lists [] [] [] [] 0 0) 0

-- No table was installed, and no number of a file is known.
pub record HasNoFiles {F : Type 0} (s : Seen F) : Type 0 where
  pub levels : s.current.levels ≡ no_tables
  pub known : s.known ≡ []

-- `bytes` is what files tell
module _ {F : Type 0} (bytes : F → Option (List ℕ)) where
  abbrev pub bytes_in : Option F → Option (List ℕ)
  bytes_in None = None
  bytes_in (Some file) = bytes file

  -- what a table has, by its file in the set
  abbrev pub content_by : Seen F → Table → List Item
  content_by s t = content_told (bytes_in (file_in t.backing s.backings)) t
