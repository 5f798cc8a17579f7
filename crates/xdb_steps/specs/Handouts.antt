-- What is handed out for a question.
use Rattle.std.specs.Prelude.{List}
use Rattle.xdb_key.specs.Bounds.{Bounds}
use Rattle.xdb_laws.specs.Parts.{IsMemPart, meeting}
use Rattle.xdb_mem.specs.Queue.{groups, all_ops}
use Rattle.xdb_rangedel.specs.Content.{Item}
use Rattle.xdb_rangedel.specs.Members.{SameMembers}
use Rattle.xdb_steps.specs.Core.{Core}
use Rattle.xdb_steps.specs.Tables.{all_with_bounds}

-- the tables of the current version
abbrev pub current_tables : Core → List (Bounds × List Item)
current_tables c = all_with_bounds c.files.current.levels c.files.contents

-- For a range of keys: what the memtables have there below the next number, and the tables of the current version that
-- meet it.
pub record IsHandoutOf (c : Core) (r : Bounds) (part : List Item)
    (handed : List (Bounds × List Item)) : Type 0 where
  pub mem : IsMemPart r c.numbers.next (all_ops (groups c.mem)) part
  pub tables : SameMembers handed (meeting r (current_tables c))
