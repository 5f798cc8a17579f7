-- What the result of a flush says of its table.
use Rattle.std.specs.Prelude.{◌≡◌, List}
use Rattle.xdb_meta.specs.Table.{Table}
use Rattle.xdb_rangedel.specs.Content.{Item, seq_of}
use Rattle.xdb_rangedel.specs.Members.{Has, SameMembers}
use Rattle.xdb_steps.specs.Core.{RunningJob}
use Rattle.xdb_steps.specs.Tables.{IsTableOf}
use Rattle.xdb_stripes.specs.Thinned.{thinned}
use Rattle.xdb_stripes.specs.declared.floor.Floor.TheVariants.{All}

-- what thinning leaves of what a flush was given
abbrev pub flush_content : RunningJob → List Item
flush_content r = thinned r.content r.stripes All

-- The table has just what thinning leaves. Its bounds are the least around that, and its greatest number is one of that.
pub record IsFlushed (r : RunningJob) (t : Table) (c : List Item) : Type 0 where
  pub content : SameMembers c (flush_content r)
  pub table : IsTableOf t (flush_content r)
  pub greatest : (i : Item) × Has (flush_content r) i × (seq_of i ≡ t.seq_hi)
