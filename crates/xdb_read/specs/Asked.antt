-- What an answer looks at: the keys that its question speaks of, and the tables that may have some of them.
use Rattle.std.specs.Prelude.{List, [], Option, Some, None, if◌then◌else◌}
use Rattle.xdb_key.specs.Bounds.{Bounds, bounds, key_hull, lesser, greater, meets}
use Rattle.xdb_merge.specs.Tables.{tables_in}
use Rattle.xdb_meta.specs.Table.{Table}
use Rattle.xdb_plain.specs.declared.question.Question.{Question}
use Rattle.xdb_plain.specs.declared.question.Question.TheVariants.{Get, Scan, RScan, Move}
use Rattle.xdb_read.specs.declared.parts.ReadParts.{ReadParts}

-- what two ranges have in common
abbrev pub common : Bounds → Bounds → Option Bounds
common r o = if meets r o then Some (bounds (greater r.lo o.lo) (lesser r.hi o.hi)) else None

-- the keys inside the bounds that the question speaks of: a move goes over all of them
abbrev pub keys_asked : Bounds → Question → Option Bounds
keys_asked r (Get key at) = common r (key_hull key)
keys_asked r (Scan range most at) = common r range
keys_asked r (RScan range most at) = common r range
keys_asked r (Move cursor step) = Some r

module _ {F : Type 0} where
  -- the tables that may have keys of a range, if there is one
  abbrev pub tables_of : Option Bounds → List (Table × F) → List (Table × F)
  tables_of None tables = []
  tables_of (Some keys) tables = tables_in keys tables

  -- the tables that the question's answer needs
  abbrev pub tables_asked : ReadParts F → List (Table × F)
  tables_asked parts = tables_of (keys_asked parts.bounds parts.question) parts.tables
