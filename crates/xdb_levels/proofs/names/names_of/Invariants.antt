-- What is named goes on with the names of what is left.
use Rattle.std.proofs.Common.{◌≡◌, ◌++◌, drop}
use Rattle.xdb_levels.specs.Names.{names_from}
use Rattle.xdb_levels.proofs.names.names_of.Given as goal

abbrev pub invariant-loop-tables : goal.invariant-loop-tables
invariant-loop-tables l = record {
  same : l.level ≡ l.tables-index;
  named : l.names.items ++ names_from l.level (drop l.tables-index l.levels) ≡ names_from 0 l.levels;
}
