-- The tables of the first levels are counted.
use Rattle.std.proofs.Common.{◌≡◌, ◌<◌, ◌^◌, take}
use Rattle.xdb_vset.specs.Counts.{table_count}
use Rattle.xdb_vset.proofs.files.table_count.Given as goal

abbrev pub invariant-loop-level : goal.invariant-loop-level
invariant-loop-level l = record {
  total : l.total ≡ table_count (take l.level l.version);
  fits : l.total < 2 ^ 64;
}
