use Rattle.std.proofs.Common.{List, ◌++◌, map, take}
use Rattle.xdb_key.specs.Entries.{Reach}
use Rattle.xdb_table_r.specs.Reaches.{span_reach, IsExtentOf}
use Rattle.xdb_table_r.proofs.reach.with_spans.Given as goal

abbrev pub invariant-loop-span : goal.invariant-loop-span
invariant-loop-span l = (before : List Reach) → IsExtentOf before l.initial.so_far → IsExtentOf (before ++ map span_reach (take l.span-index l.spans)) l.so_far
