-- The first snapshots are printed.
use Rattle.std.proofs.Common.{◌≡◌, ◌++◌, map, take}
use Rattle.xdb_plain.specs.Printed.{spaced, snap_word}
use Rattle.xdb_text.proofs.tables.push_each_snap.Given as goal

abbrev pub invariant-loop-name : goal.invariant-loop-name
invariant-loop-name l = l.out.items ≡ l.fn.out.items ++ spaced (map snap_word (take l.name-index l.snaps))
