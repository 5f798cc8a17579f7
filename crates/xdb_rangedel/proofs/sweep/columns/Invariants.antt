-- What the loop of `columns` keeps.
use Rattle.xdb_rangedel.proofs.ColumnLaws.{Written}
use Rattle.xdb_rangedel.proofs.sweep.columns.Given as goal

abbrev pub invariant-loop-strip : goal.invariant-loop-strip
invariant-loop-strip l = Written l.strips l.gaps l.strip-index l.number l.reached l.columns.items
