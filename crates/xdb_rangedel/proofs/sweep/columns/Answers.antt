-- What is left to answer of `columns`.
use Rattle.xdb_rangedel.proofs.ColumnLaws.{written_all}
use Rattle.xdb_rangedel.proofs.sweep.columns.Goals as goal

pub returns : goal.returns
returns c = written_all c.args.strips.now c.args.gaps _ _ _ _ c.requires.order c.loop-strip.invariant c.loop-strip-test.false
