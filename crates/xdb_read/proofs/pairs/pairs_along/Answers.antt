-- The counts of two calls, one after the other.
use Rattle.xdb_read.proofs.FaultLaws.{counted_passed, counted_ok}
use Rattle.xdb_read.proofs.pairs.pairs_along.Goals as goal

pub returns-in_err-add_all-clause-counted : goal.returns-in_err-add_all-clause-counted
returns-in_err-add_all-clause-counted g c =
    counted_passed c.args.dev.now c.cursor.new.dev c.add_all.new.dev c.from_residual-in_err-add_all.result c.add_all.result c.in_err-add_all.field-0.0 c.in_err-add_all.was c.from_residual-in_err-add_all.ensures c.cursor.ensures.counted c.add_all.ensures.counted

pub returns-clause-counted : goal.returns-clause-counted
returns-clause-counted g c =
    counted_ok c.args.dev.now c.cursor.new.dev c.add_all.new.dev c.new.result c.cursor.ensures.counted c.add_all.ensures.counted
