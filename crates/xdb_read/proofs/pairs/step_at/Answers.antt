-- The counts of two calls, one after the other.
use Rattle.xdb_read.proofs.FaultLaws.{counted_passed, counted_ok}
use Rattle.xdb_read.proofs.pairs.step_at.Goals as goal

pub returns-in_err-entry-clause-counted : goal.returns-in_err-entry-clause-counted
returns-in_err-entry-clause-counted g c =
    counted_passed c.args.dev.now c.cursor.new.dev c.go.new.dev c.from_residual-in_err-entry.result c.go.result c.in_err-entry.field-0.0 c.in_err-entry.was c.from_residual-in_err-entry.ensures c.cursor.ensures.counted c.go.ensures.counted

pub returns-clause-counted : goal.returns-clause-counted
returns-clause-counted g c =
    counted_ok c.args.dev.now c.cursor.new.dev c.go.new.dev (c.in_ok-entry.entry, c.into_place.result) c.cursor.ensures.counted c.go.ensures.counted
