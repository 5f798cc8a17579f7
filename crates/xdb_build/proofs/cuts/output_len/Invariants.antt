-- The first entries may stand in one output.
use Rattle.xdb_build.specs.Series.{FillsTo}
use Rattle.xdb_build.proofs.cuts.output_len.Given as goal

abbrev pub invariant-loop-at : goal.invariant-loop-at
invariant-loop-at l = FillsTo l.entries l.at l.total
