-- What the loop of `empty_columns` keeps.
use Rattle.std.proofs.Common.{◌≡◌, [], replicate}
use Rattle.xdb_rangedel.proofs.sweep.empty_columns.Given as goal

abbrev pub invariant-loop-gap : goal.invariant-loop-gap
invariant-loop-gap l = l.columns.items ≡ replicate l._gap []
