-- What the loop of `picked` keeps: what stays so far.
use Rattle.std.proofs.Common.{◌≡◌, take}
use Rattle.std.specs.List.{filter}
use Rattle.xdb_stripes.specs.Steps.{is_kept_span}
use Rattle.xdb_stripes.proofs.spans.picked.Given as goal

abbrev pub invariant-loop-at : goal.invariant-loop-at
invariant-loop-at l = l.kept.items ≡ filter (is_kept_span l.stripes l.floor l.spans) (take l.at l.spans)
