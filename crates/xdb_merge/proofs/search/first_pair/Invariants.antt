-- No key up to where the search is has a value, and fewer entries are left.
use Rattle.std.proofs.Common.{length}
use Rattle.std.specs.List.{filter}
use Rattle.xdb_merge.specs.Layers.{entries_of}
use Rattle.xdb_merge.specs.Search.{is_from}
use Rattle.xdb_merge.proofs.SearchLaws.{HasPassed}
use Rattle.xdb_merge.proofs.search.first_pair.Given as goal

abbrev pub invariant-loop-key : goal.invariant-loop-key
invariant-loop-key l = HasPassed l.layers l.bounds l.at l.edge l.from

abbrev pub decreases-loop-key : goal.decreases-loop-key
decreases-loop-key l = length (filter (λ p. is_from l.from p.key) (entries_of l.layers))
