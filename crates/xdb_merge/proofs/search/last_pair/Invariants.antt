-- No key down to where the search is has a value, and fewer entries are left.
use Rattle.std.proofs.Common.{length}
use Rattle.std.specs.List.{filter}
use Rattle.xdb_merge.specs.Layers.{entries_of}
use Rattle.xdb_merge.specs.Search.{is_before}
use Rattle.xdb_merge.proofs.SearchLaws.{HasPassedDown}
use Rattle.xdb_merge.proofs.search.last_pair.Given as goal

abbrev pub invariant-loop-key : goal.invariant-loop-key
invariant-loop-key l = HasPassedDown l.layers l.bounds l.at l.end l.before

abbrev pub decreases-loop-key : goal.decreases-loop-key
decreases-loop-key l = length (filter (λ p. is_before l.before p.key) (entries_of l.layers))
