-- What is left to answer of `place_from`.
use Rattle.std.proofs.Common.{rules}
use Rattle.std.proofs.lemmas.List.Sorted.{IsPartitionPoint-from_clause}
use Rattle.xdb_merge.specs.Search.{is_short}
use Rattle.xdb_merge.proofs.SortedLaws.{short-partitioned}
use Rattle.xdb_merge.proofs.layer.place_from.Goals as goal

pub returns-clause-split : goal.returns-clause-split
returns-clause-split c = IsPartitionPoint-from_clause (is_short c.args.edge) c.args.entries.now _ c.partition_point.ensures.partitioned (short-partitioned c.args.edge c.args.entries.now c.requires) (λ a r q k. search rules)
