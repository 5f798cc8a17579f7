-- What is left to answer of `first_from`.
use Rattle.std.proofs.Common.{rules}
use Rattle.std.proofs.lemmas.List.Sorted.{IsPartitionPoint-from_clause}
use Rattle.xdb_key.specs.Entries.{Point}
use Rattle.xdb_key.specs.Order.{is_below}
use Rattle.xdb_mem.proofs.InOrderLaws.{key-partitioned}
use Rattle.xdb_mem.proofs.sorted.first_from.Goals as goal

pub returns-clause-split : goal.returns-clause-split
returns-clause-split c = IsPartitionPoint-from_clause (λ (p : Point). is_below p.key c.args.at.now) c.args.entries.now _ c.partition_point.ensures.partitioned (key-partitioned c.args.at.now c.args.entries.now c.requires) (λ a r q k. search rules)
