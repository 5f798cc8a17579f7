-- The search parts the tables that begin before the bound from the others.
use Rattle.std.proofs.Common.{rules}
use Rattle.std.proofs.lemmas.List.Sorted.{IsPartitionPoint-from_clause}
use Rattle.xdb_key.specs.Order.{is_below}
use Rattle.xdb_levels.proofs.MeetingLaws.{starts-partitioned}
use Rattle.xdb_levels.proofs.overlapping.first_from.Goals as goal

pub returns-clause-split : goal.returns-clause-split
returns-clause-split c = IsPartitionPoint-from_clause (λ t. is_below t.lo c.args.at.now) c.args.tables.now _ c.partition_point.ensures.partitioned (starts-partitioned c.args.at.now c.args.tables.now c.requires.disjoint c.requires.ranges) (λ a r q k. search rules)
