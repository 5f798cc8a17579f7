-- What is left to answer of `first_behind`.
use Rattle.std.proofs.Common.{rules}
use Rattle.std.proofs.lemmas.List.Sorted.{IsPartitionPoint-from_clause}
use Rattle.xdb_rangedel.specs.Sweep.{ends_by}
use Rattle.xdb_rangedel.proofs.PartLaws.{ends_by-partitioned}
use Rattle.xdb_rangedel.proofs.parts.first_behind.Goals as goal

pub returns-clause-split : goal.returns-clause-split
returns-clause-split c = IsPartitionPoint-from_clause (ends_by c.args.at.now) c.args.spans.now _ c.partition_point.ensures.partitioned (ends_by-partitioned c.args.at.now c.args.spans.now c.requires) (λ a r q k. search rules)
