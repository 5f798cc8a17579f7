-- What is left to answer of `first_from`.
use Rattle.std.proofs.Common.{rules}
use Rattle.std.proofs.lemmas.List.Sorted.{IsPartitionPoint-from_clause}
use Rattle.xdb_rangedel.specs.Sweep.{starts_before}
use Rattle.xdb_rangedel.proofs.PartLaws.{starts_before-partitioned}
use Rattle.xdb_rangedel.proofs.parts.first_from.Goals as goal

pub returns-clause-split : goal.returns-clause-split
returns-clause-split c = IsPartitionPoint-from_clause (starts_before c.args.at.now) c.args.spans.now _ c.partition_point.ensures.partitioned (starts_before-partitioned c.args.at.now c.args.spans.now c.requires) (λ a r q k. search rules)
