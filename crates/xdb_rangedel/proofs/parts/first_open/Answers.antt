-- What is left to answer of `first_open`.
use Rattle.std.proofs.Common.{rules}
use Rattle.std.proofs.lemmas.List.Sorted.{IsPartitionPoint-from_clause}
use Rattle.xdb_rangedel.specs.Sweep.{is_passed}
use Rattle.xdb_rangedel.proofs.PartLaws.{is_passed-partitioned}
use Rattle.xdb_rangedel.proofs.parts.first_open.Goals as goal

pub returns-clause-split : goal.returns-clause-split
returns-clause-split c = IsPartitionPoint-from_clause (is_passed c.args.key.now c.args.below) c.args.spans.now _ c.partition_point.ensures.partitioned (is_passed-partitioned c.args.key.now c.args.below c.args.spans.now c.requires) (λ a r q k. search rules)
