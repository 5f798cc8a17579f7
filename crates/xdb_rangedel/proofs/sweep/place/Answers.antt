-- What is left to answer of `place`.
use Rattle.std.proofs.Common.{rules}
use Rattle.std.proofs.lemmas.List.Sorted.{IsPartitionPoint-from_clause}
use Rattle.xdb_key.specs.Order.{is_below}
use Rattle.xdb_rangedel.proofs.StripLaws.{rising-partitioned, place_of-split}
use Rattle.xdb_rangedel.proofs.sweep.place.Goals as goal

pub returns : goal.returns
returns c =
    place_of-split c.args.bound.now c.args.bounds.now _ c.partition_point.ensures.bound
    (IsPartitionPoint-from_clause (λ b. is_below b c.args.bound.now) c.args.bounds.now _ c.partition_point.ensures.partitioned (rising-partitioned c.args.bound.now c.args.bounds.now c.requires) (λ a r q k. search rules))
