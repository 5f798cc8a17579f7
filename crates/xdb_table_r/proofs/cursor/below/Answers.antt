use Rattle.std.proofs.Common.{rules}
use Rattle.std.proofs.lemmas.List.Sorted.{IsPartitionPoint-from_clause}
use Rattle.xdb_key.specs.Order.{is_below}
use Rattle.xdb_table_r.proofs.PlaceLaws.{keys_partitioned, place_is}
use Rattle.xdb_table_r.proofs.cursor.below.Goals as goal

pub returns-clause-below : goal.returns-clause-below
returns-clause-below c =
    place_is c.args.key.now c.args.points.now _ c.partition_point.ensures.bound (IsPartitionPoint-from_clause (λ p. is_below p.key c.args.key.now) c.args.points.now _ c.partition_point.ensures.partitioned (keys_partitioned c.args.key.now c.args.points.now c.requires) (λ a r q k. search rules))
