-- What is left to answer of `end_of_stripe`.
use Rattle.std.proofs.Common.{leb, rules, arith}
use Rattle.std.proofs.lemmas.List.Sorted.{IsPartitionPoint-from_clause, IsPartitionedBy-leb}
use Rattle.std.proofs.lemmas.List.{get_or_default}
use Rattle.xdb_stripes.proofs.StripeLaws.{is_end_at, is_end_above}
use Rattle.xdb_stripes.proofs.stripes.end_of_stripe.Goals as goal

pub returns-then-at-stripes : goal.returns-then-at-stripes
returns-then-at-stripes c =
    let ss = c.args.stripes.now in
    let n = c.args.number in
    is_end_at ss n c.partition_point-at.result _ c.requires.rising (IsPartitionPoint-from_clause (λ s. leb s n) ss _ c.partition_point-at.ensures.partitioned (IsPartitionedBy-leb (λ x. x) ss n c.requires.rising) (λ a r q k. search rules)) c.if-at-stripes.true (get_or_default ss c.partition_point-at.result 0 _ c.if-at-stripes.true)

pub returns-else-at-stripes : goal.returns-else-at-stripes
returns-else-at-stripes c =
    let ss = c.args.stripes.now in
    let n = c.args.number in
    is_end_above ss n c.partition_point-at.result 18446744073709551615 c.requires.small (omega arith) (IsPartitionPoint-from_clause (λ s. leb s n) ss _ c.partition_point-at.ensures.partitioned (IsPartitionedBy-leb (λ x. x) ss n c.requires.rising) (λ a r q k. search rules)) c.if-at-stripes.false
