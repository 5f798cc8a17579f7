-- What is left to answer of `meets_any`.
use Rattle.std.proofs.Common.{ap, ◌∙◌, rules}
use Rattle.std.proofs.lemmas.List.Sorted.{IsPartitionPoint-from_clause}
use Rattle.xdb_key.specs.Order.{is_below}
use Rattle.xdb_rangedel.specs.Sweep.{ends_by}
use Rattle.xdb_rangedel.proofs.PartLaws.{ends_by-partitioned}
use Rattle.xdb_stripes.proofs.FloorLaws.{Split, met_there, met_none}
use Rattle.xdb_stripes.proofs.floor.meets_any.Goals as goal

pub returns-then-at-pieces : goal.returns-then-at-pieces
returns-then-at-pieces c =
    let lo = c.args.range.now.lo in
    let ts = c.args.pieces.now in
    let start = c.bytes-lo.ensures.bytes ∙ c.lo.ensures.lo in
    let s : Split c.args.range.now ts c.partition_point-at.result = record {
      fragments = c.requires;
      split = IsPartitionPoint-from_clause (ends_by lo) ts _ c.partition_point-at.ensures.partitioned (ends_by-partitioned lo ts c.requires) (λ a r q k. search (rules, start));
    } in
    let lows = c.bytes.ensures.bytes ∙ c.lo-then-at-pieces.ensures.lo ∙ ap (λ r. r.lo) c.range.ensures in
    let his = c.bytes-then-at-pieces.ensures.bytes ∙ c.hi.ensures in
    c.is_below.ensures ∙ (λ i. is_below (lows i) (his i)) ∙ met_there c.args.range.now ts c.partition_point-at.result c.index-pieces-at.result s c.if-at-pieces.true c.index-pieces-at.is

pub returns : goal.returns
returns c =
    let lo = c.args.range.now.lo in
    let ts = c.args.pieces.now in
    let start = c.bytes-lo.ensures.bytes ∙ c.lo.ensures.lo in
    let s : Split c.args.range.now ts c.partition_point-at.result = record {
      fragments = c.requires;
      split = IsPartitionPoint-from_clause (ends_by lo) ts _ c.partition_point-at.ensures.partitioned (ends_by-partitioned lo ts c.requires) (λ a r q k. search (rules, start));
    } in
    met_none c.args.range.now ts c.partition_point-at.result s c.if-at-pieces.false
