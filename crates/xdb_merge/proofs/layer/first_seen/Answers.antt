-- What is left to answer of `first_seen`.
use Rattle.std.proofs.Common.{◌≡◌, true, false, rules}
use Rattle.std.proofs.lemmas.List.Sorted.{IsPartitionPoint-from_clause}
use Rattle.xdb_key.specs.Order.{is_upto}
use Rattle.xdb_merge.specs.Search.{is_passed}
use Rattle.xdb_merge.proofs.SortedLaws.{passed-partitioned, seen_found, seen_behind, seen_past}
use Rattle.xdb_merge.proofs.layer.first_seen.Goals as goal
use Rattle.xdb_merge.proofs.layer.first_seen.Goals.{then-place-entries+else-is_upto, else-place-entries}

pub returns-then-is_upto : goal.returns-then-is_upto
returns-then-is_upto c =
    let key = c.args.key.now in
    let split = IsPartitionPoint-from_clause (is_passed c.args.at key) c.args.entries.now _ c.partition_point-place.ensures.partitioned (passed-partitioned c.args.at key c.args.entries.now c.requires) (λ a r q k. search rules) in
    let upto : is_upto c.index-entries-place.result.key key ≡ true = cc in
    seen_found c.args.at key c.args.entries.now _ _ split c.if-place-entries.true c.index-entries-place.is upto

pub returns : goal.returns
returns c =
    let key = c.args.key.now in
    let split = IsPartitionPoint-from_clause (is_passed c.args.at key) c.args.entries.now _ c.partition_point-place.ensures.partitioned (passed-partitioned c.args.at key c.args.entries.now c.requires) (λ a r q k. search rules) in
    elim c.if-place-entries.branch [
      | then-place-entries+else-is_upto w ↦
          let behind : is_upto w.index-entries-place.result.key key ≡ false = cc in
          seen_behind c.args.at key c.args.entries.now _ _ c.requires split w.if-place-entries.true w.index-entries-place.is behind
      | else-place-entries w ↦ seen_past c.args.at key c.args.entries.now _ split w.if-place-entries.false
    ]
