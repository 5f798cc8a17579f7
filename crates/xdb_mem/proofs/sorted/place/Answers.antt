-- What is left to answer of `place`.
use Rattle.std.proofs.Common.{rules, arith}
use Rattle.std.proofs.lemmas.List.Sorted.{IsPartitionPoint-from_clause}
use Rattle.xdb_key.specs.Entries.{Point}
use Rattle.xdb_mem.specs.InOrder.{comes_before}
use Rattle.xdb_mem.proofs.InOrderLaws.{before-partitioned}
use Rattle.xdb_mem.proofs.sorted.place.Goals as goal

pub returns-clause-split : goal.returns-clause-split
returns-clause-split c = IsPartitionPoint-from_clause (λ (p : Point). comes_before p c.args.entry.now) c.args.entries.now _ c.partition_point.ensures.partitioned (before-partitioned c.args.entry.now c.args.entries.now c.requires) (λ a r q k. search rules)

-- all entries stand before it
pub returns-then-is_last-clause-split : goal.returns-then-is_last-clause-split
returns-then-is_last-clause-split c = (λ k d from less. c.is_last.ensures c.if-is_last.true k d (omega arith), λ k d from less. absurd (omega arith))
