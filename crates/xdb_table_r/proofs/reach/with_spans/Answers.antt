use Rattle.std.proofs.Common.{List, ◌++◌, map, subst, arith}
use Rattle.xdb_key.specs.Entries.{Tombstone}
use Rattle.std.proofs.lemmas.List.{take_all}
use Rattle.xdb_table_r.specs.Reaches.{span_reach, IsExtentOf}
use Rattle.xdb_table_r.proofs.ReachLaws.{extent_pushed}
use Rattle.xdb_table_r.proofs.reach.with_spans.Goals as goal

pub loop-span-preserved : goal.loop-span-preserved
loop-span-preserved c = λ before h. extent_pushed span_reach c.args.spans.now c.loop-span.span-index c.span-item.result before c.loop-span.so_far c.in_ok-one.one c.widened.result (omega arith) (cc) c.in_ok-one.ensures c.widened.ensures (c.loop-span.invariant before h)

pub returns : goal.returns
returns c = λ before h. subst (λ (ts : List Tombstone). IsExtentOf (before ++ map span_reach ts) c.loop-span.so_far) (take_all c.loop-span.span-index c.args.spans.now (omega arith)) (c.loop-span.invariant before h)
