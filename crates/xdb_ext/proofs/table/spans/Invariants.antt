-- What the loop of `spans` keeps.
use Rattle.std.proofs.Common.{◌≡◌, take, IsTrue}
use Rattle.std.specs.List.{All}
use Rattle.xdb_rangedel.specs.Pieces.{is_ordered}
use Rattle.xdb_ext.specs.Operations.{spans_of}
use Rattle.xdb_ext.proofs.table.spans.Given as goal

abbrev pub invariant-loop-op : goal.invariant-loop-op
invariant-loop-op l = record {
  made : l.out.items ≡ spans_of (take l.op-index l.ops);
  ordered : All (λ t. IsTrue (is_ordered t)) l.out.items;
}
