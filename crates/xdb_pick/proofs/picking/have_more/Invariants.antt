-- The bytes of the first tables, which aren't more.
use Rattle.std.proofs.Common.{◌≡◌, ◌≤◌, map, sum, take}
use Rattle.xdb_pick.proofs.picking.have_more.Given as goal

abbrev pub invariant-loop-table : goal.invariant-loop-table
invariant-loop-table l = record {
  same : l.bytes ≡ sum (map (λ t. t.size) (take l.table-index l.tables));
  within : l.bytes ≤ l.most;
}
