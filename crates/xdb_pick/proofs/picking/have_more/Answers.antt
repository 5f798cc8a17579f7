-- What is more in front is more in all.
use Rattle.std.proofs.Common.{◌+◌, ap, ◌∙◌}
use Rattle.xdb_pick.proofs.WalkLaws.{more_in_front, sum-next}
use Rattle.xdb_pick.proofs.picking.have_more.Goals as goal

pub returns-then-bytes-most : goal.returns-then-bytes-most
returns-then-bytes-most c =
    let i = c.loop-table.table-index in
    let same = ap (λ n. c.loop-table.bytes + n) c.size-bytes.ensures.size ∙ sum-next c.args.tables.now c.loop-table.bytes i c.table-item.result c.loop-table-test.true c.table-item.is c.loop-table.invariant.same in
    more_in_front c.args.tables.now c.args.most (c.loop-table.bytes + c.size-bytes.result) (i + 1) c.if-bytes-most.true same
