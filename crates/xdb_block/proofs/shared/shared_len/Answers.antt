use Rattle.std.proofs.Common.{arith}
use Rattle.xdb_block.proofs.Ranges.{common_ends}
use Rattle.xdb_block.proofs.shared.shared_len.Goals as goal

pub returns-else-len-b : goal.returns-else-len-b
returns-else-len-b c =
    let left = c.loop-len.invariant.left in
    let none = common_ends c.args.a.now c.args.b.now c.loop-len.len (omega arith) in
    omega (arith, left, none)
