-- What is left to answer of `touches`.
use Rattle.std.proofs.Common.{ℕ, ◌^◌, ◌∙◌, lit≤}
use Rattle.xdb_key.specs.Ops.{touches}
use Rattle.xdb_key.specs.declared.op.Op.{Op}
use Rattle.xdb_mem.proofs.TouchLaws.{any-unmarked}
use Rattle.xdb_mem.proofs.queue.touches.Goals as goal

pub returns : goal.returns
returns c = c.touches_one_of.ensures.touches ∙ any-unmarked 1 (2 ^ 56) 18446744073709551615 (λ (o : ℕ × Op). touches o.1 c.args.ranges.now) c.args.mem.now c.touches_one_of.ensures.numbers (lit≤ tt)
