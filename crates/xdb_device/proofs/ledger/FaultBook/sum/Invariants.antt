use Rattle.std.proofs.Common.{◌≡◌, ◌+◌, vec_len, sum}
use Rattle.xdb_device.proofs.ledger.FaultBook.sum.Given as goal

abbrev pub invariant-loop-next : goal.invariant-loop-next
invariant-loop-next g l =
    (l.all.parts + vec_len l.shares ≡ vec_len l.fn.shares)
    × (l.all.amount + sum l.shares.items ≡ sum l.fn.shares.items)

abbrev pub decreases-loop-next : goal.decreases-loop-next
decreases-loop-next g l = vec_len l.shares
