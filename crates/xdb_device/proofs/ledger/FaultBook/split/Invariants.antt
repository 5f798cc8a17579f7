use Rattle.std.proofs.Common.{◌≡◌, ◌+◌, All, vec_len}
use Rattle.xdb_device.proofs.ledger.FaultBook.split.Given as goal

abbrev pub invariant-loop-i : goal.invariant-loop-i
invariant-loop-i g l =
    (l.book.total ≡ 0)
    × (l.rest.parts + l._i ≡ l.n)
    × (l.rest.amount ≡ 0)
    × (vec_len l.shares ≡ l._i)
    × All (λ share. share ≡ 0) l.shares.items
