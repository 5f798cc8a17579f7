-- What is left to answer of `put`.
use Rattle.std.proofs.Common.{sym, subst}
use Rattle.xdb_mem.specs.InOrder.{AreInOrder}
use Rattle.xdb_mem.proofs.InOrderLaws.{put-ordered, put-members, stands-members}
use Rattle.xdb_mem.proofs.sorted.put.Goals as goal

pub returns-then-stands_at-clause-members : goal.returns-then-stands_at-clause-members
returns-then-stands_at-clause-members c = λ numbered.
    let split = rw c.deref.ensures.value at c.place-at.ensures.split in
    let yes = rw c.deref-2.ensures.value at (c.stands_at.ensures.yes c.if-stands_at.true) in
    stands-members c.args.entries.now.items c.place-at.result c.args.entry split yes.0 yes.1 numbered

pub returns-clause-order : goal.returns-clause-order
returns-clause-order c =
    let split = rw c.deref.ensures.value at c.place-at.ensures.split in
    let no = rw c.deref-2.ensures.value at (c.stands_at.ensures.no c.if-stands_at.false) in
    subst AreInOrder (sym c.in_ok-insert.ensures.items) (put-ordered c.args.entries.now.items c.place-at.result c.args.entry c.requires split no)

pub returns-clause-members : goal.returns-clause-members
returns-clause-members c = λ numbered. rw c.in_ok-insert.ensures.items (put-members c.args.entries.now.items c.place-at.result c.args.entry)
