-- What is left to answer of `drop_oldest`.
use Rattle.std.proofs.Common.{◌≤◌, length, ap, arith}
use Rattle.xdb_mem.proofs.QueueLaws.{length-groups_from, dropped-kept}
use Rattle.xdb_mem.proofs.queue.MemQueue.drop_oldest.Goals as goal

pub invariant_of-self : goal.invariant_of-self
invariant_of-self c =
    let seen = ap (λ q. length q.sealed) c.self.view_is in
    let some : 1 ≤ length c.self.inside.sealed.items = omega (arith, c.requires, seen, length-groups_from c.self.inside.oldest c.self.inside.sealed.items) in
    dropped-kept c.self.inside.oldest c.self.inside.sealed.items c.remove.new.self.items c.self.inside.active c.self.inside.greatest _ _ c.self.invariant some c.remove.ensures.items c.remove.ensures.capacity
