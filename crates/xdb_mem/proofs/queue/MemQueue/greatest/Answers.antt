-- What is left to answer of `greatest`.
use Rattle.std.proofs.Common.{subst}
use Rattle.xdb_mem.specs.Queue.{IsQueue}
use Rattle.xdb_mem.proofs.QueueLaws.{kept-queue}
use Rattle.xdb_mem.proofs.queue.MemQueue.greatest.Goals as goal

pub returns-clause-queue : goal.returns-clause-queue
returns-clause-queue c = subst IsQueue c.self.view_is (kept-queue c.self.inside.oldest c.self.inside.sealed.items c.self.inside.active c.self.inside.greatest _ c.self.invariant)
