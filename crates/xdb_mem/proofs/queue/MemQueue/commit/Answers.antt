-- What is left to answer of `commit`.
use Rattle.std.proofs.Common.{◌<◌, length, vec_capacity, ap, ◌∙◌, arith}
use Rattle.xdb_mem.specs.Queue.{last_number}
use Rattle.xdb_mem.proofs.QueueLaws.{above-active, committed-kept}
use Rattle.xdb_mem.proofs.queue.MemQueue.commit.Goals as goal

pub insert-requires-clause-above : goal.insert-requires-clause-above
insert-requires-clause-above c =
    let seen = ap (λ q. q.greatest) c.self.view_is in
    above-active c.self.inside.oldest c.self.inside.sealed.items c.self.inside.active c.self.inside.greatest _ c.args.first c.self.invariant (omega (arith, c.requires.above, seen))

pub invariant_of-self-2 : goal.invariant_of-self-2
invariant_of-self-2 c =
    let seen = ap (λ q. q.greatest) c.self.view_is in
    let last = c.last_number-self-inside.ensures ∙ ap (last_number c.self.inside.greatest c.args.first) c.ops.ensures.ops in
    let room : length c.self.inside.sealed.items < vec_capacity c.try_reserve.new.self = omega (arith, c.in_ok-try_reserve.ensures.ok, c.try_reserve.ensures.len, c.self.inside.sealed.ok.0) in
    committed-kept c.self.inside.oldest c.self.inside.sealed.items c.try_reserve.new.self.items c.self.inside.active c.insert.new.self c.self.inside.greatest _ _ c.args.first c.last_number-self-inside.result c.args.batch.now
    (record { kept = c.self.invariant; upto = c.requires.upto; above = omega (arith, c.requires.above, seen) }) c.try_reserve.ensures.items c.in_ok-insert.ensures.added last room
