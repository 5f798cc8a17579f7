-- What is left to answer of `last_touching`.
use Rattle.std.proofs.Common.{◌+◌, length, Some, sym, ap, ◌∙◌}
use Rattle.xdb_key.specs.Groups.{last_touching}
use Rattle.xdb_mem.specs.Queue.{group, groups}
use Rattle.xdb_mem.specs.KeptQueue.{groups_from}
use Rattle.xdb_mem.proofs.FindLaws.{last-here, last-before}
use Rattle.xdb_mem.proofs.queue.MemQueue.last_touching.Goals as goal

pub returns-then-touches_one_of : goal.returns-then-touches_one_of
returns-then-touches_one_of c =
    let ms = c.self.inside.sealed.items in
    ap Some (c.active_group.ensures.num ∙ sym (ap (λ q. q.active.num) c.self.view_is))
    ∙ sym (last-here c.args.ranges.now c.args.below (groups_from c.self.inside.oldest ms) (group (c.self.inside.oldest + length ms) c.self.inside.active) (sym c.touches_one_of.ensures.touches ∙ c.if-touches_one_of.true))
    ∙ ap (λ q. last_touching c.args.ranges.now c.args.below (groups q)) c.self.view_is

pub returns-else-touches_one_of : goal.returns-else-touches_one_of
returns-else-touches_one_of c =
    let ms = c.self.inside.sealed.items in
    c.last_in.ensures ∙ ap (λ xs. last_touching c.args.ranges.now c.args.below (groups_from c.self.inside.oldest xs)) c.deref.ensures.value
    ∙ sym (last-before c.args.ranges.now c.args.below (groups_from c.self.inside.oldest ms) (group (c.self.inside.oldest + length ms) c.self.inside.active) (sym c.touches_one_of.ensures.touches ∙ c.if-touches_one_of.false))
    ∙ ap (λ q. last_touching c.args.ranges.now c.args.below (groups q)) c.self.view_is
