-- What is left to answer of `first_touching`.
use Rattle.std.proofs.Common.{◌+◌, true, false, [], ◌∷◌, length, Some, sym, ap, ◌∙◌}
use Rattle.xdb_key.specs.Groups.{first_touching}
use Rattle.xdb_mem.specs.Queue.{group, groups}
use Rattle.xdb_mem.specs.KeptQueue.{groups_from}
use Rattle.xdb_mem.proofs.FindLaws.{first-some, first-active}
use Rattle.xdb_mem.proofs.queue.MemQueue.first_touching.Goals as goal

pub returns-then-is_some : goal.returns-then-is_some
returns-then-is_some c =
    let ms = c.self.inside.sealed.items in
    let found = c.first_in-sealed.ensures ∙ ap (λ xs. first_touching c.args.ranges.now (groups_from c.self.inside.oldest xs)) c.deref.ensures.value in
    first-some c.args.ranges.now (groups_from c.self.inside.oldest ms) (group (c.self.inside.oldest + length ms) c.self.inside.active ∷ []) c.first_in-sealed.result (sym c.is_some.ensures ∙ c.if-is_some.true) found
    ∙ ap (λ q. first_touching c.args.ranges.now (groups q)) c.self.view_is

pub returns-then-touches : goal.returns-then-touches
returns-then-touches c =
    let ms = c.self.inside.sealed.items in
    let found = c.first_in-sealed.ensures ∙ ap (λ xs. first_touching c.args.ranges.now (groups_from c.self.inside.oldest xs)) c.deref.ensures.value in
    ap Some (c.active_group.ensures.num ∙ sym (ap (λ q. q.active.num) c.self.view_is))
    ∙ sym (first-active c.args.ranges.now (groups_from c.self.inside.oldest ms) (group (c.self.inside.oldest + length ms) c.self.inside.active) c.first_in-sealed.result true (sym c.is_some.ensures ∙ c.if-is_some.false) found (sym c.touches.ensures ∙ c.if-touches.true))
    ∙ ap (λ q. first_touching c.args.ranges.now (groups q)) c.self.view_is

pub returns-else-touches : goal.returns-else-touches
returns-else-touches c =
    let ms = c.self.inside.sealed.items in
    let found = c.first_in-sealed.ensures ∙ ap (λ xs. first_touching c.args.ranges.now (groups_from c.self.inside.oldest xs)) c.deref.ensures.value in
    sym (first-active c.args.ranges.now (groups_from c.self.inside.oldest ms) (group (c.self.inside.oldest + length ms) c.self.inside.active) c.first_in-sealed.result false (sym c.is_some.ensures ∙ c.if-is_some.false) found (sym c.touches.ensures ∙ c.if-touches.false))
    ∙ ap (λ q. first_touching c.args.ranges.now (groups q)) c.self.view_is
