-- What is left to answer of `seal`.
use Rattle.std.proofs.Common.{◌≡◌, ◌≤◌, ◌++◌, [], ◌∷◌, ◌==◌, false, length, sym, ap, ◌∙◌, arith}
use Rattle.std.proofs.lemmas.Bool.{eqb-false, cond-false}
use Rattle.xdb_mem.specs.Queue.{sealed_once}
use Rattle.xdb_mem.proofs.QueueLaws.{sealed-kept, sealed-queue}
use Rattle.xdb_mem.proofs.queue.MemQueue.seal.Goals as goal

pub invariant_of-self : goal.invariant_of-self
invariant_of-self c =
    let ms = c.self.inside.sealed.items in
    let a = c.self.inside.active in
    let pushed = c.in-Ok.ensures.items ∙ ap (λ x. ms ++ x ∷ []) c.replace-full.ensures.value in
    let some : 1 ≤ length a = omega (arith, eqb-false (length a) 0 (sym c.is_empty.ensures ∙ c.if-is_empty.false)) in
    sealed-kept c.self.inside.oldest ms c.push.new.self.items a c.replace-full.new.dest c.self.inside.greatest _ _ c.self.invariant some pushed (c.replace-full.ensures.after ∙ c.new.ensures)

pub returns-clause-after : goal.returns-clause-after
returns-clause-after c =
    let ms = c.self.inside.sealed.items in
    let a = c.self.inside.active in
    let pushed = c.in-Ok.ensures.items ∙ ap (λ x. ms ++ x ∷ []) c.replace-full.ensures.value in
    let other : (length c.args.self.now.active.ops == 0) ≡ false = ap (λ q. length q.active.ops == 0) (sym c.self.view_is) ∙ (sym c.is_empty.ensures ∙ c.if-is_empty.false) in
    sealed-queue c.self.inside.oldest ms c.push.new.self.items a c.replace-full.new.dest c.self.inside.greatest pushed (c.replace-full.ensures.after ∙ c.new.ensures)
    ∙ ap sealed_once c.self.view_is ∙ sym (cond-false (length c.args.self.now.active.ops == 0) c.args.self.now (sealed_once c.args.self.now) other)
