-- The question stands behind the others.
use Rattle.std.proofs.Common.{[], ◌∷◌, ◌++◌, sym, ap, ◌∙◌, subst}
use Rattle.xdb_engine.specs.Questions.{AreAsks}
use Rattle.xdb_engine.proofs.AskLaws.{asks-opened}
use Rattle.xdb_engine.proofs.asks.Asks.open.Goals as goal

pub invariant_of-self-2 : goal.invariant_of-self-2
invariant_of-self-2 g c =
    let few = rw (← c.self.view_is) at c.requires.few in
    let last = rw (← c.self.view_is) at c.requires.last in
    subst (AreAsks g.F.FileRef.bytes) (sym (c.push_reserved.ensures.items ∙ ap (λ qs. qs ++ c.new.result ∷ []) c.try_reserve.ensures.items))
    (asks-opened g.F.FileRef.bytes c.args.question c.in_ok-hold.hold c.new.result c.self.inside.questions.items c.new.ensures c.self.invariant few last c.requires.bare c.requires.clear c.requires.waits)
