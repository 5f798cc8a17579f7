use Rattle.std.proofs.Common.{sym, subst, arith}
use Rattle.xdb_gen.proofs.NumberLaws.{are_numbered-push}
use Rattle.xdb_gen.specs.Said.{AreNumbered}
use Rattle.xdb_gen.proofs.draft.Draft.say.Goals as goal

-- src/draft.rt:92:5
pub invariant_of-self-2 : goal.invariant_of-self-2
invariant_of-self-2 c =
    let len = c.len.ensures in
    let length_is = c.self.inside.lines.ok.0 in
    subst AreNumbered (sym c.in_ok-push.ensures.items) (are_numbered-push c.self.inside.lines.items _ c.self.invariant (omega arith))
