use Rattle.std.proofs.Common.{subst, sym}
use Rattle.xdb_plain.proofs.HistoryLaws.{legal_push}
use Rattle.xdb_plain.specs.Steps.{MayStand}
use Rattle.xdb_history.specs.Recorded.{state_of}
use Rattle.xdb_history.proofs.history.History.push.Goals as goal

pub invariant_of-self : goal.invariant_of-self
invariant_of-self c =
    let stands = subst (λ h. MayStand (state_of h) c.args.note) (sym c.self.view_is) c.requires.stands in
    rw c.push_reserved.ensures.items (legal_push _ _ _ c.self.invariant stands)
