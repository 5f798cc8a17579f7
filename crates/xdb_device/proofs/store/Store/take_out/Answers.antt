use Rattle.std.proofs.Common.{ap, ◌∙◌, [], ◌∷◌, ◌++◌}
use Rattle.std.specs.FinMap as map
use Rattle.xdb_device.specs.Store.{Kept}
use Rattle.xdb_device.proofs.Held.{from_entries-remove, same_kept}
use Rattle.xdb_device.proofs.store.Store.take_out.Goals as goal

pub returns-clause-ok : goal.returns-clause-ok
returns-clause-ok c =
    same_kept _ _
    (ap (λ (k : Kept). k.creations) c.self.view_is)
    (c.in_ok-push.ensures.items ∙ ap (λ (k : Kept). k.removals ++ c.args.num ∷ []) c.self.view_is)
    (from_entries-remove _ _ _ c.remove.ensures.updates.0 ∙ ap (λ (k : Kept). map.remove k.holds c.args.num) c.self.view_is)
