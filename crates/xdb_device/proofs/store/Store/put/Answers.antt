use Rattle.std.proofs.Common.{ap, ◌∙◌, List, ℕ}
use Rattle.std.specs.FinMap as map
use Rattle.xdb_device.specs.Store.{Kept}
use Rattle.xdb_device.proofs.Held.{from_entries-insert, same_kept}
use Rattle.xdb_device.proofs.store.Store.put.Goals as goal

pub returns-clause-ok : goal.returns-clause-ok
returns-clause-ok c =
    same_kept _ _
    (ap (λ (k : Kept). k.creations) c.self.view_is)
    (ap (λ (k : Kept). k.removals) c.self.view_is)
    (from_entries-insert _ _ _ _ c.in_ok-insert.ensures.updates.0
    ∙ ap (λ (k : Kept). map.insert k.holds c.args.num c.in_ok-share.field-0) c.self.view_is
    ∙ ap (λ (bytes : List ℕ). map.insert c.args.self.now.holds c.args.num bytes) (c.in_ok-share.ensures ∙ c.in_ok-file.ensures))
