-- More numbers are known.
use Rattle.std.proofs.Common.{ap}
use Rattle.xdb_vset.proofs.SetLaws.{set_lists}
use Rattle.xdb_vset.proofs.set.VersionSet.known.Goals as goal

pub invariant_of-self : goal.invariant_of-self
invariant_of-self g c = (set_lists _ c.know_all.new.self c.self.invariant.0 (ap (λ f. f.named) c.know_all.ensures.rest) c.know_all.ensures.files, c.self.invariant.1)
