-- The layers say what the memtables and the views say.
use Rattle.std.proofs.Common.{IfOk, subst, sym}
use Rattle.xdb_merge.specs.Merge.{Merge, layers}
use Rattle.xdb_merge.specs.Moves.{step_of, IsLanded}
use Rattle.xdb_merge.specs.Sources.{AreAlike}
use Rattle.xdb_merge.proofs.MoveLaws.{landed_alike}
use Rattle.xdb_merge.proofs.merged.Merged.moved.Goals as goal

pub returns : goal.returns
returns g c =
    let s = c.self.inside in
    let ms = layers s.mem.now s.sources.items in
    let step = step_of c.args.to in
    subst (λ (m : Merge g.row.F.Denot). IfOk c.landed.result (λ l. IsLanded (layers m.mem m.walks) m.bounds m.at m.place step l.0 l.1)) c.self.view_is
    (landed_alike c.landed.result c.deref.result.now ms s.bounds s.at s.place step
    (subst (λ ls. AreAlike ls ms) (sym c.deref.ensures.value) c.in_ok-layers.ensures) c.landed.ensures)
