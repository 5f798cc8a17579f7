-- What the search finds is what stands under the number.
use Rattle.std.proofs.Common.{Some, ap, ◌∙◌}
use Rattle.xdb_vset.specs.declared.files.Backing.{Backing}
use Rattle.xdb_vset.specs.Backings.{file_in}
use Rattle.xdb_vset.specs.FileLists.{FileLists}
use Rattle.xdb_vset.proofs.FileLaws.{file_found, file_missing}
use Rattle.xdb_vset.proofs.files.Files.file.Goals as goal

pub returns-in-Ok : goal.returns-in-Ok
returns-in-Ok g c =
    let place = rw c.deref.ensures.value at c.in-Ok.ensures in
    ap (λ (x : Backing g.row.F.Denot). Some x.file) c.index.ensures
    ∙ file_found c.self.inside.named.items c.args.num c.in-Ok.at c.index.result.now c.self.invariant.0.named_rise place.0 place.1
    ∙ ap (λ (f : FileLists g.row.F.Denot). file_in c.args.num f.named) c.self.view_is

pub returns-in-Err : goal.returns-in-Err
returns-in-Err g c =
    let place = rw c.deref.ensures.value at c.in-Err.ensures in
    file_missing c.self.inside.named.items c.args.num c.in-Err.field-0 place ∙ ap (λ (f : FileLists g.row.F.Denot). file_in c.args.num f.named) c.self.view_is
