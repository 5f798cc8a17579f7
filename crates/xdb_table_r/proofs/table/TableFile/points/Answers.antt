use Rattle.std.proofs.Common.{◌∙◌, sym, ap}
use Rattle.xdb_table_r.specs.Tables.{Table, listed}
use Rattle.xdb_table_r.specs.Views.{range_of}
use Rattle.xdb_table_r.proofs.GoneLaws.{told_none}
use Rattle.xdb_table_r.proofs.table.TableFile.points.Goals as goal

pub returns-in-None-clause-tells : goal.returns-in-None-clause-tells
returns-in-None-clause-tells g c =
    let w = c.args.window.now in
    told_none (g.F.FileRef.bytes c.args.self.now.file) (range_of w) w.synthetic c.args.self.now.index c.new.result.items (ap (λ (t : Table _). t.index) (sym c.self.view_is) ∙ ap listed c.in-None.is) c.new.ensures.items
