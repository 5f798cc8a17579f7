-- What is left to answer of `write_output`.
use Rattle.std.proofs.Common.{◌∙◌, ◌++◌, ◌∷◌, [], ap, sym}
use Rattle.xdb_work.proofs.WorkLaws.{held_more}
use Rattle.xdb_build.proofs.TryLaws.{tries_more, failed_stops}
use Rattle.xdb_build.proofs.series.write_output.Goals as goal

pub returns-in_err-meta-clause-stops : goal.returns-in_err-meta-clause-stops
returns-in_err-meta-clause-stops g c =
    failed_stops c.from_residual-in_err-meta.result c.in_err-meta.field-0.0 c.args.num c.args.tried.now.items c.create_table.new.tried.items c.in_ok-table.table.bytes.items (g.D.Reader.told c.args.dev.now) (g.D.Reader.told c.create_table.new.dev)
    c.from_residual-in_err-meta.ensures.0 c.from_residual-in_err-meta.ensures.1 (c.create_table.ensures.tried ∙ ap (λ ns. ns ++ c.args.num ∷ []) c.in_ok-try_reserve.ensures.items) c.in_err-meta.ensures.told

pub returns-clause-goes : goal.returns-clause-goes
returns-clause-goes g c = λ reserved i start next before.
    tries_more reserved i c.args.num c.args.tried.now.items c.create_table.new.tried.items c.in_ok-table.table.bytes.items (c.in_ok-meta.meta, c.in_ok-meta.file) start (g.D.Reader.told c.args.dev.now) (g.D.Reader.told c.create_table.new.dev)
    next before (c.create_table.ensures.tried ∙ ap (λ ns. ns ++ c.args.num ∷ []) c.in_ok-try_reserve.ensures.items) c.in_ok-meta.ensures.told

pub returns-clause-held : goal.returns-clause-held
returns-clause-held g c = λ files apart before.
    held_more g.D.File.FileRef.size g.D.File.FileRef.bytes (g.D.Reader.told c.args.dev.now).holds (g.D.Reader.told c.create_table.new.dev).holds c.args.num c.in_ok-table.table.bytes.items c.in_ok-meta.file files
    apart c.in_ok-meta.ensures.told.held (sym c.in_ok-meta.ensures.size) c.in_ok-meta.ensures.bytes before
