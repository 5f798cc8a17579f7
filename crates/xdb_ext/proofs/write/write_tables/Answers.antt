-- What is left to answer of `write_tables`.
use Rattle.xdb_ext.proofs.LoadLaws.{given_first, given_told}
use Rattle.xdb_ext.proofs.write.write_tables.Goals as goal

pub returns-in-Ok-clause-first : goal.returns-in-Ok-clause-first
returns-in-Ok-clause-first g c =
    given_first g.D.File.FileRef.size g.D.File.FileRef.bytes c.args.given.now c.tables-tables.result.now c.in-Ok.files.items c.tables-tables.ensures.tables c.in-Ok.ensures.fits

pub returns-in-Ok-clause-told : goal.returns-in-Ok-clause-told
returns-in-Ok-clause-told g c =
    given_told g.D.File.FileRef.size g.D.File.FileRef.bytes c.args.given.now c.tables-tables.result.now c.write_files.new.tried.items c.in-Ok.files.items (g.D.Reader.told c.args.dev.now) (g.D.Reader.told c.write_files.new.dev)
    (λ never. absurd (cc)) c.tables-tables.ensures.tables c.in-Ok.ensures.fits c.in-Ok.ensures.all c.in-Ok.ensures.told
