-- What is left to answer of `outputs_show_their_files`.
use Rattle.xdb_build.proofs.ShownLaws.{tables_show, flush_shows}
use Rattle.xdb_build.proofs.laws.outputs_show_their_files.Goals as goal

pub returns : goal.returns
returns g c = record {
  tables = tables_show g.F.FileRef.size g.F.FileRef.bytes;
  flushed = flush_shows g.F.FileRef.size g.F.FileRef.bytes;
}
