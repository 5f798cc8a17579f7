-- The law `compactions_stay_under_way`, by its lemmas.
use Rattle.xdb_laws.proofs.UnderWayLaws.{way-committed, way-sealed, way-flush_edit, way-compacted}
use Rattle.xdb_laws.proofs.versions.compactions_stay_under_way.Goals as goal

pub returns : goal.returns
returns c = record {
  committed = way-committed;
  sealed = λ content groups levels level inputs given floor. way-sealed content groups levels level inputs given floor;
  flushed = way-flush_edit;
  compacted = λ content groups levels level other inputs given taken floor e. way-compacted content groups levels level inputs given floor other taken e;
}
