-- The law `untouched_groups_are_silent`, by its lemmas.
use Rattle.xdb_laws.proofs.ExciseLaws.{silent-apart}
use Rattle.xdb_laws.proofs.TouchLaws.{silent-untouched}
use Rattle.xdb_laws.proofs.excises.untouched_groups_are_silent.Goals as goal

pub returns : goal.returns
returns c = record {
  silent = λ fence gs r none has k held. silent-untouched fence gs r k none has held;
  apart = silent-apart;
}
