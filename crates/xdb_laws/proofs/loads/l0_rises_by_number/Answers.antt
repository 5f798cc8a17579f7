-- The law `l0_rises_by_number`, by its lemmas.
use Rattle.xdb_laws.proofs.LevelLaws.{rise-loaded, rise-flushed, group-apart, rise-filter}
use Rattle.xdb_laws.proofs.loads.l0_rises_by_number.Goals as goal

pub returns : goal.returns
returns c = record { loaded = rise-loaded; flushed = rise-flushed; group = group-apart; less = rise-filter }
