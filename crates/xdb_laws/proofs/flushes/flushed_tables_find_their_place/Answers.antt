-- The law `flushed_tables_find_their_place`, by its lemmas.
use Rattle.xdb_laws.proofs.FlushLaws.{table-placed, table-new, table-stays}
use Rattle.xdb_laws.proofs.flushes.flushed_tables_find_their_place.Goals as goal

pub returns : goal.returns
returns c = record { place = table-placed; new = table-new; stays = table-stays }
