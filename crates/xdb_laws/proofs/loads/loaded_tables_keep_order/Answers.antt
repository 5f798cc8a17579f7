-- The law `loaded_tables_keep_order`, by its lemmas.
use Rattle.xdb_laws.proofs.JoinLaws.{join-places}
use Rattle.xdb_laws.proofs.LevelLaws.{fresh-stands, loads-around}
use Rattle.xdb_laws.proofs.loads.loaded_tables_keep_order.Goals as goal

pub returns : goal.returns
returns c = record { order = join-places; number = fresh-stands; around = loads-around }
