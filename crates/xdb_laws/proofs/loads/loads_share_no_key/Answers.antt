-- The law `loads_share_no_key`, by its lemmas.
use Rattle.xdb_laws.proofs.LevelLaws.{loads-apart, apart-by_level}
use Rattle.xdb_laws.proofs.loads.loads_share_no_key.Goals as goal

pub returns : goal.returns
returns c = record { tables = loads-apart; levels = apart-by_level }
