-- The law `placed_tables_meet_nothing_above`, by its lemmas.
use Rattle.xdb_laws.proofs.RoomLaws.{place-levels, place-running, bounds-apart}
use Rattle.xdb_laws.proofs.loads.placed_tables_meet_nothing_above.Goals as goal

pub returns : goal.returns
returns c = record { levels = place-levels; running = place-running; apart = bounds-apart }
