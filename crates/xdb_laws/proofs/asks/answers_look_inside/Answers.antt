-- The law `answers_look_inside`, by its lemmas.
use Rattle.xdb_laws.proofs.AnswerLaws.{answered-alike, inside-bounds, answered-now}
use Rattle.xdb_laws.proofs.asks.answers_look_inside.Goals as goal

pub returns : goal.returns
returns c = record { alike = answered-alike; bounds = inside-bounds; now = answered-now }
