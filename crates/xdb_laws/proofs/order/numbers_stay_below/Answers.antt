-- The law `numbers_stay_below`, by its lemmas.
use Rattle.xdb_laws.proofs.PlaceLaws.{numbers-committed, numbers-marked, numbers-drawn}
use Rattle.xdb_laws.proofs.order.numbers_stay_below.Goals as goal

pub returns : goal.returns
returns c = record { committed = numbers-committed; marked = numbers-marked; drawn = numbers-drawn }
