-- The law `parts_are_the_map`, by its lemmas.
use Rattle.xdb_laws.proofs.PartLaws.{parts-clear, parts-alike}
use Rattle.xdb_laws.proofs.asks.parts_are_the_map.Goals as goal

pub returns : goal.returns
returns c = record { clear = parts-clear; alike = parts-alike }
