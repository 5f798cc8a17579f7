-- The law `cover_of_parts`, by its lemmas.
use Rattle.xdb_rangedel.proofs.CoverLaws.{cover_of-parts_in, cover_of-parts_before, cover_of-parts_from, cover_of-pieces}
use Rattle.xdb_rangedel.proofs.laws.cover_of_parts.Goals as goal

pub returns : goal.returns
returns c = record { range = cover_of-parts_in; before = cover_of-parts_before; from = cover_of-parts_from; pieces = cover_of-pieces }
