-- The law `cover_is_greatest`, by its lemmas.
use Rattle.xdb_rangedel.proofs.CoverLaws.{cover_of-None, cover_of-Some, cover_of_unordered}
use Rattle.xdb_rangedel.proofs.laws.cover_is_greatest.Goals as goal

pub returns : goal.returns
returns c = record { none = cover_of-None; some = cover_of-Some; order = cover_of_unordered }
