-- The law `points_stay`, by its lemma.
use Rattle.xdb_ext.proofs.ContentLaws.{point_stays}
use Rattle.xdb_ext.proofs.laws.points_stay.Goals as goal

pub returns : goal.returns
returns c = point_stays
