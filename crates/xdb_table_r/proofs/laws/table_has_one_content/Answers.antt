use Rattle.xdb_table_r.proofs.OneLaws.{one_points, one_spans}
use Rattle.xdb_table_r.proofs.laws.table_has_one_content.Goals as goal

pub returns-clause-points : goal.returns-clause-points
returns-clause-points c = one_points

pub returns-clause-spans : goal.returns-clause-spans
returns-clause-spans c = one_spans
