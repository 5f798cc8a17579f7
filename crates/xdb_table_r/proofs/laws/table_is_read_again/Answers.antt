use Rattle.xdb_table_r.proofs.FooterLaws.{opened_again, all_points_again}
use Rattle.xdb_table_r.proofs.laws.table_is_read_again.Goals as goal

pub returns-clause-opened : goal.returns-clause-opened
returns-clause-opened c = opened_again

pub returns-clause-points : goal.returns-clause-points
returns-clause-points c = all_points_again
