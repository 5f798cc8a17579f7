use Rattle.xdb_table_w.proofs.FragmentRows.{in_order}
use Rattle.xdb_table_w.proofs.laws.fragments_stand_in_order.Goals as goal

pub returns : goal.returns
returns c = in_order
