use Rattle.std.proofs.Common.{refl}
use Rattle.std.specs.Fmt.{digits}
use Rattle.xdb_script.proofs.rows.snapshots.Goals as goal

pub returns : goal.returns
unfolding digits
returns c = refl
