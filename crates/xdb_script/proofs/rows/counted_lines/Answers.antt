use Rattle.std.proofs.Common.{refl}
use Rattle.std.specs.Fmt.{digits}
use Rattle.xdb_script.proofs.rows.counted_lines.Goals as goal

pub returns : goal.returns
unfolding digits
returns c = refl
