use Rattle.xdb_model.proofs.CauseLaws.{pinned, file_only}
use Rattle.xdb_model.proofs.causes.snapshots_begin_by_groups.Goals as goal

pub returns : goal.returns
returns c = record { pinned = pinned; file_only = file_only }
