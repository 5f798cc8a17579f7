use Rattle.xdb_model.proofs.InUseLaws.{taken-unused}
use Rattle.xdb_model.proofs.counts.taken_files_have_no_count.Goals as goal

pub returns : goal.returns
returns c = taken-unused
