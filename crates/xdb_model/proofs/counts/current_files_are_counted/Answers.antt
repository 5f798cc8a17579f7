use Rattle.xdb_model.proofs.CountLaws.{current-counted}
use Rattle.xdb_model.proofs.counts.current_files_are_counted.Goals as goal

pub returns : goal.returns
returns c = current-counted
