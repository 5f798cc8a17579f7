-- The law `loaded_files_show_their_operations`, by its lemma.
use Rattle.xdb_laws.proofs.FileLaws.{file-shown}
use Rattle.xdb_laws.proofs.loads.loaded_files_show_their_operations.Goals as goal

pub returns : goal.returns
returns c = file-shown
