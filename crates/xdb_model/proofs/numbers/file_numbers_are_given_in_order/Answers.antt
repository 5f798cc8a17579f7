use Rattle.xdb_model.proofs.FileLaws.{files-fit}
use Rattle.xdb_model.proofs.numbers.file_numbers_are_given_in_order.Goals as goal

pub returns : goal.returns
returns c = files-fit
