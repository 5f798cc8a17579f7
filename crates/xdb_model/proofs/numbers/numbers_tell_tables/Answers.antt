use Rattle.xdb_model.proofs.TableNumberLaws.{same-table}
use Rattle.xdb_model.proofs.numbers.numbers_tell_tables.Goals as goal

pub returns : goal.returns
returns c = same-table
