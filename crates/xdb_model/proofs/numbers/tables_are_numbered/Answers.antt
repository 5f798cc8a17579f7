use Rattle.xdb_model.proofs.TableNumberLaws.{tables-fit}
use Rattle.xdb_model.proofs.numbers.tables_are_numbered.Goals as goal

pub returns : goal.returns
returns c = tables-fit
