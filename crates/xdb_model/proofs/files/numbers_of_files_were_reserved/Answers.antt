use Rattle.xdb_model.proofs.ReservedLaws.{jobs-reserved, loads-reserved, known-reserved, taken-reserved, tables-reserved, made-reserved, tried-reserved}
use Rattle.xdb_model.proofs.files.numbers_of_files_were_reserved.Goals as goal

pub returns-clause-jobs : goal.returns-clause-jobs
returns-clause-jobs c = jobs-reserved

pub returns-clause-loads : goal.returns-clause-loads
returns-clause-loads c = loads-reserved

pub returns-clause-known : goal.returns-clause-known
returns-clause-known c = known-reserved

pub returns-clause-taken : goal.returns-clause-taken
returns-clause-taken c = taken-reserved

pub returns-clause-tables : goal.returns-clause-tables
returns-clause-tables c = tables-reserved

pub returns-clause-made : goal.returns-clause-made
returns-clause-made c = made-reserved

pub returns-clause-tried : goal.returns-clause-tried
returns-clause-tried c = tried-reserved
