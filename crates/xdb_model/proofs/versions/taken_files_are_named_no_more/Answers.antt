use Rattle.xdb_model.proofs.InUseLaws.{taken-unnamed}
use Rattle.xdb_model.proofs.NamedLaws.{named-no_more, added-no_more}
use Rattle.xdb_model.proofs.versions.taken_files_are_named_no_more.Goals as goal

pub returns-clause-versions : goal.returns-clause-versions
returns-clause-versions c = named-no_more

pub returns-clause-taken : goal.returns-clause-taken
returns-clause-taken c = taken-unnamed

pub returns-clause-edits : goal.returns-clause-edits
returns-clause-edits c = added-no_more
