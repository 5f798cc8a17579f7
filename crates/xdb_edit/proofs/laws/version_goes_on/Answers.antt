-- A history that is longer by one edit.
use Rattle.xdb_edit.specs.Versions.{no_tables}
use Rattle.xdb_edit.proofs.VersionLaws.{edited_by-push}
use Rattle.xdb_edit.proofs.laws.version_goes_on.Goals as goal

pub returns : goal.returns
returns c = edited_by-push no_tables
