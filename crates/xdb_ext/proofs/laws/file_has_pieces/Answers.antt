-- The law `file_has_pieces`, by its lemma.
use Rattle.xdb_ext.proofs.ContentLaws.{file_pieces}
use Rattle.xdb_ext.proofs.laws.file_has_pieces.Goals as goal

pub returns : goal.returns
returns c = file_pieces
