-- The law `handed_parts_are_the_copy`, by its lemmas.
use Rattle.xdb_laws.proofs.HandLaws.{handed-pinned, handed-file_only}
use Rattle.xdb_laws.proofs.questions.handed_parts_are_the_copy.Goals as goal

pub returns : goal.returns
returns c = record { pinned = handed-pinned; file_only = handed-file_only }
