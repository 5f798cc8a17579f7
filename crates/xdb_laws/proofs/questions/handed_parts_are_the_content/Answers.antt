-- The law `handed_parts_are_the_content`, by its lemmas.
use Rattle.xdb_laws.proofs.HandLaws.{handed-says, handed-clear, handed-now, handed-alike}
use Rattle.xdb_laws.proofs.questions.handed_parts_are_the_content.Goals as goal

pub returns : goal.returns
returns c = record { says = handed-says; clear = handed-clear; map = handed-now; copy = handed-alike }
