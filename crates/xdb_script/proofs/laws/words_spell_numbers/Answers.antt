use Rattle.xdb_script.proofs.Words.{number-is, number-again, number-none}
use Rattle.xdb_script.proofs.laws.words_spell_numbers.Goals as goal

pub returns-clause-read : goal.returns-clause-read
returns-clause-read c = number-is

pub returns-clause-spelled : goal.returns-clause-spelled
returns-clause-spelled c = number-again

pub returns-clause-number : goal.returns-clause-number
returns-clause-number c = number-none
