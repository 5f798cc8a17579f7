use Rattle.xdb_script.proofs.Words.{string-is, string-again, string-length, string-token}
use Rattle.xdb_script.proofs.laws.words_spell_bytes.Goals as goal

pub returns-clause-read : goal.returns-clause-read
returns-clause-read c = string-is

pub returns-clause-spelled : goal.returns-clause-spelled
returns-clause-spelled c = string-again

pub returns-clause-length : goal.returns-clause-length
returns-clause-length c = string-length

pub returns-clause-token : goal.returns-clause-token
returns-clause-token c = string-token
