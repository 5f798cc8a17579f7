use Rattle.xdb_mem.proofs.ContentLaws.{items-clear, items-newer}
use Rattle.xdb_mem.proofs.laws.rising_numbers_are_clear.Goals as goal

pub returns : goal.returns
returns c = record { clear = items-clear; newer = items-newer }
