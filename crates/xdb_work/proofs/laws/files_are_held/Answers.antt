-- What is left to answer of `files_are_held`.
use Rattle.xdb_work.proofs.WorkLaws.{held_more}
use Rattle.xdb_work.proofs.laws.files_are_held.Goals as goal

pub returns : goal.returns
returns g c = λ num is file files old new apart made len told all.
    held_more g.F.FileRef.size g.F.FileRef.bytes old.holds new.holds num is file files apart made len told all
