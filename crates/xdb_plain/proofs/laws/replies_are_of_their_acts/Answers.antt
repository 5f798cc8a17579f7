use Rattle.xdb_plain.proofs.PossibleLaws.{reply-of}
use Rattle.xdb_plain.proofs.laws.replies_are_of_their_acts.Goals as goal

pub returns : goal.returns
returns c = reply-of
