use Rattle.xdb_script.proofs.Spaces.{spaces-seen}
use Rattle.xdb_script.proofs.laws.spaces_are_seen_in_words.Goals as goal

pub returns : goal.returns
returns c = spaces-seen
