use Rattle.xdb_script.proofs.Scripts.{long-feeds}
use Rattle.xdb_script.proofs.laws.line_feeds_alone.Goals as goal

pub returns : goal.returns
returns c = long-feeds
