-- What is left to answer of `decide`.
use Rattle.xdb_merge.proofs.DecideLaws.{decides}
use Rattle.xdb_merge.proofs.search.decide.Goals as goal

pub returns : goal.returns
returns c = decides c.args.layers.now c.args.at c.args.key.now _ _ _ c.newest.ensures c.cover.ensures c.shown.ensures
