-- What is left to answer of `start`.
use Rattle.std.proofs.Common.{◌≡◌, true, false}
use Rattle.xdb_key.specs.Order.{is_below}
use Rattle.xdb_merge.specs.Search.{edge_key}
use Rattle.xdb_merge.proofs.SearchLaws.{starts_at, starts_behind}
use Rattle.xdb_merge.proofs.search.start.Goals as goal

pub returns-then-is_below : goal.returns-then-is_below
returns-then-is_below c =
    let short : is_below (edge_key c.args.edge) c.args.bounds.now.lo ≡ true = cc in
    let at : c.bytes-lo.result.now ≡ c.args.bounds.now.lo = cc in
    starts_at c.args.bounds.now c.args.edge c.bytes-lo.result at short

pub returns-else-is_below : goal.returns-else-is_below
returns-else-is_below c =
    let within : is_below (edge_key c.args.edge) c.args.bounds.now.lo ≡ false = cc in
    starts_behind c.args.bounds.now c.args.edge within
