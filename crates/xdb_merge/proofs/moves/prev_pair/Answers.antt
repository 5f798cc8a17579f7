-- What is left to answer of `prev_pair`.
use Rattle.std.proofs.Common.{◌≡◌, ◌∙◌}
use Rattle.xdb_merge.proofs.MoveLaws.{prev-after}
use Rattle.xdb_merge.proofs.moves.prev_pair.Goals as goal

pub returns-in-After-clause-moves : goal.returns-in-After-clause-moves
returns-in-After-clause-moves c =
    let hi : c.bytes-in-After.result.now ≡ c.args.bounds.now.hi = c.bytes-in-After.ensures.bytes ∙ c.hi.ensures in
    prev-after c.args.layers.now c.args.bounds.now c.args.at c.args.place.now c.bytes-in-After.result.now _ c.in-After.is hi c.last_pair-in-After.ensures.pair
