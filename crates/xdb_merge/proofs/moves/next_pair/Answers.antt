-- What is left to answer of `next_pair`.
use Rattle.std.proofs.Common.{◌≡◌, ◌∙◌}
use Rattle.xdb_merge.proofs.MoveLaws.{next-before, next-on}
use Rattle.xdb_merge.proofs.moves.next_pair.Goals as goal

pub returns-in-Before-clause-moves : goal.returns-in-Before-clause-moves
returns-in-Before-clause-moves c =
    let lo : c.bytes.result.now ≡ c.args.bounds.now.lo = c.bytes.ensures.bytes ∙ c.lo.ensures.lo in
    next-before c.args.layers.now c.args.bounds.now c.args.at c.args.place.now c.bytes.result _ c.in-Before.is lo c.first_pair.ensures.pair

pub returns-in-On-clause-moves : goal.returns-in-On-clause-moves
returns-in-On-clause-moves c =
    next-on c.args.layers.now c.args.bounds.now c.args.at c.args.place.now c.in-On.key c.bytes-in-On.result _ c.in-On.is c.bytes-in-On.ensures.bytes c.first_pair-in-On.ensures.pair
