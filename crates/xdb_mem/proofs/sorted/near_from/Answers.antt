-- What is left to answer of `near_from`.
use Rattle.std.proofs.Common.{◌≡◌, true, false}
use Rattle.xdb_key.specs.Order.{is_below}
use Rattle.xdb_mem.proofs.InOrderLaws.{split_front}
use Rattle.xdb_mem.proofs.sorted.near_from.Goals as goal

pub returns-clause-split : goal.returns-clause-split
returns-clause-split c =
    (split_front (λ p. is_below p.key c.args.at.now ≡ true) (λ p. is_below p.key c.args.at.now ≡ false) c.args.entries.now c.reach-reach.result c.first_from.result c.reach-reach.ensures.bound c.first_from.ensures.bound c.first_from.ensures.split c.reach-reach.ensures.behind).1
