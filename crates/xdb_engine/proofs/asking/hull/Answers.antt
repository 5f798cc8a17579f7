-- A key stands below its successor.
use Rattle.std.proofs.Common.{◌≡◌, true, ◌∙◌}
use Rattle.std.proofs.lemmas.Bool.{false≢true}
use Rattle.xdb_key.specs.Order.{is_below}
use Rattle.xdb_key.proofs.OrderLaws.{key-below-successor}
use Rattle.xdb_engine.proofs.asking.hull.Goals as goal

pub unreachable-requires : goal.unreachable-requires
unreachable-requires c =
    let ends : is_below c.in_ok-lo.lo c.in_ok-hi.hi ≡ true = (λ i. is_below (c.in_ok-lo.ensures i) (c.in_ok-hi.ensures i)) ∙ key-below-successor c.args.key.now in
    false≢true (c.in_default.ensures.ordered ∙ ends)
