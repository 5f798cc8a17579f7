-- One pass up and one pass down leave what growing leaves.
use Rattle.std.proofs.Common.{Bor, ap, ap₂, ◌∙◌}
use Rattle.xdb_key.specs.Bounds.{Bounds}
use Rattle.xdb_pick.specs.Hulls.{both, lent, swept}
use Rattle.xdb_pick.proofs.GrowthLaws.{swept-grown}
use Rattle.xdb_pick.proofs.OrderingLaws.{map-reverse}
use Rattle.xdb_pick.proofs.growing.grown.Goals as goal

pub returns : goal.returns
returns c =
    let ranges = c.in_ok-ranges.ranges.items in
    let up = c.swept-up.ensures ∙ ap (λ rs. swept c.args.hull (lent rs)) c.deref.ensures.value in
    let down = ap lent (c.deref-2.ensures.value ∙ c.reverse.ensures.items) ∙ map-reverse (λ (r : Bor Bounds). r.now) ranges in
    c.swept.ensures
    ∙ ap₂ swept up down
    ∙ swept-grown (both c.args.v.now c.args.level) (lent ranges) c.args.hull c.in_ok-ranges.ensures.all c.in_ok-ranges.ensures.sorted c.has_key.ensures.has_key
