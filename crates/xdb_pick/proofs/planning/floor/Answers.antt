-- The bounds of one level more are there, and in the end those of all.
use Rattle.std.proofs.Common.{◌++◌, map, drop, ap, ◌∙◌, arith}
use Rattle.std.specs.List.{flat_map}
use Rattle.xdb_meta.specs.Table.{bounds_of}
use Rattle.xdb_pick.proofs.WalkLaws.{floor_next, floor_end}
use Rattle.xdb_pick.proofs.planning.floor.Goals as goal

pub loop-level-preserved : goal.loop-level-preserved
loop-level-preserved c =
    let v = c.args.v.now in
    let made = c.loop-level.floor.items in
    let count = c.tables.ensures.levels.count in
    floor_next v c.loop-level.level made c.put_bounds.new.out.items (map bounds_of (flat_map (λ ts. ts) (drop c.args.from v))) (omega arith) c.loop-level.invariant
    (c.in_ok-put_bounds.ensures ∙ ap (λ ts. made ++ map bounds_of ts) c.tables.ensures.tables)

pub returns : goal.returns
returns c =
    let v = c.args.v.now in
    let count = c.count-level-end.ensures.levels.count in
    floor_end v c.loop-level.level c.loop-level.floor.items (map bounds_of (flat_map (λ ts. ts) (drop c.args.from v))) (omega arith) c.loop-level.invariant
