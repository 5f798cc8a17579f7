-- The bounds so far and those of the levels that are left are all.
use Rattle.std.proofs.Common.{◌≡◌, ◌++◌, map, drop}
use Rattle.std.specs.List.{flat_map}
use Rattle.xdb_meta.specs.Table.{bounds_of}
use Rattle.xdb_pick.proofs.planning.floor.Given as goal

abbrev pub invariant-loop-level : goal.invariant-loop-level
invariant-loop-level l =
    l.floor.items ++ map bounds_of (flat_map (λ ts. ts) (drop l.level l.v)) ≡ map bounds_of (flat_map (λ ts. ts) (drop l.from l.v))
