-- What is left to answer of `last_before`.
use Rattle.std.proofs.Common.{refl, arith}
use Rattle.xdb_merge.specs.declared.edge.Edge.TheVariants.{At}
use Rattle.xdb_merge.proofs.SortedLaws.{nearest_before, none_before}
use Rattle.xdb_merge.proofs.layer.last_before.Goals as goal

pub returns-then-place-gt0 : goal.returns-then-place-gt0
returns-then-place-gt0 c = nearest_before c.args.end.now (At c.args.end) c.args.entries.now _ _ _ _ (λ k. refl) c.requires c.place_from-place.ensures.split c.place_from-place.ensures.bound (omega (arith, c.if-place-gt0.true)) c.index-entries-place.is c.key.ensures

pub returns : goal.returns
returns c = none_before c.args.end.now (At c.args.end) c.args.entries.now _ (λ k. refl) c.place_from-place.ensures.split c.if-place-gt0.false
