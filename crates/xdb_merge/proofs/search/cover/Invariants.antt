-- The greatest number of the layers so far.
use Rattle.std.proofs.Common.{◌≡◌, take}
use Rattle.xdb_rangedel.specs.Cover.{cover_of}
use Rattle.xdb_merge.specs.Layers.{spans_of}
use Rattle.xdb_merge.proofs.search.cover.Given as goal

abbrev pub invariant-loop-layer : goal.invariant-loop-layer
invariant-loop-layer l = l.best ≡ cover_of (spans_of (take l.layer-index l.layers)) l.key l.at
