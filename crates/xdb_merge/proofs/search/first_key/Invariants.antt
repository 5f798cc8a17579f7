-- The nearest key of the layers so far.
use Rattle.std.proofs.Common.{take}
use Rattle.std.specs.Option.{option_copied}
use Rattle.xdb_merge.specs.Layers.{entries_of}
use Rattle.xdb_merge.specs.Search.{is_from, forwards, IsNearest}
use Rattle.xdb_merge.proofs.search.first_key.Given as goal

abbrev pub invariant-loop-layer : goal.invariant-loop-layer
invariant-loop-layer l = IsNearest forwards (is_from l.edge) (entries_of (take l.layer-index l.layers)) (option_copied l.best)
