-- What is left to answer of `first_from`.
use Rattle.xdb_merge.proofs.SortedLaws.{nearest_from, none_from}
use Rattle.xdb_merge.proofs.layer.first_from.Goals as goal

pub returns-then-place-entries : goal.returns-then-place-entries
returns-then-place-entries c = nearest_from c.args.edge c.args.entries.now _ _ _ c.requires c.place_from-place.ensures.split c.if-place-entries.true c.index-entries-place.is c.key.ensures

pub returns : goal.returns
returns c = none_from c.args.edge c.args.entries.now _ c.place_from-place.ensures.split c.if-place-entries.false
