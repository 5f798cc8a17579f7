-- What is left to answer of `first_pair`.
use Rattle.std.proofs.Common.{◌≡◌, true, false}
use Rattle.xdb_key.specs.Order.{is_below}
use Rattle.xdb_merge.proofs.SearchLaws.{passed_none, passed_key, first_ended, first_left, first_found, fewer_behind}
use Rattle.xdb_merge.proofs.search.first_pair.Goals as goal

pub loop-key-init : goal.loop-key-init
loop-key-init c = passed_none c.args.layers.now c.args.bounds.now c.args.at c.args.edge c.start-from.result c.start-from.ensures

pub returns-then-not-is_below-clause-pair : goal.returns-then-not-is_below-clause-pair
returns-then-not-is_below-clause-pair c =
    let left : is_below c.in-Some.key.now c.args.bounds.now.hi ≡ false = cc in
    first_left c.args.layers.now c.args.bounds.now c.args.at c.args.edge c.loop-key.from c.in-Some.key.now c.loop-key.invariant c.in-Some.ensures left

pub returns-in-Some-decide-clause-pair : goal.returns-in-Some-decide-clause-pair
returns-in-Some-decide-clause-pair c =
    let inside : is_below c.in-Some.key.now c.args.bounds.now.hi ≡ true = cc in
    first_found c.args.layers.now c.args.bounds.now c.args.at c.args.edge c.loop-key.from c.in-Some.key.now c.in-Some-decide.entry.now c.loop-key.invariant c.in-Some.ensures inside c.in-Some-decide.ensures

pub loop-key-smaller : goal.loop-key-smaller
loop-key-smaller c = fewer_behind c.args.layers.now c.loop-key.from c.bytes-in-Some-2.result c.in-Some.key.now c.bytes-in-Some-2.ensures.bytes c.in-Some.ensures

pub loop-key-preserved : goal.loop-key-preserved
loop-key-preserved c = passed_key c.args.layers.now c.args.bounds.now c.args.at c.args.edge c.loop-key.from c.bytes-in-Some-2.result c.in-Some.key.now c.bytes-in-Some-2.ensures.bytes c.loop-key.invariant c.in-Some.ensures c.in_default-decide.ensures

pub returns-clause-pair : goal.returns-clause-pair
returns-clause-pair c = first_ended c.args.layers.now c.args.bounds.now c.args.at c.args.edge c.loop-key.from c.loop-key.invariant c.in_default.ensures
