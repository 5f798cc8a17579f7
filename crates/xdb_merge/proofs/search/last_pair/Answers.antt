-- What is left to answer of `last_pair`.
use Rattle.std.proofs.Common.{◌≡◌, true, false}
use Rattle.xdb_key.specs.Order.{is_upto}
use Rattle.xdb_merge.proofs.SearchLaws.{down_none, passed_key-down, last_ended, last_left, last_found, fewer_before}
use Rattle.xdb_merge.proofs.search.last_pair.Goals as goal

pub loop-key-init : goal.loop-key-init
loop-key-init c = down_none c.args.layers.now c.args.bounds.now c.args.at c.args.end.now c.lesser_end-before.result.now c.lesser_end-before.ensures

pub returns-then-not-is_upto-clause-pair : goal.returns-then-not-is_upto-clause-pair
returns-then-not-is_upto-clause-pair c =
    let left : is_upto c.args.bounds.now.lo c.in-Some.key.now ≡ false = cc in
    last_left c.args.layers.now c.args.bounds.now c.args.at c.args.end.now c.loop-key.before.now c.in-Some.key.now c.loop-key.invariant c.in-Some.ensures left

pub returns-in-Some-decide-clause-pair : goal.returns-in-Some-decide-clause-pair
returns-in-Some-decide-clause-pair c =
    let inside : is_upto c.args.bounds.now.lo c.in-Some.key.now ≡ true = cc in
    last_found c.args.layers.now c.args.bounds.now c.args.at c.args.end.now c.loop-key.before.now c.in-Some.key.now c.in-Some-decide.entry.now c.loop-key.invariant c.in-Some.ensures inside c.in-Some-decide.ensures

pub loop-key-smaller : goal.loop-key-smaller
loop-key-smaller c = fewer_before c.args.layers.now c.loop-key.before.now c.bytes-before.result.now c.in-Some.key.now c.bytes-before.ensures.bytes c.in-Some.ensures

pub loop-key-preserved : goal.loop-key-preserved
loop-key-preserved c = passed_key-down c.args.layers.now c.args.bounds.now c.args.at c.args.end.now c.loop-key.before.now c.bytes-before.result.now c.in-Some.key.now c.bytes-before.ensures.bytes c.loop-key.invariant c.in-Some.ensures c.in_default-decide.ensures

pub returns-clause-pair : goal.returns-clause-pair
returns-clause-pair c = last_ended c.args.layers.now c.args.bounds.now c.args.at c.args.end.now c.loop-key.before.now c.loop-key.invariant c.in_default.ensures
