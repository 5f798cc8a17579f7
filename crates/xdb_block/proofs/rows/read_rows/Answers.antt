use Rattle.std.proofs.Common.{◌≡◌, ◌%◌, ap, length, arith, ◌==◌, ◌<◌}
use Rattle.std.proofs.lemmas.Result.{err_from_is_err_and}
use Rattle.xdb_block.specs.Reading.{numbers}
use Rattle.xdb_block.proofs.Loop.{begins, halfway_on, halfway_offset, halfway_row, halfway_ends, halfway_left_over, halfway_whole}
use Rattle.xdb_block.proofs.rows.read_rows.Goals as goal

pub loop-at-init : goal.loop-at-init
loop-at-init c = begins c.args.interval c.args.kind c.args.entries.now _ _ (numbers c.args.offsets.now) c.new-keys.ensures.items c.new-places.ensures.items

pub returns-in_err-offsets-clause-answers : goal.returns-in_err-offsets-clause-answers
returns-in_err-offsets-clause-answers c =
    let p = err_from_is_err_and c.from_residual.result c.from_residual.ensures.1 in
    let count : c.len.result ≡ length c.loop-at.places.items = omega arith in
    let more : c.loop-at.at < length c.args.entries.now = c.loop-at-test.true in
    rw (p.1, p.2) (halfway_offset c.in_err-offsets.field-0.0 c.args.interval c.args.kind c.args.entries.now c.loop-at.keys.items c.loop-at.places.items c.loop-at.last _ c.loop-at.at _ _ more (ap (λ n. n % c.args.interval == 0) count) c.in_err-offsets.ensures c.loop-at.invariant)

pub returns-in_err-place-clause-answers : goal.returns-in_err-place-clause-answers
returns-in_err-place-clause-answers c =
    let p = err_from_is_err_and c.from_residual-in_err-place.result c.from_residual-in_err-place.ensures.1 in
    let count : c.len.result ≡ length c.loop-at.places.items = omega arith in
    let more : c.loop-at.at < length c.args.entries.now = c.loop-at-test.true in
    rw (p.1, p.2) (halfway_row c.in_err-place.field-0.0 c.args.interval c.args.kind c.args.entries.now c.loop-at.keys.items c.loop-at.places.items c.loop-at.last _ _ c.loop-at.at _ _ more (ap (λ n. n % c.args.interval == 0) count) c.in_ok-offsets.ensures c.in_err-place.ensures.answers c.loop-at.invariant)

pub loop-at-preserved : goal.loop-at-preserved
loop-at-preserved c =
    let count : c.len.result ≡ length c.loop-at.places.items = omega arith in
    let more : c.loop-at.at < length c.args.entries.now = c.loop-at-test.true in
    let e = c.in_ok-place.ensures in
    let next = halfway_on c.args.interval c.args.kind c.args.entries.now c.loop-at.keys.items c.read_row.new.keys.items c.loop-at.places.items c.loop-at.last _ _ c.loop-at.at c.in_ok-place.place _ _ more (ap (λ n. n % c.args.interval == 0) count) c.in_ok-offsets.ensures e.answers e.lies e.grows e.behind e.last c.loop-at.invariant in
    rw c.in_ok-push.ensures.items next

pub returns-in-Some-clause-answers : goal.returns-in-Some-clause-answers
returns-in-Some-clause-answers c =
    halfway_left_over c.args.interval c.args.kind c.args.entries.now c.loop-at.keys.items c.loop-at.places.items c.loop-at.last _ c.loop-at.at _ _ _ c.loop-at-test.false c.in-Some.ensures.first c.loop-at.invariant

pub returns-in-None-clause-answers : goal.returns-in-None-clause-answers
returns-in-None-clause-answers c =
    halfway_ends c.args.interval c.args.kind c.args.entries.now c.loop-at.keys.items c.loop-at.places.items c.loop-at.last _ c.loop-at.at _ c.loop-at-test.false c.in-None.ensures.first c.loop-at.invariant

pub returns-in-None-clause-whole : goal.returns-in-None-clause-whole
returns-in-None-clause-whole c = halfway_whole c.args.interval c.args.kind c.args.entries.now c.loop-at.keys.items c.loop-at.places.items c.loop-at.last _ c.loop-at.at _ c.loop-at.invariant
