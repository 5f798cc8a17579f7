-- The loop begins, goes on, stops and ends as reading does.
use Rattle.std.proofs.Common.{◌∙◌, subst, sym, ap, arith, length, ◌≤◌}
use Rattle.std.proofs.lemmas.Bool.{eqb-true, eqb-false}
use Rattle.std.proofs.lemmas.Result.{err_from_is_err_and}
use Rattle.xdb_key.specs.Reading.{AreBytes}
use Rattle.xdb_edit.specs.Records.{front, is_before}
use Rattle.xdb_edit.proofs.ReadingLoop.{IsHalfway, starts, goes_on, disorder, fails, ends}
use Rattle.xdb_edit.proofs.edit.read_all.Goals as goal

pub loop-rest-init : goal.loop-rest-init
loop-rest-init c =
    let bytes = c.args.bytes.now in
    let are : AreBytes bytes = λ i. omega (arith, c.type_inv.bytes i) in
    subst (IsHalfway bytes bytes (length bytes) front) (sym c.empty-lists.ensures) (starts bytes are)

pub returns-in_err-record : goal.returns-in_err-record
returns-in_err-record c =
    let p = err_from_is_err_and c.from_residual.result c.from_residual.ensures.1 in
    let ne = eqb-false (length c.loop-rest.rest.now) 0 (sym c.is_empty.ensures ∙ c.loop-rest-test.true) in
    let some : 1 ≤ length c.loop-rest.rest.now = omega arith in
    rw (p.1, p.2) (fails c.in_err-record.field-0.0 c.args.bytes.now c.loop-rest.rest.now (length c.args.bytes.now) c.loop-rest.last c.loop-rest.lists some c.in_err-record.ensures.gives c.loop-rest.invariant)

pub returns-then-not-is_before : goal.returns-then-not-is_before
returns-then-not-is_before c =
    let ne = eqb-false (length c.loop-rest.rest.now) 0 (sym c.is_empty.ensures ∙ c.loop-rest-test.true) in
    let some : 1 ≤ length c.loop-rest.rest.now = omega arith in
    let order = ap (is_before c.loop-rest.last) (sym c.rank-rank.ensures) ∙ sym c.is_before.ensures ∙ c.if-not-is_before.true in
    disorder c.args.bytes.now c.loop-rest.rest.now c.in_ok-record.after.now (length c.args.bytes.now) c.loop-rest.last c.loop-rest.lists c.in_ok-record.record some c.in_ok-record.ensures.gives order c.loop-rest.invariant

pub loop-rest-preserved : goal.loop-rest-preserved
loop-rest-preserved c =
    let ne = eqb-false (length c.loop-rest.rest.now) 0 (sym c.is_empty.ensures ∙ c.loop-rest-test.true) in
    let some : 1 ≤ length c.loop-rest.rest.now = omega arith in
    let order = ap (is_before c.loop-rest.last) (sym c.rank-rank.ensures) ∙ sym c.is_before.ensures ∙ c.if-not-is_before.false in
    let next = goes_on c.args.bytes.now c.loop-rest.rest.now c.in_ok-record.after.now (length c.args.bytes.now) c.loop-rest.last c.loop-rest.lists c.in_ok-record.record some c.in_ok-record.ensures.gives order c.loop-rest.invariant in
    rw (c.rank-rank.ensures, c.in_ok-keep.ensures) next

pub returns : goal.returns
returns c = ends c.args.bytes.now c.loop-rest.rest.now (length c.args.bytes.now) c.loop-rest.last c.loop-rest.lists (eqb-true (length c.loop-rest.rest.now) 0 (sym c.is_empty.ensures ∙ c.loop-rest-test.false)) c.loop-rest.invariant
