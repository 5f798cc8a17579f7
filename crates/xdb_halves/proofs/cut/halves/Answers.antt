use Rattle.std.proofs.Common.{◌∙◌}
use Rattle.xdb_table_r.specs.Views.{keys_of}
use Rattle.xdb_halves.proofs.SideLaws.{left_empty, right_empty, none_covered, halves_told}
use Rattle.xdb_halves.proofs.cut.halves.Goals as goal

pub returns-in_err-left-clause-alone : goal.returns-in_err-left-clause-alone
returns-in_err-left-clause-alone g c = λ h. c.in_err-left.ensures.alone (left_empty (keys_of c.args.view.now) c.args.span.now c.lo.result.now c.lo.ensures.lo h)

pub returns-in_err-right-clause-alone : goal.returns-in_err-right-clause-alone
returns-in_err-right-clause-alone g c = λ h.
    c.in_err-right.ensures.alone (right_empty (keys_of c.args.view.now) c.args.span.now c.hi.result.now c.hi.ensures h)
    ∙ c.in_ok-left.ensures.alone (left_empty (keys_of c.args.view.now) c.args.span.now c.lo.result.now c.lo.ensures.lo h)

pub returns-clause-alone : goal.returns-clause-alone
returns-clause-alone g c = λ h.
    c.in_ok-right.ensures.alone (right_empty (keys_of c.args.view.now) c.args.span.now c.hi.result.now c.hi.ensures h)
    ∙ c.in_ok-left.ensures.alone (left_empty (keys_of c.args.view.now) c.args.span.now c.lo.result.now c.lo.ensures.lo h)

pub returns-clause-tells : goal.returns-clause-tells
returns-clause-tells g c =
    halves_told c.args.view.now c.args.span.now _ (record { left = c.in_ok-left.left; right = c.in_ok-right.right }) c.lo.result.now c.hi.result.now c.lo.ensures.lo c.hi.ensures
    c.in_ok-left.ensures.tells c.in_ok-right.ensures.tells

pub returns-clause-nothing : goal.returns-clause-nothing
returns-clause-nothing g c = λ h.
    none_covered (keys_of c.args.view.now) c.args.span.now (record { left = c.in_ok-left.left; right = c.in_ok-right.right }) c.lo.result.now c.hi.result.now c.lo.ensures.lo c.hi.ensures h
    c.in_ok-left.ensures.within c.begins_below_its_end.ensures c.in_ok-right.ensures.within c.begins_below_its_end-2.ensures
