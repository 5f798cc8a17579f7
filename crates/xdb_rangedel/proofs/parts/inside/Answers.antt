-- What is left to answer of `inside`.
use Rattle.std.proofs.Common.{◌≡◌, sym, subst, IfOk}
use Rattle.std.proofs.lemmas.Result.{IfOk-weaker}
use Rattle.xdb_rangedel.specs.Pieces.{AreFragments}
use Rattle.xdb_rangedel.specs.Clip.{parts_in}
use Rattle.std.proofs.lemmas.List.{take_rest}
use Rattle.xdb_rangedel.proofs.PartLaws.{AreFragments-drop, met_rest, parts_in-rest}
use Rattle.xdb_rangedel.proofs.FragmentLaws.{AreFragments-parts_in}
use Rattle.xdb_rangedel.proofs.parts.inside.Goals as goal
use Rattle.xdb_rangedel.proofs.parts.inside.Goals.{After-all_inside}

pub first_from-end-requires : goal.first_from-end-requires
first_from-end-requires c = rw (take_rest c.args.spans.now c.first_behind-first.result) (AreFragments-drop c.first_behind-first.result c.args.spans.now c.requires)

pub all_inside-requires : goal.all_inside-requires
all_inside-requires c =
    let ends = rw c.lo.ensures.lo at c.first_behind-first.ensures.split in
    let starts = rw c.hi.ensures at c.first_from-end.ensures.split in
    met_rest c.args.range.now c.args.spans.now _ c.first_behind-first.result _ (take_rest c.args.spans.now c.first_behind-first.result) ends starts

parts_known : (c : After-all_inside) → IfOk c.all_inside.result (λ made. made.items ≡ parts_in c.args.range.now c.args.spans.now)
parts_known c =
    let ends = rw c.lo.ensures.lo at c.first_behind-first.ensures.split in
    let starts = rw c.hi.ensures at c.first_from-end.ensures.split in
    rw (parts_in-rest c.args.range.now c.args.spans.now _ c.first_behind-first.result _ (take_rest c.args.spans.now c.first_behind-first.result) ends starts) c.all_inside.ensures

pub returns-clause-parts : goal.returns-clause-parts
returns-clause-parts c = parts_known c

pub returns-clause-fragments : goal.returns-clause-fragments
returns-clause-fragments c =
    IfOk-weaker c.all_inside.result (λ made. made.items ≡ parts_in c.args.range.now c.args.spans.now) (λ made. AreFragments made.items)
    (λ made e. subst AreFragments (sym e) (AreFragments-parts_in c.args.range.now c.args.spans.now c.lo.ensures.ordered c.requires)) (parts_known c)
