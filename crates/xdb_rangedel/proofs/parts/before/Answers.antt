-- What is left to answer of `before`.
use Rattle.std.proofs.Common.{◌≡◌, sym, subst, IfOk}
use Rattle.std.proofs.lemmas.Result.{IfOk-weaker}
use Rattle.xdb_rangedel.specs.Pieces.{AreFragments}
use Rattle.xdb_rangedel.specs.Clip.{parts_before}
use Rattle.xdb_rangedel.proofs.PartLaws.{parts_before-front}
use Rattle.xdb_rangedel.proofs.FragmentLaws.{AreFragments-parts_before}
use Rattle.xdb_rangedel.proofs.parts.before.Goals as goal
use Rattle.xdb_rangedel.proofs.parts.before.Goals.{After-all_ending_by}

parts_known : (c : After-all_ending_by) → IfOk c.all_ending_by.result (λ made. made.items ≡ parts_before c.args.at.now c.args.spans.now)
parts_known c = rw (parts_before-front c.args.at.now c.args.spans.now _ c.first_from-end.ensures.split c.first_from-end.ensures.bound) c.all_ending_by.ensures

pub returns-clause-parts : goal.returns-clause-parts
returns-clause-parts c = parts_known c

pub returns-clause-fragments : goal.returns-clause-fragments
returns-clause-fragments c =
    IfOk-weaker c.all_ending_by.result (λ made. made.items ≡ parts_before c.args.at.now c.args.spans.now) (λ made. AreFragments made.items)
    (λ made e. subst AreFragments (sym e) (AreFragments-parts_before c.args.at.now c.args.spans.now c.requires)) (parts_known c)
