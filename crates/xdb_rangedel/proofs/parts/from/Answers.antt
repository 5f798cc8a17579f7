-- What is left to answer of `from`.
use Rattle.std.proofs.Common.{◌≡◌, sym, subst, IfOk}
use Rattle.std.proofs.lemmas.Result.{IfOk-weaker}
use Rattle.xdb_rangedel.specs.Pieces.{AreFragments}
use Rattle.xdb_rangedel.specs.Clip.{parts_from}
use Rattle.xdb_rangedel.proofs.PartLaws.{parts_from-rest, open_rest}
use Rattle.xdb_rangedel.proofs.FragmentLaws.{AreFragments-parts_from}
use Rattle.std.proofs.lemmas.List.{take_rest}
use Rattle.xdb_rangedel.proofs.parts.from.Goals as goal
use Rattle.xdb_rangedel.proofs.parts.from.Goals.{After-all_starting_from}

pub all_starting_from-requires : goal.all_starting_from-requires
all_starting_from-requires c = rw (take_rest c.args.spans.now c.first_behind-first.result) (open_rest c.args.at.now c.args.spans.now _ c.first_behind-first.ensures.split)

parts_known : (c : After-all_starting_from) → IfOk c.all_starting_from.result (λ made. made.items ≡ parts_from c.args.at.now c.args.spans.now)
parts_known c = rw (parts_from-rest c.args.at.now c.args.spans.now _ c.first_behind-first.ensures.split c.first_behind-first.ensures.bound) c.all_starting_from.ensures

pub returns-clause-parts : goal.returns-clause-parts
returns-clause-parts c = parts_known c

pub returns-clause-fragments : goal.returns-clause-fragments
returns-clause-fragments c =
    IfOk-weaker c.all_starting_from.result (λ made. made.items ≡ parts_from c.args.at.now c.args.spans.now) (λ made. AreFragments made.items)
    (λ made e. subst AreFragments (sym e) (AreFragments-parts_from c.args.at.now c.args.spans.now c.requires)) (parts_known c)
