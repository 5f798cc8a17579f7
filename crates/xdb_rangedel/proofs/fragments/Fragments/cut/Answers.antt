-- What is left to answer of `cut`.
use Rattle.std.proofs.Common.{ap, ◌∙◌}
use Rattle.xdb_rangedel.specs.Cover.{cover_of}
use Rattle.xdb_rangedel.specs.Clip.{parts_before, parts_from}
use Rattle.xdb_rangedel.proofs.CoverLaws.{cover_of-parts_before, cover_of-parts_from}
use Rattle.xdb_rangedel.proofs.fragments.Fragments.cut.Goals as goal

pub returns-clause-left_cover : goal.returns-clause-left_cover
returns-clause-left_cover c = λ key limit.
    ap (λ ts. cover_of ts key limit) (c.in_ok-left.ensures.parts ∙ ap (parts_before c.args.at.now) (c.deref.ensures.value ∙ c.self.view_is))
    ∙ cover_of-parts_before c.args.at.now c.args.self.now key limit

pub returns-clause-right_cover : goal.returns-clause-right_cover
returns-clause-right_cover c = λ key limit.
    ap (λ ts. cover_of ts key limit) (c.in_ok-right.ensures.parts ∙ ap (parts_from c.args.at.now) (c.deref-2.ensures.value ∙ c.self.view_is))
    ∙ cover_of-parts_from c.args.at.now c.args.self.now key limit
