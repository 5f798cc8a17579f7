-- What is left to answer of `clip`.
use Rattle.std.proofs.Common.{ap, ◌∙◌}
use Rattle.xdb_rangedel.specs.Cover.{cover_of}
use Rattle.xdb_rangedel.specs.Clip.{parts_in}
use Rattle.xdb_rangedel.proofs.CoverLaws.{cover_of-parts_in}
use Rattle.xdb_rangedel.proofs.fragments.Fragments.clip.Goals as goal

pub returns-clause-cover : goal.returns-clause-cover
returns-clause-cover c = λ key limit.
    ap (λ ts. cover_of ts key limit) (c.in_ok-spans.ensures.parts ∙ ap (parts_in c.args.range.now) (c.deref.ensures.value ∙ c.self.view_is))
    ∙ cover_of-parts_in c.args.range.now c.args.self.now key limit
