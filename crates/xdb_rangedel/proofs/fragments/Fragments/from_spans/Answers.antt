-- What is left to answer of `from_spans`.
use Rattle.std.proofs.Common.{◌∙◌}
use Rattle.xdb_rangedel.specs.Pieces.{pieces}
use Rattle.xdb_rangedel.proofs.CoverLaws.{cover_of_unordered, cover_of-pieces}
use Rattle.xdb_rangedel.proofs.fragments.Fragments.from_spans.Goals as goal

pub returns-clause-cover : goal.returns-clause-cover
returns-clause-cover c = λ key limit.
    cover_of_unordered c.in_ok-spans.spans.items (pieces c.args.spans.now) c.in_ok-spans.ensures.pieces key limit
    ∙ cover_of-pieces c.args.spans.now key limit
