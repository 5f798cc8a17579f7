-- What is left to answer of `is_lowest`.
use Rattle.std.proofs.Common.{sym, ◌∙◌}
use Rattle.xdb_stripes.proofs.StripeLaws.{lowest}
use Rattle.xdb_stripes.proofs.stripes.is_lowest.Goals as goal

pub returns-else-is_empty : goal.returns-else-is_empty
returns-else-is_empty c = lowest c.args.stripes.now c.args.number c.requires (sym c.is_empty.ensures ∙ c.if-is_empty.false)
