use Rattle.std.proofs.Common.{map, sym, ◌∙◌}
use Rattle.xdb_script.proofs.Excise.{one_left}
use Rattle.xdb_script.specs.Drafts.{pair_texts}
use Rattle.xdb_script.proofs.client.pairs_shape.Goals as goal

pub returns : goal.returns
returns c = one_left c.loop-rest.rest.now (map pair_texts c.loop-rest.pairs.items) _ c.in_default.len_below (sym c.is_empty.ensures ∙ c.if-is_empty.false) c.loop-rest.invariant
