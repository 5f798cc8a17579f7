use Rattle.std.proofs.Common.{◌∙◌, ap, sym, subst, map, None}
use Rattle.xdb_block.specs.Rows.{Row, Rise}
use Rattle.xdb_block.proofs.SeekLaws.{keys_of_rows}
use Rattle.xdb_block.proofs.block.Block.len.Goals as goal

pub returns-clause-rise : goal.returns-clause-rise
returns-clause-rise c =
    let b = c.self.inside in
    let is = sym (keys_of_rows b.keys.items b.bytes.items b.places.items) ∙ ap (map (λ (r : Row). r.key)) c.self.view_is in
    subst (Rise None) is c.self.invariant.rise
