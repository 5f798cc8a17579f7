use Rattle.std.proofs.Common.{sym, ap, ◌∙◌}
use Rattle.xdb_key.specs.Bounds.{meets}
use Rattle.xdb_key.specs.Ops.{op_hull}
use Rattle.xdb_key.proofs.OrderLaws.{meets-key_hull}
use Rattle.xdb_key.proofs.op.Op.meets.Goals as goal

pub returns-in-Set : goal.returns-in-Set
returns-in-Set c =
    let range = c.args.range.now in
    c.holds.ensures ∙ sym (meets-key_hull c.in-Set.key range) ∙ ap (λ op. meets (op_hull op) range) (sym c.in-Set.is)

pub returns-in-Del : goal.returns-in-Del
returns-in-Del c =
    let range = c.args.range.now in
    c.holds-in-Del.ensures ∙ sym (meets-key_hull c.in-Del.key range) ∙ ap (λ op. meets (op_hull op) range) (sym c.in-Del.is)
