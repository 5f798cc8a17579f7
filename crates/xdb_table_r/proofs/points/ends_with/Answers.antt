use Rattle.std.proofs.Common.{◌∙◌, ◌-◌, sym, ap}
use Rattle.std.specs.Ordering.{is_eq}
use Rattle.xdb_key.specs.Order.{key_cmp}
use Rattle.xdb_block.specs.Rows.{nth}
use Rattle.xdb_table_r.proofs.RowLaws.{last_key_is}
use Rattle.xdb_table_r.proofs.points.ends_with.Goals as goal

pub returns : goal.returns
returns c =
    let rows = c.args.block.now in
    let is = c.key.ensures ∙ ap (λ n. (nth rows (n - 1)).key) c.len.ensures.len ∙ sym (last_key_is rows c.requires) in
    c.is_eq.ensures ∙ ap is_eq (c.compare.ensures ∙ ap (λ k. key_cmp k c.args.key.now) is)
