use Rattle.std.proofs.Common.{◌∙◌, ap, arith}
use Rattle.xdb_key.proofs.OrderLaws.{key-below-successor}
use Rattle.xdb_key.specs.Bounds.{successor}
use Rattle.xdb_key.specs.Order.{is_below}
use Rattle.xdb_table_r.proofs.reach.of_point.Goals as goal

pub invariant_of-result : goal.invariant_of-result
invariant_of-result c = record {
  ordered = (λ i. is_below ((c.in_ok-lo.ensures ∙ c.key.ensures) i) ((c.in_ok-hi.ensures ∙ ap successor c.key-2.ensures) i)) ∙ key-below-successor c.args.point.now.key;
  numbers = omega arith;
  small = omega (arith, c.seq-seq.ensures.seq, c.seq-seq.ensures.small);
}
