use Rattle.xdb_key.proofs.OrderLaws.{below_trans, below_upto, upto_below, upto_trans, upto_antisymm, upto-not_below, upto_from_below}
use Rattle.xdb_key.proofs.laws.order_chains.Goals as goal

pub returns : goal.returns
returns c = record {
  below = below_trans;
  below_upto = below_upto;
  upto_below = upto_below;
  upto = upto_trans;
  one = upto_antisymm;
  turned = upto-not_below;
  weaker = upto_from_below;
}
