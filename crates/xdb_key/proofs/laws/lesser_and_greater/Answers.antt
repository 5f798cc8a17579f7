use Rattle.xdb_key.proofs.OrderLaws.{lesser_upto_first, lesser_upto_second, upto_lesser, first_upto_greater, second_upto_greater, greater_upto, lesser_turned, greater_turned}
use Rattle.xdb_key.proofs.laws.lesser_and_greater.Goals as goal

pub returns : goal.returns
returns c = record {
  lesser_first = lesser_upto_first;
  lesser_second = lesser_upto_second;
  upto_lesser = upto_lesser;
  first_greater = first_upto_greater;
  second_greater = second_upto_greater;
  greater_upto = greater_upto;
  lesser_turned = lesser_turned;
  greater_turned = greater_turned;
}
