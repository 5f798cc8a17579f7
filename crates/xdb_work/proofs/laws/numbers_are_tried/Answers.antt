-- What is left to answer of `numbers_are_tried`.
use Rattle.xdb_work.proofs.WorkLaws.{tried_none, tried_more, tried_failed}
use Rattle.xdb_work.proofs.laws.numbers_are_tried.Goals as goal

pub returns : goal.returns
returns g c = record {
  none = tried_none;
  created = tried_more;
  failed = tried_failed;
}
