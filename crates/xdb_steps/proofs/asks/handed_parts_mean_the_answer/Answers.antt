use Rattle.xdb_steps.proofs.HandLaws.{hand-clear, hand-answers}
use Rattle.xdb_steps.proofs.TableLaws.{bounds-are}
use Rattle.xdb_steps.proofs.asks.handed_parts_mean_the_answer.Goals as goal

pub returns : goal.returns
returns c = record {
  answer = λ x p question r part handed m now bounds out. hand-answers x p m r part handed out question now bounds;
  clear = λ x p r part handed m out. hand-clear x p m r part handed out;
  tables = λ levels content. bounds-are content levels;
}
