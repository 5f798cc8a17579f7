use Rattle.std.proofs.Common.{rules}
use Rattle.std.specs.FinMap.{gets}
use Rattle.xdb_rows.proofs.refused_replies.answer_to_another_question.Goals as goal

pub returns : goal.returns
returns c = search (rules, gets)
