use Rattle.xdb_plain.proofs.HistoryLaws.{after_all-push, right_push, legal_push, legal_from_right}
use Rattle.xdb_plain.proofs.laws.history_goes_on.Goals as goal

pub returns : goal.returns
returns c = record { state = after_all-push; right = right_push; legal = legal_push; right_is_legal = legal_from_right }
