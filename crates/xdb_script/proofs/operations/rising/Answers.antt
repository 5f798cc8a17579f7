use Rattle.std.proofs.lemmas.Iterator.Adapters.{YieldsList-from_vec}
use Rattle.std.proofs.lemmas.Iterator.Consumers.{YieldsList-turn}
use Rattle.std.proofs.lemmas.Result.{err_from_is_err_and}
use Rattle.std.proofs.Common.{length}
use Rattle.xdb_script.proofs.Risings.{draft_failed}
use Rattle.xdb_script.proofs.operations.rising.Goals as goal

pub returns-in_err-rising : goal.returns-in_err-rising
returns-in_err-rising c =
    let turn = YieldsList-turn (YieldsList-from_vec c.args.drafts.items (cc) (cc)) c.loop-draft.yielded _ c.loop-draft.yielded_by c.next.result c.next.new.self c.in-Some.draft c.in-Some.is c.next.ensures.steps in
    let p = err_from_is_err_and c.from_residual-in_err-rising.result c.from_residual-in_err-rising.ensures.1 in
    rw (p.1, p.2) (draft_failed c.args.drafts.items (length c.loop-draft.yielded) c.in-Some.draft c.in_err-rising.field-0.0 turn.0 turn.1 c.in_err-rising.ensures)
