-- A plan has taken in all that it meets.
use Rattle.xdb_edit.proofs.PlanLaws.{plan_for-full}
use Rattle.xdb_edit.proofs.plans.plans_are_full.Goals as goal

pub returns : goal.returns
returns c = plan_for-full
