use Rattle.std.proofs.Common.{false, None, ap}
use Rattle.xdb_plain.specs.Holds.{releasing, holds_due}
use Rattle.xdb_plain.specs.declared.act.Act.TheVariants as act
use Rattle.xdb_plain.specs.declared.act.By.TheVariants.{Db}
use Rattle.xdb_steps.proofs.HoldSteps.{ended-held}
use Rattle.xdb_steps.proofs.FailureSteps as failures
use Rattle.xdb_steps.proofs.holds.failures_release.Goals as goal

pub returns : goal.returns
returns c = record {
  in_parts = λ told x p ask q r rise h holds a held there ends booked undamaged parted has whose same.
      ended-held x p Db (act.Work ask) r ask h holds a held has whose same (failures.in_parts x p ask q r rise a there ends booked undamaged parted)
      (ap (releasing (act.Work ask)) ends) (ap (λ o. holds_due p (act.Work ask) o None) ends);
  whole = λ told x p ask q r rise h holds a held there ends booked undamaged parted has whose same.
      ended-held x p q.by (act.Ask ask q.question false) r ask h holds a held has whose same (failures.whole x p ask q r rise a there ends booked undamaged parted)
      (ap (releasing (act.Ask ask q.question false)) ends) (ap (λ o. holds_due p (act.Ask ask q.question false) o None) ends);
}
