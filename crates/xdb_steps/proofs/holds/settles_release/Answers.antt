use Rattle.std.proofs.Common.{false, refl}
use Rattle.xdb_plain.specs.declared.act.Act.TheVariants as act
use Rattle.xdb_plain.specs.declared.reply.Reply.TheVariants.{Answered}
use Rattle.xdb_steps.proofs.HoldSteps.{ended-held}
use Rattle.xdb_steps.proofs.SettleSteps as settles
use Rattle.xdb_steps.proofs.holds.settles_release.Goals as goal

pub returns : goal.returns
returns c = record {
  in_parts = λ told x p by ask q answer h holds a held client there parted right has whose same.
      ended-held x p by (act.Settle ask) (Answered answer) ask h holds a held has whose same (settles.in_parts x p by ask a client q there answer right parted) refl refl;
  whole = λ told x p by ask q answer h holds a held client there parted right has whose same.
      ended-held x p by (act.Ask ask q.question false) (Answered answer) ask h holds a held has whose same (settles.whole x p by ask a client q there answer right parted) refl refl;
}
