use Rattle.xdb_steps.proofs.FlushSteps.{put-none, put-early, put-lacking, put-installed}
use Rattle.xdb_steps.proofs.flushes.flush_puts_are_steps.Goals as goal

pub returns : goal.returns
returns c = record {
  none = λ told x p num a held none. put-none x p num a held none;
  early = λ told x p num r group a held found kind. put-early x p num a held r group found kind;
  lacking = λ told x p num r group a held found kind. put-lacking x p num a held r group found kind;
  installed = λ told x p num r group e table content known a held jobs fits levels found kind edit flushes adds alike had flushed.
      put-installed x p num a held r group found kind jobs fits levels e table content known edit flushes alike adds had flushed;
}
