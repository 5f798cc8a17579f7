-- The line that is taken is the next one of the script.
use Rattle.std.proofs.Common.{sym, ◌∙◌, subst}
use Rattle.xdb_run.specs.Running.{StillTakesLines}
use Rattle.xdb_run.proofs.LineLaws.{next-run, next-taken}
use Rattle.xdb_run.proofs.run.take_all.Goals as goal

pub take-requires-after_bounds : goal.take-requires-after_bounds
take-requires-after_bounds g c κs within =
    next-run c.args.script.items c.loop-line.left.items c.pop.new.self.items c.in-Some.line c.loop-line.engine c.loop-line.invariant.0 c.in-Some.ensures.items c.requires.run

pub loop-line-preserved : goal.loop-line-preserved
loop-line-preserved g c = (
  subst (λ lines. StillTakesLines c.args.script.items lines c.take.new.engine) (sym c.shorten.ensures)
      (next-taken c.args.script.items c.loop-line.left.items c.pop.new.self.items c.in-Some.line c.loop-line.engine c.take.new.engine c.loop-line.invariant.0 c.in-Some.ensures.items c.in_ok-take.ensures.line),
  c.take.ensures.alone ∙ c.loop-line.invariant.1,
)
