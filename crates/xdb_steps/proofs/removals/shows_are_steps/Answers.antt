use Rattle.xdb_steps.proofs.RemovalSteps.{unshown, levels, shows-counts, snaps}
use Rattle.xdb_steps.proofs.removals.shows_are_steps.Goals as goal

pub returns : goal.returns
returns c = record {
  lacking = λ told x p what a held. unshown x p a held what;
  levels = λ told x p ls a held is. levels x p a held ls is;
  counts = λ told x p cs a held is. shows-counts x p a held cs is;
  snaps = λ told x p a held. snaps x p a held;
}
