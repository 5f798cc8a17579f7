-- A step goes from where it begins, over the pairs inside the bounds.
use Rattle.std.proofs.Common.{ap, ◌∙◌}
use Rattle.xdb_laws.specs.Image.{image}
use Rattle.xdb_plain.specs.Answers.{landing, moved}
use Rattle.xdb_read.specs.Fits.{content}
use Rattle.xdb_read.specs.Pairs.{pairs_of, step_from}
use Rattle.xdb_read.proofs.KeyLaws.{pairs-inside, step-begins}
use Rattle.xdb_read.proofs.answering.moved.Goals as goal

pub returns-clause-right : goal.returns-clause-right
returns-clause-right g c = λ told.
    let parts = c.args.parts.now in
    let step = c.args.step.now in
    ap (λ a. landing a c.in_ok-entry.place) c.in_ok-answer.ensures
    ∙ c.in_ok-entry.ensures.lands told
    ∙ (λ i. moved (pairs_of g.F.FileRef.bytes parts (c.in_ok-bounds.ensures i)) (c.in_ok-start.ensures i) (step_from step))
    ∙ step-begins (pairs_of g.F.FileRef.bytes parts parts.bounds) parts.place step
    ∙ ap (λ ps. moved ps parts.place step) (pairs-inside parts.bounds (image (content g.F.FileRef.bytes parts) parts.at))
