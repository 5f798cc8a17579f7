-- An empty group that isn't sealed leaves the state.
use Rattle.std.proofs.Common.{◌≡◌, [], ◌∷◌, ◌++◌, ◌∙◌, ap, refl}
use Rattle.xdb_plain.specs.Changes.{after}
use Rattle.xdb_plain.specs.Legal.{after_all}
use Rattle.xdb_plain.specs.State.{opening}
use Rattle.xdb_plain.proofs.HistoryLaws.{after_all-push}
use Rattle.xdb_history.specs.Recorded.{state_of}
use Rattle.xdb_history.proofs.tests.push_nothing.Goals as goal

pub returns-clause-here : goal.returns-clause-here
returns-clause-here c =
    let old = c.args.history.now in
    let note = c.sealed_nothing.result in
    (λ i. after_all (opening (c.push.ensures.seq i) (c.push.ensures.file i)) (c.push.ensures.notes i))
    ∙ after_all-push (opening old.first_seq old.first_file) old.notes note
    ∙ (λ i. after (c.requires.here i) (c.sealed_nothing.ensures i))
