-- What is left to answer of `has_last_key`.
use Rattle.std.proofs.Common.{◌∙◌, sym}
use Rattle.std.proofs.lemmas.Bool.{false≢true}
use Rattle.xdb_build.proofs.CutLaws.{all_before, last_has}
use Rattle.xdb_build.proofs.cuts.has_last_key.Goals as goal

pub returns-in-Some-clause-yes : goal.returns-in-Some-clause-yes
returns-in-Some-clause-yes c = λ same. (c.in-Some.last.now, last_has c.args.before.now c.in-Some.last.now (sym c.in-Some.ensures.value), sym c.key.ensures ∙ c.same.ensures.0 same ∙ c.key-in-Some.ensures)

pub returns-in-Some-clause-no : goal.returns-in-Some-clause-no
returns-in-Some-clause-no c = λ other order.
    all_before c.args.before.now c.in-Some.last.now c.args.entry.now (sym c.in-Some.ensures.value) (λ e. false≢true (sym other ∙ c.same.ensures.1 (c.key.ensures ∙ e ∙ sym c.key-in-Some.ensures))) order
