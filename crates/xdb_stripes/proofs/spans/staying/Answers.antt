-- What is left to answer of `staying`.
use Rattle.std.proofs.Common.{ap, ◌∙◌}
use Rattle.std.specs.List.{filter}
use Rattle.xdb_stripes.specs.Steps.{is_kept_span}
use Rattle.xdb_stripes.proofs.RepeatLaws.{left_again}
use Rattle.xdb_stripes.proofs.spans.staying.Goals as goal

pub returns : goal.returns
returns c =
    let ts = c.args.spans.now in
    let test = is_kept_span c.args.stripes.now c.args.floor.now in
    let kept = c.deref.ensures.value ∙ c.in_ok-kept.ensures ∙ ap (λ xs. filter (test xs) xs) c.list.ensures.list in
    left_again c.from_spans.result (test ts) ts c.deref.result.now c.list.ensures.fragments kept c.from_spans.ensures.pieces c.from_spans.ensures.fragments
