-- What is left to answer of `picked`.
use Rattle.std.proofs.Common.{◌≡◌, not, ap, ◌∙◌}
use Rattle.std.proofs.lemmas.Bool.{le-ltb}
use Rattle.std.proofs.lemmas.List.{take_all}
use Rattle.std.specs.List.{filter, list_any}
use Rattle.xdb_stripes.specs.Steps.{repeats_span, is_lost_span, is_kept_span}
use Rattle.xdb_stripes.proofs.AnyLaws.{filter_kept, filter_left, stays_if, goes_by_first, goes_by_rest}
use Rattle.xdb_stripes.proofs.RepeatLaws.{repeat_told, repeat_first}
use Rattle.xdb_stripes.proofs.spans.picked.Goals as goal
use Rattle.xdb_stripes.proofs.spans.picked.Goals.{then-at-gt0, else-at-gt0, then-not-repeated+then-not-is_spent+in_ok-copy+in_ok-push, else-not-repeated, else-not-repeated-via-then-not-repeated+else-not-is_spent, else-not-repeated-via-else-not-repeated}

pub loop-at-preserved : goal.loop-at-preserved
loop-at-preserved c =
    let ss = c.args.stripes.now in
    let ts = c.args.spans.now in
    let at = c.loop-at.at in
    let t = c.index-spans-at.result in
    let test = is_kept_span ss c.args.floor.now ts in
    let repeat = list_any (repeats_span ss t) ts in
    let lost = is_lost_span ss c.args.floor.now t in
    let told : c.if-at-gt0.repeated ≡ repeat = elim c.if-at-gt0.branch [
      | then-at-gt0 w ↦
          w.repeated-is ∙ w.is_repeated-repeated.ensures
          ∙ repeat_told ss ts at w.index-spans-at-then-at-gt0.result t c.seq.result c.end_of_stripe-end.result c.requires.fragments c.requires.small w.if-at-gt0.true c.loop-at-test.true w.index-spans-at-then-at-gt0.is c.index-spans-at.is c.end_of_stripe-end.ensures c.seq.ensures.seq
      | else-at-gt0 w ↦ w.repeated-is ∙ le-ltb 0 at w.if-at-gt0.false ∙ repeat_first ss ts at t c.requires.fragments w.if-at-gt0.false c.loop-at-test.true c.index-spans-at.is
    ] in
    elim c.if-not-repeated.branch [
      | then-not-repeated+then-not-is_spent+in_ok-copy+in_ok-push w ↦
          ap (λ v. v.items) w.kept-is
          ∙ filter_kept test ts at t w.in_ok-copy.field-0 c.loop-at.kept.items w.push.new.self.items c.loop-at-test.true c.index-spans-at.is (stays_if repeat lost c.if-at-gt0.repeated (not w.is_spent.result) told w.if-not-repeated.true (ap not w.is_spent.ensures) (ap not w.if-not-is_spent.true)) c.loop-at.invariant w.in_ok-copy.ensures w.in_ok-push.ensures.items
      | else-not-repeated w ↦
          ap (λ v. v.items) w.kept-is
          ∙ filter_left test ts at t c.loop-at.kept.items c.loop-at-test.true c.index-spans-at.is (elim w.else-not-repeated.branch [
            | else-not-repeated-via-then-not-repeated+else-not-is_spent x ↦ goes_by_rest repeat lost (not x.is_spent.result) (ap not x.is_spent.ensures) (ap not x.if-not-is_spent.false)
            | else-not-repeated-via-else-not-repeated x ↦ goes_by_first repeat lost c.if-at-gt0.repeated told x.if-not-repeated.false
          ]) c.loop-at.invariant
    ]

pub returns : goal.returns
returns c =
    c.loop-at.invariant ∙ ap (filter (is_kept_span c.args.stripes.now c.args.floor.now c.args.spans.now)) (take_all c.loop-at.at c.args.spans.now c.loop-at-test.false)
