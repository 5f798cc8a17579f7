-- What is left to answer of `staying`.
use Rattle.std.proofs.Common.{◌≡◌, ◌||◌, ap, ◌∙◌}
use Rattle.std.proofs.lemmas.Bool.{le-ltb}
use Rattle.std.proofs.lemmas.List.{take_all}
use Rattle.std.specs.List.{filter, list_any}
use Rattle.xdb_stripes.specs.Steps.{shadows_entry, buries_entry, is_lost_delete, is_kept_entry}
use Rattle.xdb_stripes.proofs.AnyLaws.{filter_kept, filter_left, stays_if, goes_by_first, goes_by_rest}
use Rattle.xdb_stripes.proofs.EntryLaws.{shadow_told, shadow_first, shadow_kept, small_kept}
use Rattle.xdb_stripes.proofs.entries.staying.Goals as goal
use Rattle.xdb_stripes.proofs.entries.staying.Goals.{then-at-gt0, else-at-gt0, then-not-shadowed+then-stays+in_ok-copy+in_ok-push, else-not-shadowed, else-not-shadowed-via-then-not-shadowed+else-stays, else-not-shadowed-via-else-not-shadowed}

pub loop-at-preserved : goal.loop-at-preserved
loop-at-preserved c =
    let ss = c.args.stripes.now in
    let ps = c.args.entries.now in
    let ts = c.args.spans.now in
    let at = c.loop-at.at in
    let q = c.index-entries-at.result in
    let test = is_kept_entry ss c.args.floor.now ps ts in
    let shadow = list_any (shadows_entry ss q) ps in
    let rest = list_any (buries_entry ss q) ts || is_lost_delete ss c.args.floor.now q in
    let told : c.if-at-gt0.shadowed ≡ shadow = elim c.if-at-gt0.branch [
      | then-at-gt0 w ↦
          w.shadowed-is ∙ w.is_shadowed-shadowed.ensures
          ∙ shadow_told ss ps at w.index-entries-at-then-at-gt0.result q c.seq.result c.end_of_stripe-end.result c.loop-at.shadowed c.requires.order w.if-at-gt0.true c.loop-at-test.true w.index-entries-at-then-at-gt0.is c.index-entries-at.is c.end_of_stripe-end.ensures c.seq.ensures.seq c.loop-at.invariant.small c.loop-at.invariant.shadowed
      | else-at-gt0 w ↦ w.shadowed-is ∙ le-ltb 0 at w.if-at-gt0.false ∙ shadow_first ss ps at q c.requires.order w.if-at-gt0.false c.loop-at-test.true c.index-entries-at.is
    ] in
    record {
      kept = elim c.if-not-shadowed.branch [
        | then-not-shadowed+then-stays+in_ok-copy+in_ok-push w ↦
            ap (λ v. v.items) w.kept-is
            ∙ filter_kept test ps at q w.in_ok-copy.field-0 c.loop-at.kept.items w.push.new.self.items c.loop-at-test.true c.index-entries-at.is (stays_if shadow rest c.if-at-gt0.shadowed w.stays.result told w.if-not-shadowed.true w.stays.ensures w.if-stays.true) c.loop-at.invariant.kept w.in_ok-copy.ensures w.in_ok-push.ensures.items
        | else-not-shadowed w ↦
            ap (λ v. v.items) w.kept-is
            ∙ filter_left test ps at q c.loop-at.kept.items c.loop-at-test.true c.index-entries-at.is (elim w.else-not-shadowed.branch [
              | else-not-shadowed-via-then-not-shadowed+else-stays x ↦ goes_by_rest shadow rest x.stays.result x.stays.ensures x.if-stays.false
              | else-not-shadowed-via-else-not-shadowed x ↦ goes_by_first shadow rest c.if-at-gt0.shadowed told x.if-not-shadowed.false
            ]) c.loop-at.invariant.kept
      ];
      shadowed = λ d some. shadow_kept ss ps at q c.if-at-gt0.shadowed c.loop-at-test.true c.index-entries-at.is told d some;
      small = λ d some. small_kept ps at q c.loop-at-test.true c.index-entries-at.is c.seq.ensures.small d some;
    }

pub returns : goal.returns
returns c =
    c.loop-at.invariant.kept ∙ ap (filter (is_kept_entry c.args.stripes.now c.args.floor.now c.args.entries.now c.args.spans.now)) (take_all c.loop-at.at c.args.entries.now c.loop-at-test.false)
