-- What is left to answer of `open_views_in`.
use Rattle.std.proofs.Common.{◌≡◌, ◌+◌, take, sym, ap, ◌∙◌, subst, arith}
use Rattle.xdb_device.specs.Counted.{Counted}
use Rattle.xdb_device.proofs.Counts.{Counted-then, Counted-where}
use Rattle.xdb_key.specs.Bounds.{meets}
use Rattle.xdb_merge.specs.Tables.{tables_in, AreViewsOf}
use Rattle.xdb_merge.proofs.TableLaws.{views_more_in, views_same_in, alone_in, calm_in, damage_in, passed_damage}
use Rattle.xdb_merge.proofs.tables.open_views_in.Goals as goal
use Rattle.xdb_merge.proofs.tables.open_views_in.Goals.{then-meets+in_ok-open_view+in_ok-push, else-meets}

pub returns-in_err-open_view-clause-alone : goal.returns-in_err-open_view-clause-alone
returns-in_err-open_view-clause-alone g c =
    let meet = ap (λ r. meets r c.args.range.now) (sym c.range.ensures) ∙ sym c.meets.ensures ∙ c.if-meets.true in
    alone_in g.F.FileRef.bytes c.open_view.new.dev c.args.dev.now c.args.range.now c.args.tables.now c.loop-meta.meta-index c.loop-meta-item.result (omega arith) c.loop-meta-item.is meet

pub returns-in_err-open_view-clause-calm : goal.returns-in_err-open_view-clause-calm
returns-in_err-open_view-clause-calm g c =
    let meet = ap (λ r. meets r c.args.range.now) (sym c.range.ensures) ∙ sym c.meets.ensures ∙ c.if-meets.true in
    calm_in g.F.FileRef.bytes c.from_residual.result c.args.range.now c.args.tables.now c.loop-meta.meta-index c.loop-meta-item.result (omega arith) c.loop-meta-item.is meet

pub returns-in_err-open_view-clause-damage : goal.returns-in_err-open_view-clause-damage
returns-in_err-open_view-clause-damage g c =
    let meet = ap (λ r. meets r c.args.range.now) (sym c.range.ensures) ∙ sym c.meets.ensures ∙ c.if-meets.true in
    passed_damage g.F.FileRef.bytes (tables_in c.args.range.now c.args.tables.now) c.from_residual.result c.in_err-open_view.field-0.0 c.from_residual.ensures
    (damage_in g.F.FileRef.bytes c.args.range.now c.args.tables.now c.loop-meta.meta-index c.loop-meta-item.result c.in_err-open_view.field-0.0 (omega arith) c.loop-meta-item.is meet c.in_err-open_view.ensures.damage)

pub returns-in_err-push-clause-alone : goal.returns-in_err-push-clause-alone
returns-in_err-push-clause-alone g c =
    let meet = ap (λ r. meets r c.args.range.now) (sym c.range.ensures) ∙ sym c.meets.ensures ∙ c.if-meets.true in
    alone_in g.F.FileRef.bytes c.open_view.new.dev c.args.dev.now c.args.range.now c.args.tables.now c.loop-meta.meta-index c.loop-meta-item.result (omega arith) c.loop-meta-item.is meet

pub loop-meta-preserved : goal.loop-meta-preserved
loop-meta-preserved g c =
    let r = c.args.range.now in
    let ts = c.args.tables.now in
    let i = c.loop-meta.meta-index in
    let t = c.loop-meta-item.result in
    let met = ap (λ x. meets x r) (sym c.range.ensures) ∙ sym c.meets.ensures in
    elim c.if-meets.branch [
      | then-meets+in_ok-open_view+in_ok-push w ↦ (
        subst (λ d. Counted g.R.Reader.faults g.R.Reader.misses g.R.Reader.frame c.args.dev.now d ⊥) (sym w.dev-is)
            (Counted-where _ _ (λ never. absurd never) (Counted-then _ _ _ c.loop-meta.invariant.0 (Counted-where _ _ (λ never. absurd never) w.open_view.ensures.counted))),
        ap g.R.Reader.told w.dev-is ∙ w.open_view.ensures.told ∙ c.loop-meta.invariant.1,
        λ none. w.dev-is ∙ alone_in g.F.FileRef.bytes w.open_view.new.dev c.args.dev.now r ts i t (omega arith) c.loop-meta-item.is (met ∙ w.if-meets.true) none,
        subst (λ v. AreViewsOf g.F.FileRef.bytes (tables_in r (take (i + 1) ts)) v.items) (sym w.views-is)
            (subst (AreViewsOf g.F.FileRef.bytes (tables_in r (take (i + 1) ts))) (sym w.in_ok-push.ensures.items)
            (views_more_in g.F.FileRef.bytes r ts i t c.loop-meta.views.items w.in_ok-open_view.field-0 (omega arith) c.loop-meta-item.is (met ∙ w.if-meets.true) c.loop-meta.invariant.3 w.in_ok-open_view.ensures.view)),
      )
      | else-meets w ↦ (
        subst (λ d. Counted g.R.Reader.faults g.R.Reader.misses g.R.Reader.frame c.args.dev.now d ⊥) (sym w.dev-is) c.loop-meta.invariant.0,
        ap g.R.Reader.told w.dev-is ∙ c.loop-meta.invariant.1,
        λ none. w.dev-is ∙ c.loop-meta.invariant.2 none,
        subst (λ v. AreViewsOf g.F.FileRef.bytes (tables_in r (take (i + 1) ts)) v.items) (sym w.views-is)
            (views_same_in g.F.FileRef.bytes r ts i t c.loop-meta.views.items (omega arith) c.loop-meta-item.is (met ∙ w.if-meets.false) c.loop-meta.invariant.3),
      )
    ]
