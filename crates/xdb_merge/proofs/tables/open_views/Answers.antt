-- What is left to answer of `open_views`.
use Rattle.std.proofs.Common.{sym, ◌∙◌, subst, arith, take, ◌+◌}
use Rattle.xdb_device.proofs.Counts.{Counted-then, Counted-where}
use Rattle.xdb_merge.specs.Tables.{AreViewsOf}
use Rattle.xdb_merge.proofs.TableLaws.{not_fault, views_more, damage_among, passed_damage}
use Rattle.xdb_merge.proofs.tables.open_views.Goals as goal

pub returns-in_err-open_view-clause-damage : goal.returns-in_err-open_view-clause-damage
returns-in_err-open_view-clause-damage g c =
    passed_damage g.F.FileRef.bytes c.args.tables.now c.from_residual-in_err-open_view.result c.in_err-open_view.field-0.0 c.from_residual-in_err-open_view.ensures
    (damage_among g.F.FileRef.bytes c.args.tables.now c.loop-meta.meta-index c.loop-meta-item.result c.in_err-open_view.field-0.0 (omega arith) c.loop-meta-item.is c.in_err-open_view.ensures.damage)

pub returns-in_err-push-clause-counted : goal.returns-in_err-push-clause-counted
returns-in_err-push-clause-counted g c =
    Counted-where _ _ (λ fault. absurd (not_fault c.from_residual-in_err-push.result c.from_residual-in_err-push.ensures fault))
    (Counted-then _ _ _ c.loop-meta.invariant.0 (Counted-where _ _ (λ never. absurd never) c.open_view.ensures.counted))

pub loop-meta-preserved : goal.loop-meta-preserved
loop-meta-preserved g c = (
  Counted-where _ _ (λ never. absurd never) (Counted-then _ _ _ c.loop-meta.invariant.0 (Counted-where _ _ (λ never. absurd never) c.open_view.ensures.counted)),
  c.open_view.ensures.told ∙ c.loop-meta.invariant.1,
  subst (AreViewsOf g.F.FileRef.bytes (take (c.loop-meta.meta-index + 1) c.args.tables.now)) (sym c.in_ok-push.ensures.items)
      (views_more g.F.FileRef.bytes c.args.tables.now c.loop-meta.meta-index c.loop-meta-item.result c.loop-meta.views.items c.in_ok-open_view.field-0 (omega arith) c.loop-meta-item.is c.loop-meta.invariant.2 c.in_ok-open_view.ensures.view),
)
