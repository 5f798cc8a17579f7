use Rattle.std.proofs.Common.{◌∙◌, sym, subst, arith}
use Rattle.std.proofs.lemmas.List.{drop_all}
use Rattle.xdb_device.proofs.Counts.{Counted-then, Counted-where}
use Rattle.xdb_table_r.specs.Views.{range_of, seen_at, AreSeen}
use Rattle.xdb_table_r.proofs.TellLaws.{passed}
use Rattle.xdb_table_r.proofs.SeenLaws.{are_seen}
use Rattle.xdb_table_r.proofs.GoneLaws.{place_within, gone_more, gone_end, gone_bad}
use Rattle.xdb_table_r.proofs.points.read_all.Goals as goal

pub read_points-requires-clause-within : goal.read_points-requires-clause-within
read_points-requires-clause-within g c κs within =
    let inside = place_within 0 c.args.end c.args.index.now c.loop-i.i c.requires.tiles (omega arith) in
    omega (arith, inside, c.requires.within)

pub returns-in_err-block-clause-tells : goal.returns-in_err-block-clause-tells
returns-in_err-block-clause-tells g c =
    let w = c.args.window.now in
    passed (g.R.File.FileRef.bytes c.args.file.now) c.args.backing _ c.from_residual.result c.in_err-block.field-0.0 (seen_at (range_of w) w.synthetic c.args.index.now) c.from_residual.ensures
    (gone_bad (g.R.File.FileRef.bytes c.args.file.now) (range_of w) w.synthetic c.args.index.now c.loop-i.i c.loop-i.out.items c.args.backing c.in_err-block.field-0.0 c.loop-i.invariant.2 (omega arith) c.in_err-block.ensures.tells)

pub loop-i-preserved : goal.loop-i-preserved
loop-i-preserved g c =
    let w = c.args.window.now in (
      Counted-where _ _ (λ never. absurd never) (Counted-then _ _ _ c.loop-i.invariant.0 (Counted-where _ _ (λ never. absurd never) c.read_points.ensures.counted)),
      c.read_points.ensures.told ∙ c.loop-i.invariant.1,
      gone_more (g.R.File.FileRef.bytes c.args.file.now) (range_of w) w.synthetic c.args.index.now c.loop-i.i c.loop-i.out.items c.push_points.new.out.items c.in_ok-block.block c.loop-i.invariant.2 (omega arith) c.in_ok-block.ensures.block c.in_ok-block.ensures.stands c.in_ok-block.ensures.tells c.in_ok-push_points.ensures,
    )

pub returns-clause-tells : goal.returns-clause-tells
returns-clause-tells g c =
    let w = c.args.window.now in
    gone_end (g.R.File.FileRef.bytes c.args.file.now) (range_of w) w.synthetic c.args.index.now c.loop-i.i c.loop-i.out.items c.loop-i.invariant.2 (drop_all c.loop-i.i c.args.index.now (omega arith))

pub returns-clause-seen : goal.returns-clause-seen
returns-clause-seen g c =
    let w = c.args.window.now in
    subst (AreSeen (range_of w) w.synthetic) (sym c.loop-i.invariant.2.seen) (are_seen (range_of w) w.synthetic c.loop-i.invariant.2.rows c.loop-i.invariant.2.each)
