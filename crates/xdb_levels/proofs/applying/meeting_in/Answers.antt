-- One more pair of neighbours is looked at.
use Rattle.std.proofs.Common.{sym, ap₂, ◌∙◌}
use Rattle.xdb_key.specs.Bounds.{meets}
use Rattle.xdb_levels.proofs.WalkLaws.{meeting_apart, meeting_none}
use Rattle.xdb_levels.proofs.applying.meeting_in.Goals as goal

pub loop-place-preserved : goal.loop-place-preserved
loop-place-preserved c =
    meeting_apart c.args.tables.now c.loop-place.place c.index-tables-place.result c.index-tables-place-in-loop-place.result c.loop-place.auto.place c.loop-place-test.true c.index-tables-place.is c.index-tables-place-in-loop-place.is c.loop-place.invariant
    (sym (c.meets.ensures ∙ ap₂ meets c.range.ensures c.range-in-loop-place.ensures) ∙ c.if-meets.false)

pub returns : goal.returns
returns c = meeting_none c.args.tables.now c.loop-place.place c.loop-place.auto.place c.loop-place-test.false c.loop-place.invariant
