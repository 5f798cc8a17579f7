-- The tables that aren't among the candidates don't meet the bounds.
use Rattle.std.proofs.Common.{◌∙◌}
use Rattle.xdb_edit.specs.Versions.{tables_of}
use Rattle.xdb_pick.proofs.WalkLaws.{any_meeting}
use Rattle.xdb_pick.proofs.placing.is_met.Goals as goal

pub returns : goal.returns
returns c = c.meet.ensures ∙ any_meeting c.args.bounds.now c.candidates.result.now (tables_of c.args.v.now c.args.level) c.candidates.ensures.meeting
