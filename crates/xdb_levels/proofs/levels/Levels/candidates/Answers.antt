-- Above L0 what the searches find is what meets the range.
use Rattle.std.proofs.Common.{◌≡◌, ◌<◌, [], length, get_or, sym, ap, ◌∙◌, arith}
use Rattle.std.proofs.lemmas.List.{get_or_default}
use Rattle.xdb_edit.specs.Versions.{tables_of}
use Rattle.xdb_edit.specs.Plans.{meeting}
use Rattle.xdb_levels.proofs.LevelLaws.{tables_of-get_or}
use Rattle.xdb_levels.proofs.MeetingLaws.{meeting_again}
use Rattle.xdb_levels.proofs.levels.Levels.candidates.Goals as goal
use Rattle.xdb_levels.proofs.levels.Levels.candidates.Goals.{After-only_meeting}
use Rattle.xdb_levels.proofs.levels.Levels.candidates.Given as given

found : (g : given.Over) (c : After-only_meeting g) → c.only_meeting.result.now ≡ meeting c.args.range.now (tables_of c.args.self.now c.args.level)
found g c =
    let levels = c.self.inside.levels in
    let level = c.args.level in
    let count = c.self.invariant.count in
    let l : level < length levels = omega arith in
    let here : c.list-tables.result.now ≡ get_or levels level c.index-self-level.result = cc in
    let tables = here ∙ get_or_default levels level c.index-self-level.result [] l ∙ sym (tables_of-get_or levels level) ∙ ap (λ v. tables_of v level) c.self.view_is in
    c.only_meeting.ensures ∙ ap (meeting c.args.range.now) tables

pub returns-else-level-eq0-clause-meeting : goal.returns-else-level-eq0-clause-meeting
returns-else-level-eq0-clause-meeting g c =
    ap (meeting c.args.range.now) (found g c) ∙ meeting_again c.args.range.now (tables_of c.args.self.now c.args.level)

pub returns-else-level-eq0-clause-above_l0 : goal.returns-else-level-eq0-clause-above_l0
returns-else-level-eq0-clause-above_l0 g c = λ _. found g c
