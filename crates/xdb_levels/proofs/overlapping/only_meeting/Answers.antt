-- What stands between the two places is what meets the range.
use Rattle.std.proofs.Common.{take, ap, ◌∙◌}
use Rattle.std.proofs.lemmas.List.{take_rest}
use Rattle.xdb_edit.specs.Versions.{has_range}
use Rattle.xdb_levels.proofs.MeetingLaws.{all_drop, disjoint_drop, meeting_part}
use Rattle.xdb_levels.proofs.overlapping.only_meeting.Goals as goal

pub first_from-requires-clause-disjoint : goal.first_from-requires-clause-disjoint
first_from-requires-clause-disjoint c = rw (take_rest c.args.tables.now c.first_behind.result) (disjoint_drop c.first_behind.result c.args.tables.now c.requires.disjoint)

pub first_from-requires-clause-ranges : goal.first_from-requires-clause-ranges
first_from-requires-clause-ranges c = rw (take_rest c.args.tables.now c.first_behind.result) (all_drop has_range c.first_behind.result c.args.tables.now c.requires.ranges)

pub returns : goal.returns
returns c =
    let rest = take_rest c.args.tables.now c.first_behind.result in
    let ends = rw c.lo.ensures.lo at c.first_behind.ensures.split in
    let starts = rw (rest, c.hi.ensures) at c.first_from.ensures.split in
    let within = rw rest at c.first_from.ensures.bound in
    ap (take c.first_from.result) rest ∙ meeting_part c.args.range.now c.args.tables.now c.first_behind.result c.first_from.result c.first_behind.ensures.bound within ends starts
