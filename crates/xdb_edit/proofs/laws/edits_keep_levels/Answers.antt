-- What an edit keeps of the levels.
use Rattle.xdb_edit.proofs.VersionLaws.{sorted_kept, ranges_kept, disjoint_kept}
use Rattle.xdb_edit.proofs.laws.edits_keep_levels.Goals as goal

pub returns-clause-sorted : goal.returns-clause-sorted
returns-clause-sorted c = sorted_kept

pub returns-clause-ranges : goal.returns-clause-ranges
returns-clause-ranges c = ranges_kept

pub returns-clause-disjoint : goal.returns-clause-disjoint
returns-clause-disjoint c = disjoint_kept
