use Rattle.xdb_table_r.proofs.ContentLaws.{seen_is_view, members_are_view}
use Rattle.xdb_table_r.proofs.laws.shown_is_the_view.Goals as goal

pub returns-clause-whole : goal.returns-clause-whole
returns-clause-whole c = seen_is_view

pub returns-clause-members : goal.returns-clause-members
returns-clause-members c = members_are_view
