-- The law `sorted_lists_stay`, by its lemmas.
use Rattle.xdb_lists.proofs.SortedLaws.{sorted_filter, sorted_put_all_in, all_put_all_in}
use Rattle.xdb_lists.proofs.sorted_lists_stay.Goals as goal

pub returns-clause-filter : goal.returns-clause-filter
returns-clause-filter g c = sorted_filter

pub returns-clause-put_in : goal.returns-clause-put_in
returns-clause-put_in g c = λ cmp total. sorted_put_all_in total

pub returns-clause-all : goal.returns-clause-all
returns-clause-all g c = all_put_all_in
