-- The law `view_of_range`, by its lemmas.
use Rattle.xdb_rangedel.proofs.RangeLaws.{newest-view, drawn-view, kept-view, entries-view, inside-view, ordered-view, empty-view, nothing-view}
use Rattle.xdb_rangedel.proofs.laws.view_of_range.Goals as goal

pub returns : goal.returns
returns c = record {
  says = newest-view;
  drawn = drawn-view;
  kept = kept-view;
  entries = entries-view;
  inside = inside-view;
  ordered = ordered-view;
  empty = empty-view;
  nothing = nothing-view;
}
