-- The law `content_of_two_lists`, by its lemmas.
use Rattle.xdb_rangedel.proofs.SpanLaws.{entries_in-content_of, spans_in-content_of}
use Rattle.xdb_rangedel.proofs.laws.content_of_two_lists.Goals as goal

pub returns : goal.returns
returns c = record { entries = entries_in-content_of; spans = spans_in-content_of }
