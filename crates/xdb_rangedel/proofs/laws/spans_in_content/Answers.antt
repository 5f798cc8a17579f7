-- The law `spans_in_content`, by its lemmas.
use Rattle.xdb_rangedel.proofs.SpanLaws.{newest-spans, newest_apart, newest-in_pieces, drawn-in_pieces, newest_spans_along}
use Rattle.xdb_rangedel.proofs.laws.spans_in_content.Goals as goal

pub returns : goal.returns
returns c = record { covered = newest-spans; apart = newest_apart; pieces = newest-in_pieces; drawn = drawn-in_pieces; alike = newest_spans_along }
