-- The law `spans_are_taken_out`, by its lemmas.
use Rattle.std.proofs.Common.{Some}
use Rattle.xdb_laws.proofs.ExciseLaws.{excised-joined, excised-each, excised-silent, excised-beside, excised-halves, excised-nothing}
use Rattle.xdb_laws.proofs.excises.spans_are_taken_out.Goals as goal

pub returns : goal.returns
returns c = record {
  joined = excised-joined;
  each = excised-each;
  silent = λ out x silent. excised-silent (Some out) x silent;
  beside = excised-beside;
  halves = excised-halves;
  nothing = excised-nothing;
}
