-- The law `flushes_edit_levels`, by its lemmas.
use Rattle.xdb_laws.proofs.FlushEditLaws.{flush_edit-ordered, flush_edit-image, flush_edit-numbers, flush_edit-stand}
use Rattle.xdb_laws.proofs.versions.flushes_edit_levels.Goals as goal

pub returns : goal.returns
returns c = record {
  order = flush_edit-ordered;
  image = flush_edit-image;
  numbers = flush_edit-numbers;
  stand = flush_edit-stand;
}
