-- The law `compactions_keep_content`, by its lemmas.
use Rattle.xdb_laws.proofs.CompactLaws.{compacted-ordered, compacted-image, compacted-numbers}
use Rattle.xdb_laws.proofs.compactions.compactions_keep_content.Goals as goal

pub returns : goal.returns
returns c = record {
  order = λ stripes floor m. compacted-ordered stripes floor m;
  image = λ stripes floor m. compacted-image stripes floor m;
  numbers = λ stripes floor m. compacted-numbers stripes floor m;
}
