-- The law `flushes_keep_content`, by its lemmas.
use Rattle.xdb_laws.proofs.FlushLaws.{flushed-ordered, flushed-image, flushed-numbers}
use Rattle.xdb_laws.proofs.flushes.flushes_keep_content.Goals as goal

pub returns : goal.returns
returns c = record {
  order = λ stripes f o is. flushed-ordered f stripes o is;
  image = λ stripes f o is. flushed-image f stripes o is;
  numbers = λ stripes f. flushed-numbers f stripes;
}
