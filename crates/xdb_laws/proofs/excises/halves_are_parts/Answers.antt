-- The law `halves_are_parts`, by its lemmas.
use Rattle.xdb_laws.proofs.ExciseLaws.{half-drawn, half-numbers, halves-apart}
use Rattle.xdb_laws.proofs.HalfLaws.{half-whole}
use Rattle.xdb_laws.proofs.excises.halves_are_parts.Goals as goal

pub returns : goal.returns
returns c = record {
  side = λ file side synthetic b ordered. half-whole file side synthetic ordered b;
  drawn = λ file side shown synthetic b. half-drawn file side synthetic shown b;
  numbers = λ file side shown synthetic b. half-numbers file side synthetic shown b;
  apart = halves-apart;
}
