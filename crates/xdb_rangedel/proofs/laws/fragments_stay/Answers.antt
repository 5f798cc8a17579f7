-- The law `fragments_stay`, by its lemmas.
use Rattle.xdb_rangedel.proofs.FragmentLaws.{AreFragments-parts_in, AreFragments-parts_before, AreFragments-parts_from}
use Rattle.xdb_rangedel.proofs.OnlyLaws.{fragments_themselves, fragments_are_one}
use Rattle.xdb_rangedel.proofs.laws.fragments_stay.Goals as goal

pub returns : goal.returns
returns c = record {
  range = AreFragments-parts_in;
  before = AreFragments-parts_before;
  from = AreFragments-parts_from;
  themselves = fragments_themselves;
  one = fragments_are_one;
}
