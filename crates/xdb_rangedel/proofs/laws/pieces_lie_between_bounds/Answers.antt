-- The law `pieces_lie_between_bounds`, by its lemmas.
use Rattle.std.specs.Bool.{IsTrue}
use Rattle.xdb_rangedel.specs.Pieces.{is_ordered}
use Rattle.xdb_rangedel.proofs.FragmentLaws.{All-at_Has}
use Rattle.xdb_rangedel.proofs.PieceLaws.{pieces-tell, pieces-has}
use Rattle.xdb_rangedel.proofs.laws.pieces_lie_between_bounds.Goals as goal

pub returns : goal.returns
returns c = record {
  tell = λ ts ordered t h. pieces-tell ts t (λ s g. All-at_Has (λ x. IsTrue (is_ordered x)) ts s ordered g) h;
  there = pieces-has;
}
