-- The law `drawn`, by its lemmas.
use Rattle.xdb_rangedel.proofs.LayerLaws.{drawn_entry, drawn_clear, drawn_newer, drawn_trans}
use Rattle.xdb_rangedel.proofs.laws.drawn.Goals as goal

pub returns : goal.returns
returns c = record { entry = drawn_entry; clear = drawn_clear; newer = drawn_newer; again = drawn_trans }
