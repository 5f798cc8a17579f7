-- The law `replaced_ones_are_found`, by its lemmas.
use Rattle.std.proofs.Common.{◌≡◌, true}
use Rattle.xdb_lists.proofs.PlaceLaws.{under-number, under-all, under-placed, rising-same}
use Rattle.xdb_lists.proofs.replaced_ones_are_found.Goals as goal

pub returns-clause-number : goal.returns-clause-number
returns-clause-number g c = λ key n q xs there. under-number key n q xs there

pub returns-clause-all : goal.returns-clause-all
returns-clause-all g c = λ key test n q xs all there. under-all key (λ x. test x ≡ true) n q xs all there

pub returns-clause-found : goal.returns-clause-found
returns-clause-found g c = λ key n q r xs is there. under-placed key n q r xs is there

pub returns-clause-rising : goal.returns-clause-rising
returns-clause-rising g c = λ key xs ys same rising. rising-same key xs ys same rising
