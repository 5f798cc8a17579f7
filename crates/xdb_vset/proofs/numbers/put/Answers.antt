-- The number is put in at its place, or is there.
use Rattle.std.proofs.Common.{sym, ap, subst, refl, ◌∙◌}
use Rattle.std.specs.Result.{is_ok}
use Rattle.xdb_lists.specs.Numbers.{is_among, NumbersRise}
use Rattle.xdb_lists.proofs.KeyLaws.{rising_insert}
use Rattle.xdb_lists.proofs.NumberLaws.{among_insert, among_present, among-sought}
use Rattle.xdb_vset.proofs.numbers.put.Goals as goal

pub returns-in-Ok-clause-among : goal.returns-in-Ok-clause-among
returns-in-Ok-clause-among c = λ n. ap (is_among n) c.in-Ok.ensures.items ∙ among_insert c.args.nums.now.items c.in-Err.at c.args.num n

pub returns-in-Ok-clause-rising : goal.returns-in-Ok-clause-rising
returns-in-Ok-clause-rising c =
    subst NumbersRise (sym c.in-Ok.ensures.items) (rising_insert (λ n. n) c.args.num c.args.nums.now.items c.in-Err.at c.args.num c.requires.rising c.in-Err.ensures refl)

pub returns-in_default-clause-among : goal.returns-in_default-clause-among
returns-in_default-clause-among c = λ n.
    among_present c.args.num n c.args.nums.now.items (sym (ap is_ok (sym c.in_default.is) ∙ among-sought c.args.num c.args.nums.now.items c.find.result c.find.ensures))
