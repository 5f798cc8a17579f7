-- The number is taken from its place, or isn't there.
use Rattle.std.proofs.Common.{◌<◌, sym, ap, subst, ◌∙◌}
use Rattle.std.specs.Result.{is_ok}
use Rattle.std.proofs.lemmas.List.Quantifiers.{all_pairs_remove}
use Rattle.xdb_lists.specs.Numbers.{is_among, NumbersRise}
use Rattle.xdb_lists.proofs.NumberLaws.{among_remove, among_absent, among-sought}
use Rattle.xdb_vset.proofs.numbers.take_out.Goals as goal

pub returns-in-Some-clause-among : goal.returns-in-Some-clause-among
returns-in-Some-clause-among c = λ n.
    ap (is_among n) c.in-Some.ensures.items ∙ among_remove c.args.num c.args.nums.now.items c.in-Ok.at c.requires c.in-Ok.ensures.0 c.in-Ok.ensures.1 n

pub returns-in-Some-clause-rising : goal.returns-in-Some-clause-rising
returns-in-Some-clause-rising c = subst NumbersRise (sym c.in-Some.ensures.items) (all_pairs_remove (λ m n. m < n) c.args.nums.now.items c.in-Ok.at c.in-Ok.ensures.0 c.requires)

pub returns-in_default-clause-among : goal.returns-in_default-clause-among
returns-in_default-clause-among c = λ n.
    among_absent c.args.num n c.args.nums.now.items (sym (ap is_ok (sym c.in_default.is) ∙ among-sought c.args.num c.args.nums.now.items c.find.result c.find.ensures))
