-- What is left to answer of `sorted_strips`.
use Rattle.std.proofs.Common.{length, subst}
use Rattle.std.proofs.lemmas.List.Sorted.{All-permutation}
use Rattle.xdb_rangedel.specs.Members.{SameMembers}
use Rattle.xdb_rangedel.specs.Sweep.{FitsGaps}
use Rattle.xdb_rangedel.proofs.StripLaws.{same_after_sort, in_order_sorted}
use Rattle.xdb_rangedel.proofs.sweep.sorted_strips.Goals as goal

pub returns-clause-strips : goal.returns-clause-strips
returns-clause-strips c =
    subst (SameMembers c.sort_unstable.new.self.items) c.in_ok-strips.ensures.strips (same_after_sort c.in_ok-strips.strips.items c.sort_unstable.new.self.items c.sort_unstable.ensures.permutation)

pub returns-clause-fit : goal.returns-clause-fit
returns-clause-fit c =
    All-permutation (FitsGaps (length c.args.bounds.now)) c.in_ok-strips.strips.items c.sort_unstable.new.self.items c.sort_unstable.ensures.permutation c.in_ok-strips.ensures.fit

pub returns-clause-order : goal.returns-clause-order
returns-clause-order c = in_order_sorted c.sort_unstable.new.self.items c.sort_unstable.ensures.sorted
