-- What is left to answer of `sorted_ends`.
use Rattle.std.proofs.Common.{subst, sym}
use Rattle.std.specs.Cmp.Lexicographic.{texts_ties, nat_list_cmp_total}
use Rattle.std.proofs.lemmas.List.Filters.{dedup_is}
use Rattle.std.proofs.lemmas.List.Kept.{IsStrictlySortedBy-dedup}
use Rattle.xdb_rangedel.specs.Members.{SameMembers}
use Rattle.xdb_rangedel.specs.Sweep.{IsRising}
use Rattle.xdb_rangedel.proofs.StripLaws.{same_after_dedup, rising_from_sorted}
use Rattle.xdb_rangedel.proofs.sweep.sorted_ends.Goals as goal

pub returns-clause-ends : goal.returns-clause-ends
returns-clause-ends c =
    let same = same_after_dedup c.in_ok-bounds.bounds.items c.sort_unstable.new.self.items c.dedup.new.self.items c.sort_unstable.ensures.permutation (dedup_is _ _ _ c.dedup.ensures.filtered) in
    subst (SameMembers c.dedup.new.self.items) c.in_ok-bounds.ensures.ends same

pub returns-clause-rising : goal.returns-clause-rising
returns-clause-rising c =
    subst IsRising (sym (dedup_is _ _ _ c.dedup.ensures.filtered)) (rising_from_sorted _ (IsStrictlySortedBy-dedup nat_list_cmp_total texts_ties c.sort_unstable.new.self.items c.sort_unstable.ensures.sorted))
