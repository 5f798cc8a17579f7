-- The least dead number is taken.
use Rattle.std.proofs.Common.{◌≤◌, ℕ, IsTrue, sym, ap, subst, ◌∙◌, arith}
use Rattle.xdb_lists.specs.Numbers.{is_among, NumbersRise}
use Rattle.xdb_lists.proofs.NumberLaws.{least, among_first}
use Rattle.xdb_vset.specs.FileLists.{FileLists}
use Rattle.xdb_vset.proofs.FileLaws.{files_taken}
use Rattle.xdb_vset.proofs.files.Files.take_least.Goals as goal

pub invariant_of-self-2 : goal.invariant_of-self-2
invariant_of-self-2 g c =
    let room = c.self.invariant.1 in
    let less = c.in_ok-num.ensures.cases in
    let same = c.in_ok-num.ensures.capacity in
    let len = c.put.ensures.len in
    let capacity = c.put.ensures.capacity in (
      files_taken c.self.inside.named.items c.self.inside.known.items c.self.inside.dead.items c.self.inside.taken.items c.self.invariant.0 c.in_ok-num.num c.pop_front.new.self.items c.put.new.nums.items c.in_ok-num.ensures.items c.put.ensures.rising c.put.ensures.among,
      record { to_be_named = omega arith; to_be_known = omega arith; to_die = omega arith; to_be_taken = omega arith },
      c.self.invariant.2,
    )

pub returns-clause-least : goal.returns-clause-least
returns-clause-least g c =
    let num = c.in_ok-num.num in
    let rest = c.pop_front.new.self.items in
    let e = c.in_ok-num.ensures.items in
    let rising = subst NumbersRise e c.self.invariant.0.dead_rise in
    subst (λ (f : FileLists g.row.F.Denot). IsTrue (is_among num f.dead) × ((n : ℕ) → IsTrue (is_among n f.dead) → num ≤ n)) c.self.view_is (
      ap (is_among num) e ∙ among_first num rest,
      λ n h. least num rest n rising (sym (ap (is_among n) e) ∙ h),
    )

pub returns-clause-files : goal.returns-clause-files
returns-clause-files g c = (invariant_of-self-2 g c).0
