-- One number more is known, and it is dead unless it has a file or was taken.
use Rattle.std.proofs.Common.{◌≡◌, ◌∙◌, ◌&&◌, not, true, false, sym, ap, ap₂, arith}
use Rattle.std.specs.Option.{is_some}
use Rattle.std.proofs.lemmas.Bool.{and_left, and_right}
use Rattle.xdb_lists.specs.Numbers.{is_among}
use Rattle.xdb_vset.specs.Backings.{file_in}
use Rattle.xdb_vset.proofs.FileLaws.{files_known, dies, lives, unnamed_tells}
use Rattle.xdb_vset.proofs.files.Files.know.Goals as goal

pub invariant_of-self : goal.invariant_of-self
invariant_of-self g c =
    let num = c.args.num in
    let named = c.self.inside.named.items in
    let dead = c.self.inside.dead.items in
    let taken = c.self.inside.taken.items in
    let are = c.self.invariant.0 in
    let place = rw c.deref.ensures.value at c.find.ensures in
    let unnamed : not (is_some (file_in num named)) ≡ true = sym (unnamed_tells named num c.find.result are.named_rise place) ∙ sym c.is_err-unnamed.ensures.value ∙ c.if-unnamed.true in
    let untaken : is_among num taken ≡ false = sym c.has.ensures ∙ c.if-not-has.true in
    let room = c.self.invariant.1 in
    let spare = ap (λ f. f.spare) c.self.view_is in
    let some = c.requires in
    let len = c.put.ensures.len in
    let capacity = c.put.ensures.capacity in
    let len' = c.put-then-not-has.ensures.len in
    let capacity' = c.put-then-not-has.ensures.capacity in (
      files_known named c.self.inside.known.items dead taken are c.put.new.nums.items c.put-then-not-has.new.nums.items num c.put.ensures.rising c.put-then-not-has.ensures.rising c.put.ensures.among
          (λ n. c.put-then-not-has.ensures.among n ∙ dies (λ n. not (is_some (file_in n named)) && not (is_among n taken)) num n (is_among n dead) (ap₂ (λ a b. a && not b) unnamed untaken)),
      record { to_be_named = omega arith; to_be_known = omega arith; to_die = omega arith; to_be_taken = omega arith },
      c.self.invariant.2,
    )

pub invariant_of-self-else-not-has : goal.invariant_of-self-else-not-has
invariant_of-self-else-not-has g c =
    let num = c.args.num in
    let named = c.self.inside.named.items in
    let dead = c.self.inside.dead.items in
    let taken = c.self.inside.taken.items in
    let gone : is_among num taken ≡ true = sym c.has.ensures ∙ c.if-not-has.false in
    let off = and_right (not (is_some (file_in num named))) (not (is_among num taken)) (ap not gone) in
    let room = c.self.invariant.1 in
    let spare = ap (λ f. f.spare) c.self.view_is in
    let some = c.requires in
    let len = c.put.ensures.len in
    let capacity = c.put.ensures.capacity in (
      files_known named c.self.inside.known.items dead taken c.self.invariant.0 c.put.new.nums.items dead num c.put.ensures.rising c.self.invariant.0.dead_rise c.put.ensures.among
          (λ n. lives (λ n. not (is_some (file_in n named)) && not (is_among n taken)) num n (is_among n dead) off),
      record { to_be_named = omega arith; to_be_known = omega arith; to_die = omega arith; to_be_taken = omega arith },
      c.self.invariant.2,
    )

pub invariant_of-self-else-unnamed : goal.invariant_of-self-else-unnamed
invariant_of-self-else-unnamed g c =
    let num = c.args.num in
    let named = c.self.inside.named.items in
    let dead = c.self.inside.dead.items in
    let taken = c.self.inside.taken.items in
    let are = c.self.invariant.0 in
    let place = rw c.deref.ensures.value at c.find.ensures in
    let there : not (is_some (file_in num named)) ≡ false = sym (unnamed_tells named num c.find.result are.named_rise place) ∙ sym c.is_err-unnamed.ensures.value ∙ c.if-unnamed.false in
    let off = and_left (not (is_some (file_in num named))) (not (is_among num taken)) there in
    let room = c.self.invariant.1 in
    let spare = ap (λ f. f.spare) c.self.view_is in
    let some = c.requires in
    let len = c.put.ensures.len in
    let capacity = c.put.ensures.capacity in (
      files_known named c.self.inside.known.items dead taken are c.put.new.nums.items dead num c.put.ensures.rising are.dead_rise c.put.ensures.among
          (λ n. lives (λ n. not (is_some (file_in n named)) && not (is_among n taken)) num n (is_among n dead) off),
      record { to_be_named = omega arith; to_be_known = omega arith; to_die = omega arith; to_be_taken = omega arith },
      c.self.invariant.2,
    )
