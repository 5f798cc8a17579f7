-- The file at the place is gone, and its number dead unless it was taken.
use Rattle.std.proofs.Common.{◌≡◌, ◌<◌, ◌∙◌, true, false, length, sym, subst, arith}
use Rattle.xdb_lists.specs.Numbers.{is_among}
use Rattle.xdb_vset.specs.FileLists.{FileLists}
use Rattle.xdb_vset.proofs.FileLaws.{files_without, without_low, dies_too, taken_stays}
use Rattle.xdb_vset.proofs.files.Files.let_go.Goals as goal

pub invariant_of-self : goal.invariant_of-self
invariant_of-self g c =
    let named = c.self.inside.named.items in
    let dead = c.self.inside.dead.items in
    let taken = c.self.inside.taken.items in
    let are = c.self.invariant.0 in
    let x = c.remove-num.result in
    let l = subst (λ (f : FileLists g.row.F.Denot). c.args.at < length f.named) (sym c.self.view_is) c.requires in
    let untaken : is_among x.num taken ≡ false = sym c.has.ensures ∙ c.if-not-has.true in
    let room = c.self.invariant.1 in
    let less = c.remove-num.ensures.len in
    let same = c.remove-num.ensures.capacity in
    let len = c.put.ensures.len in
    let capacity = c.put.ensures.capacity in (
      files_without named c.self.inside.known.items dead taken are c.args.at c.remove-num.new.self.items c.put.new.nums.items x l c.remove-num.ensures.items c.remove-num.ensures.value c.put.ensures.rising
          (λ b. c.put.ensures.among b ∙ dies_too x.num b taken (is_among b dead) untaken),
      record { to_be_named = omega arith; to_be_known = omega arith; to_die = omega arith; to_be_taken = omega arith },
      without_low named c.remove-num.new.self.items c.args.at x c.self.inside.raised are.named_rise l c.remove-num.ensures.items c.remove-num.ensures.value c.self.invariant.2,
    )

pub invariant_of-self-else-not-has : goal.invariant_of-self-else-not-has
invariant_of-self-else-not-has g c =
    let named = c.self.inside.named.items in
    let dead = c.self.inside.dead.items in
    let taken = c.self.inside.taken.items in
    let are = c.self.invariant.0 in
    let x = c.remove-num.result in
    let l = subst (λ (f : FileLists g.row.F.Denot). c.args.at < length f.named) (sym c.self.view_is) c.requires in
    let gone : is_among x.num taken ≡ true = sym c.has.ensures ∙ c.if-not-has.false in
    let room = c.self.invariant.1 in
    let less = c.remove-num.ensures.len in
    let same = c.remove-num.ensures.capacity in (
      files_without named c.self.inside.known.items dead taken are c.args.at c.remove-num.new.self.items dead x l c.remove-num.ensures.items c.remove-num.ensures.value are.dead_rise
          (λ b. taken_stays x.num b taken (is_among b dead) gone),
      record { to_be_named = omega arith; to_be_known = omega arith; to_die = omega arith; to_be_taken = omega arith },
      without_low named c.remove-num.new.self.items c.args.at x c.self.inside.raised are.named_rise l c.remove-num.ensures.items c.remove-num.ensures.value c.self.invariant.2,
    )
