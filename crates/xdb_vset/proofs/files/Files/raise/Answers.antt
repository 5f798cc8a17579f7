-- The count at the place is one more, and the others stay.
use Rattle.std.proofs.Common.{◌+◌, ◌∙◌, refl, sym, ap, cond, eqb, subst, arith}
use Rattle.std.specs.Option.{IsSome}
use Rattle.xdb_vset.specs.Backings.{count_in, file_in}
use Rattle.xdb_vset.specs.FileLists.{FileLists}
use Rattle.xdb_vset.proofs.FileLaws.{count_found, never_missing, counted_rising, counted_file, raised_count, raised_low, files_same}
use Rattle.xdb_vset.proofs.files.Files.raise.Goals as goal

pub overflow_add-backing : goal.overflow_add-backing
overflow_add-backing g c =
    let place = rw c.deref.ensures.value at c.in-Ok.ensures in
    let x = c.index_mut-backing.result.now in
    let e = ap (λ b. b.count) c.index_mut-backing.ensures.value ∙ count_found c.self.inside.named.items c.args.num c.in-Ok.at x c.self.invariant.0.named_rise place.0 place.1 in
    let low = c.self.invariant.2 c.args.num in
    let same = ap (λ f. f.raised) c.self.view_is in
    let small = c.requires.small in
    omega arith

pub invariant_of-self : goal.invariant_of-self
invariant_of-self g c =
    let place = rw c.deref.ensures.value at c.in-Ok.ensures in
    let named = c.self.inside.named.items in
    let x = c.index_mut-backing.result.now in
    let read = c.index_mut-backing.ensures.value in
    let are = c.self.invariant.0 in (
      files_same named c.self.inside.known.items c.self.inside.dead.items c.self.inside.taken.items are _ (counted_rising named c.args.num c.in-Ok.at are.named_rise place.0 place.1 x read (x.count + 1))
          (counted_file named c.args.num c.in-Ok.at are.named_rise place.0 place.1 x read (x.count + 1)),
      c.self.invariant.1,
      raised_low named c.args.num c.in-Ok.at are.named_rise place.0 place.1 x read (x.count + 1) refl c.self.inside.raised c.self.invariant.2,
    )

pub returns-in-Ok-clause-count : goal.returns-in-Ok-clause-count
returns-in-Ok-clause-count g c = λ b.
    let place = rw c.deref.ensures.value at c.in-Ok.ensures in
    let x = c.index_mut-backing.result.now in
    raised_count c.self.inside.named.items c.args.num c.in-Ok.at c.self.invariant.0.named_rise place.0 place.1 x c.index_mut-backing.ensures.value (x.count + 1) refl b
    ∙ ap (λ (f : FileLists g.row.F.Denot). count_in b f.named + cond (eqb b c.args.num) 1 0) c.self.view_is

pub returns-in-Ok-clause-file : goal.returns-in-Ok-clause-file
returns-in-Ok-clause-file g c = λ b.
    let place = rw c.deref.ensures.value at c.in-Ok.ensures in
    let x = c.index_mut-backing.result.now in
    counted_file c.self.inside.named.items c.args.num c.in-Ok.at c.self.invariant.0.named_rise place.0 place.1 x c.index_mut-backing.ensures.value (x.count + 1) b
    ∙ ap (λ (f : FileLists g.row.F.Denot). file_in b f.named) c.self.view_is

pub returns-in_default-clause-count : goal.returns-in_default-clause-count
returns-in_default-clause-count g c =
    let place = rw c.deref.ensures.value at c.in_default.ensures in
    absurd (never_missing c.self.inside.named.items c.args.num c.in_default.field-0 place (subst (λ (f : FileLists g.row.F.Denot). IsSome (file_in c.args.num f.named)) (sym c.self.view_is) c.requires.named))
