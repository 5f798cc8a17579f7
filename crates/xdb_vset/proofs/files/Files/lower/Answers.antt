-- One less, or none left.
use Rattle.std.proofs.Common.{◌≡◌, ◌<◌, ◌∙◌, ◌-◌, sym, ap, subst, arith}
use Rattle.std.specs.List.{remove}
use Rattle.xdb_vset.specs.Backings.{count_in, FilesAre}
use Rattle.xdb_vset.specs.FileLists.{FileLists}
use Rattle.xdb_vset.proofs.FileLaws.{count_found, count_missing, less_count, less_files, last_count, last_files, counted_rising, counted_file, lowered_low, files_same}
use Rattle.xdb_vset.proofs.files.Files.lower.Goals as goal

pub overflow_sub-left : goal.overflow_sub-left
overflow_sub-left g c =
    let place = rw c.deref.ensures.value at c.in-Ok.ensures in
    let y = c.index.result.now in
    let counted : y.count ≡ count_in c.args.num c.self.inside.named.items = ap (λ b. b.count) c.index.ensures ∙ count_found c.self.inside.named.items c.args.num c.in-Ok.at y c.self.invariant.0.named_rise place.0 place.1 in
    let some = subst (λ (f : FileLists g.row.F.Denot). 0 < count_in c.args.num f.named) (sym c.self.view_is) c.requires in
    omega arith

pub invariant_of-self : goal.invariant_of-self
invariant_of-self g c =
    let place = rw c.deref.ensures.value at c.in-Ok.ensures in
    let named = c.self.inside.named.items in
    let are = c.self.invariant.0 in
    let x = c.index_mut-backing.result.now in
    let read = c.index_mut-backing.ensures.value in
    let y = c.index.result.now in
    let left = y.count - 1 in
    let a = ap (λ b. b.count) c.index.ensures ∙ count_found named c.args.num c.in-Ok.at y are.named_rise place.0 place.1 in
    let b = ap (λ b. b.count) read ∙ count_found named c.args.num c.in-Ok.at x are.named_rise place.0 place.1 in (
      files_same named c.self.inside.known.items c.self.inside.dead.items c.self.inside.taken.items are _ (counted_rising named c.args.num c.in-Ok.at are.named_rise place.0 place.1 x read left)
          (counted_file named c.args.num c.in-Ok.at are.named_rise place.0 place.1 x read left),
      c.self.invariant.1,
      lowered_low named c.args.num c.in-Ok.at are.named_rise place.0 place.1 x read left (omega arith) c.self.inside.raised c.self.invariant.2,
    )

pub returns-then-left-gt0-clause-count : goal.returns-then-left-gt0-clause-count
returns-then-left-gt0-clause-count g c = λ b.
    let place = rw c.deref.ensures.value at c.in-Ok.ensures in
    less_count c.self.inside.named.items c.args.num c.in-Ok.at c.self.invariant.0.named_rise place.0 place.1 c.index_mut-backing.result.now c.index.result.now c.index_mut-backing.ensures.value c.index.ensures b (omega arith)
    ∙ ap (λ (f : FileLists g.row.F.Denot). count_in b f.named) c.self.view_is

pub returns-then-left-gt0-clause-kept : goal.returns-then-left-gt0-clause-kept
returns-then-left-gt0-clause-kept g c = λ files h.
    let place = rw c.deref.ensures.value at c.in-Ok.ensures in
    let h' = subst (λ (f : FileLists g.row.F.Denot). FilesAre files f.named) (sym c.self.view_is) h in
    less_files c.self.inside.named.items c.args.num c.in-Ok.at c.self.invariant.0.named_rise place.0 place.1 c.index_mut-backing.result.now c.index.result.now c.index_mut-backing.ensures.value c.index.ensures files c.if-left-gt0.true h'

pub returns-else-left-gt0-clause-count : goal.returns-else-left-gt0-clause-count
returns-else-left-gt0-clause-count g c = λ b.
    let place = rw c.deref.ensures.value at c.in-Ok.ensures in
    let named = c.self.inside.named.items in
    let y = c.index.result.now in
    let counted : y.count ≡ count_in c.args.num named = ap (λ b. b.count) c.index.ensures ∙ count_found named c.args.num c.in-Ok.at y c.self.invariant.0.named_rise place.0 place.1 in
    let some = subst (λ (f : FileLists g.row.F.Denot). 0 < count_in c.args.num f.named) (sym c.self.view_is) c.requires in
    let few = c.if-left-gt0.false in
    last_count named c.args.num c.in-Ok.at c.self.invariant.0.named_rise place.0 place.1 y y c.index.ensures c.index.ensures c.let_go.new.self.named b (c.let_go.ensures.named ∙ ap (λ (f : FileLists g.row.F.Denot). remove f.named c.in-Ok.at) (sym c.self.view_is)) (omega arith)
    ∙ ap (λ (f : FileLists g.row.F.Denot). count_in b f.named) c.self.view_is

pub returns-else-left-gt0-clause-kept : goal.returns-else-left-gt0-clause-kept
returns-else-left-gt0-clause-kept g c = λ files h.
    let place = rw c.deref.ensures.value at c.in-Ok.ensures in
    let y = c.index.result.now in
    let h' = subst (λ (f : FileLists g.row.F.Denot). FilesAre files f.named) (sym c.self.view_is) h in
    last_files c.self.inside.named.items c.args.num c.in-Ok.at c.self.invariant.0.named_rise place.0 place.1 y y c.index.ensures c.index.ensures files c.let_go.new.self.named (c.let_go.ensures.named ∙ ap (λ (f : FileLists g.row.F.Denot). remove f.named c.in-Ok.at) (sym c.self.view_is)) h'

pub returns-in_default-clause-count : goal.returns-in_default-clause-count
returns-in_default-clause-count g c =
    let place = rw c.deref.ensures.value at c.in_default.ensures in
    let none = count_missing c.self.inside.named.items c.args.num c.in_default.field-0 place in
    let some = subst (λ (f : FileLists g.row.F.Denot). 0 < count_in c.args.num f.named) (sym c.self.view_is) c.requires in
    absurd (omega arith)
