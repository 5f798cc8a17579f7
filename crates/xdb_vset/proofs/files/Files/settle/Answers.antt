-- The file goes where its count is 0.
use Rattle.std.proofs.Common.{◌≡◌, ◌∙◌, ◌&&◌, cond, eqb, None, inl, inr, sym, ap, subst, Option}
use Rattle.std.specs.List.{remove}
use Rattle.std.proofs.lemmas.Bool.{eq-eqb, eqb-true, ne_eqb}
use Rattle.xdb_vset.specs.Backings.{count_in, file_in}
use Rattle.xdb_vset.specs.FileLists.{FileLists}
use Rattle.xdb_vset.proofs.FileLaws.{count_found, file_missing, remove_count, remove_file, same_choice, settled_file, unsettled_file}
use Rattle.xdb_vset.proofs.files.Files.settle.Goals as goal

pub returns-then-index-eq0-clause-count : goal.returns-then-index-eq0-clause-count
returns-then-index-eq0-clause-count g c = λ b.
    let place = rw c.deref.ensures.value at c.in-Ok.ensures in
    let bs = c.self.inside.named.items in
    let num = c.args.num in
    let y = c.index.result.now in
    let zero' : count_in num bs ≡ 0 = sym (sym c.if-index-eq0.true ∙ ap (λ b. b.count) c.index.ensures ∙ count_found bs num c.in-Ok.at y c.self.invariant.0.named_rise place.0 place.1) in
    ap (count_in b) c.let_go.ensures.named
    ∙ subst (λ (f : FileLists g.row.F.Denot). count_in b (remove f.named c.in-Ok.at) ≡ count_in b f.named) c.self.view_is
    (remove_count bs num c.in-Ok.at c.self.invariant.0.named_rise place.0 place.1 y b ∙ same_choice b num (λ n. count_in n bs) 0 (sym zero'))

pub returns-then-index-eq0-clause-file : goal.returns-then-index-eq0-clause-file
returns-then-index-eq0-clause-file g c = λ b.
    let place = rw c.deref.ensures.value at c.in-Ok.ensures in
    let bs = c.self.inside.named.items in
    let num = c.args.num in
    let y = c.index.result.now in
    let zero' : count_in num bs ≡ 0 = sym (sym c.if-index-eq0.true ∙ ap (λ b. b.count) c.index.ensures ∙ count_found bs num c.in-Ok.at y c.self.invariant.0.named_rise place.0 place.1) in
    ap (file_in b) c.let_go.ensures.named
    ∙ subst (λ (f : FileLists g.row.F.Denot). file_in b (remove f.named c.in-Ok.at) ≡ cond {A = Option g.row.F.Denot} (eqb b num && eqb (count_in b f.named) 0) None (file_in b f.named)) c.self.view_is
    (remove_file bs num c.in-Ok.at c.self.invariant.0.named_rise place.0 place.1 y b ∙ settled_file bs num b (λ e. eq-eqb (count_in b bs) 0 (ap (λ n. count_in n bs) (eqb-true b num e) ∙ zero')))

pub returns-else-index-eq0-clause-file : goal.returns-else-index-eq0-clause-file
returns-else-index-eq0-clause-file g c = λ b.
    let place = rw c.deref.ensures.value at c.in-Ok.ensures in
    let bs = c.self.inside.named.items in
    let num = c.args.num in
    let y = c.index.result.now in
    let counted = ap (λ b. b.count) c.index.ensures ∙ count_found bs num c.in-Ok.at y c.self.invariant.0.named_rise place.0 place.1 in
    subst (λ (f : FileLists g.row.F.Denot). file_in b f.named ≡ cond {A = Option g.row.F.Denot} (eqb b num && eqb (count_in b f.named) 0) None (file_in b f.named)) c.self.view_is
    (unsettled_file bs num b (λ e. inl (ne_eqb (count_in b bs) 0 (λ z. c.if-index-eq0.false (counted ∙ ap (λ n. count_in n bs) (sym (eqb-true b num e)) ∙ z)))))

pub returns-in_default-clause-file : goal.returns-in_default-clause-file
returns-in_default-clause-file g c = λ b.
    let place = rw c.deref.ensures.value at c.in_default.ensures in
    let bs = c.self.inside.named.items in
    subst (λ (f : FileLists g.row.F.Denot). file_in b f.named ≡ cond {A = Option g.row.F.Denot} (eqb b c.args.num && eqb (count_in b f.named) 0) None (file_in b f.named)) c.self.view_is
    (unsettled_file bs c.args.num b (λ e. inr (ap (λ n. file_in n bs) (eqb-true b c.args.num e) ∙ sym (file_missing bs c.args.num c.in_default.field-0 place))))
