-- What is left to answer of `fragments`.
use Rattle.std.proofs.Common.{◌≡◌, ◌-◌, length, map, IfOk, sym, subst, arith}
use Rattle.std.proofs.lemmas.Result.{IfOk-weaker}
use Rattle.xdb_rangedel.specs.Members.{SameMembers}
use Rattle.xdb_rangedel.specs.Pieces.{AreFragments, pieces}
use Rattle.xdb_rangedel.specs.Sweep.{laid, strip_of, AreColumns}
use Rattle.xdb_rangedel.proofs.LaidLaws.{laid_pieces, laid_over_all}
use Rattle.xdb_rangedel.proofs.sweep.fragments.Goals as goal
use Rattle.xdb_rangedel.proofs.sweep.fragments.Goals.{After-drop-bounds-2}

-- what the steps have made, of the lists themselves

laid_known : (c : After-drop-bounds-2) → IfOk c.lay.result (λ made. made.items ≡ laid c.in_ok-bounds.bounds.items c.in_ok-columns.columns.items (length c.in_ok-bounds.bounds.items - 1))
laid_known c = rw (c.deref-3.ensures.value, c.deref-4.ensures.value) at c.lay.ensures

strips_known : (c : After-drop-bounds-2) → SameMembers c.in_ok-strips.strips.items (map (strip_of c.in_ok-bounds.bounds.items) c.args.spans.now)
strips_known c = rw c.deref.ensures.value at c.in_ok-strips.ensures.strips

columns_known : (c : After-drop-bounds-2) → AreColumns c.in_ok-strips.strips.items (length c.in_ok-bounds.bounds.items) c.in_ok-columns.columns.items
columns_known c =
    let long : c.len.result ≡ length c.in_ok-bounds.bounds.items = omega (arith, c.in_ok-bounds.bounds.ok.0) in
    rw (c.deref-2.ensures.value, long) at c.in_ok-columns.ensures

pub returns-clause-fragments : goal.returns-clause-fragments
returns-clause-fragments c =
    let made = laid_over_all c.args.spans.now _ _ _ c.in_ok-bounds.ensures.ends c.in_ok-bounds.ensures.rising c.in_ok-bounds.ensures.ordered (strips_known c) (columns_known c) in
    IfOk-weaker c.lay.result (λ v. v.items ≡ laid c.in_ok-bounds.bounds.items c.in_ok-columns.columns.items (length c.in_ok-bounds.bounds.items - 1)) (λ v. AreFragments v.items) (λ v e. subst AreFragments (sym e) made) (laid_known c)

pub returns-clause-pieces : goal.returns-clause-pieces
returns-clause-pieces c =
    let made = laid_pieces c.args.spans.now _ _ _ c.in_ok-bounds.ensures.ends c.in_ok-bounds.ensures.rising c.in_ok-bounds.ensures.ordered (strips_known c) (columns_known c) in
    IfOk-weaker c.lay.result (λ v. v.items ≡ laid c.in_ok-bounds.bounds.items c.in_ok-columns.columns.items (length c.in_ok-bounds.bounds.items - 1)) (λ v. SameMembers v.items (pieces c.args.spans.now)) (λ v e. subst (λ ts. SameMembers ts (pieces c.args.spans.now)) (sym e) made) (laid_known c)
