-- The file of a loaded table, shown with the load's number, is the table's operations written anew.
use Rattle.std.proofs.Common.{◌≡◌, ℕ, ◌<◌, Bool, true, false, cond, eqb, List, [], ◌∷◌, map, inl, inr, refl, sym, ap, ◌∙◌, subst, arith}
use Rattle.std.proofs.lemmas.Bool.{cases_Bool, eqb-true}
use Rattle.xdb_key.specs.Bounds.{Bounds, holds}
use Rattle.xdb_key.specs.Ops.{op_hull}
use Rattle.xdb_key.specs.Order.{is_below}
use Rattle.xdb_key.specs.declared.op.Op.{Op}
use Rattle.xdb_key.specs.declared.op.Op.TheVariants.{Set, Del, DelSpan}
use Rattle.xdb_mem.specs.Parts.{item_at}
use Rattle.xdb_rangedel.specs.Content.{Item, entry, span, seq_of, here, rank, said, spans_in}
use Rattle.xdb_rangedel.specs.Layers.{IsDrawn}
use Rattle.xdb_rangedel.specs.Members.{Has}
use Rattle.xdb_rangedel.specs.Pieces.{ends}
use Rattle.xdb_rangedel.specs.View.{at_number, renumbered, view}
use Rattle.xdb_rangedel.proofs.MemberLaws.{Has-map, Has-from_map}
use Rattle.xdb_rangedel.proofs.RangeLaws.{drawn-view, kept-view}
use Rattle.xdb_laws.specs.Loads.{items_at, HasOperations, IsAround}
use Rattle.xdb_laws.specs.Rewrite.{IsRewrite}
use Rattle.xdb_laws.proofs.AnswerLaws.{holds-covered}
use Rattle.xdb_laws.proofs.RewriteLaws.{rewrite-again, rewrite-cut, shown-numbers}
use Rattle.xdb_laws.proofs.TouchLaws.{here-hull}

-- ---- one number for all

here-at : (n : ℕ) (k : List ℕ) (i : Item) → here k (at_number n i) ≡ here k i
here-at n k (entry key seq v) = refl
here-at n k (span t) = refl

said-at : (n : ℕ) (i : Item) → said (at_number n i) ≡ said i
said-at n (entry key seq v) = refl
said-at n (span t) = refl

seq-at : (n : ℕ) (i : Item) → seq_of (at_number n i) ≡ n
seq-at n (entry key seq v) = refl
seq-at n (span t) = refl

-- of one rank are two entries, or two spans
rank-at : (n : ℕ) (i j : Item) → rank j ≡ rank i → rank (at_number n j) ≡ rank (at_number n i)
rank-at n (entry key seq v) (entry a s w) e = refl
rank-at n (entry key seq v) (span t) e = absurd (omega arith)
rank-at n (span t) (entry a s w) e = absurd (omega arith)
rank-at n (span t) (span u) e = refl

drawn-at : (n : ℕ) (a b : List Item) → IsDrawn a b → IsDrawn (map (at_number n) a) (map (at_number n) b)
drawn-at n a b d = λ k i h at_i.
    let (x, has, e) = Has-from_map (at_number n) b i h in
    let (y, there, at_y, ranks, says) = d k x has (sym (here-at n k x) ∙ ap (here k) e ∙ at_i) in (
      at_number n y,
      Has-map (at_number n) a y there,
      here-at n k y ∙ at_y,
      rank-at n x y ranks ∙ ap rank e,
      said-at n y ∙ says ∙ sym (said-at n x) ∙ ap said e,
    )

rewrite-at : (n : ℕ) (a b : List Item) → IsRewrite a b → IsRewrite (map (at_number n) a) (map (at_number n) b)
rewrite-at n a b w = record {
  drawn = drawn-at n a b w.drawn;
  kept = drawn-at n b a w.kept;
  numbers = λ i h.
      let (x, has, e) = Has-from_map (at_number n) b i h in
      let (y, there, same) = w.numbers x has in
      (at_number n y, Has-map (at_number n) a y there, seq-at n y ∙ sym (seq-at n x) ∙ ap seq_of e);
}

item-at_number : (n : ℕ) (op : Op) → at_number n (item_at 0 op) ≡ item_at n op
item-at_number n (Set key value) = refl
item-at_number n (Del key) = refl
item-at_number n (DelSpan range) = refl

items-at_number : (n : ℕ) (ops : List Op) → map (at_number n) (items_at 0 ops) ≡ items_at n ops
items-at_number n [] = refl
items-at_number n (op ∷ ops) = λ i. item-at_number n op i ∷ items-at_number n ops i

-- ---- the file

renumbered-is : (n : ℕ) (none : Bool) (c : List Item) → eqb n 0 ≡ none → none ≡ false → renumbered n c ≡ map (at_number n) c
renumbered-is n none c e f = ap (λ b. cond b c (map (at_number n) c)) (e ∙ f)

not-none : (n : ℕ) → 0 < n → eqb n 0 ≡ false
not-none n h = elim (cases_Bool (eqb n 0)) [
  | inl e ↦ let none = eqb-true n 0 e in absurd (omega arith)
  | inr e ↦ e
]

numbered-file : (n : ℕ) (ops : List Op) (file : List Item) → 0 < n → HasOperations ops file → IsRewrite (items_at n ops) (renumbered n file)
numbered-file n ops file high is =
    subst (λ x. IsRewrite (items_at n ops) x) (sym (renumbered-is n false file (not-none n high) refl))
    (subst (λ x. IsRewrite x (map (at_number n) file)) (items-at_number n ops)
    (rewrite-at n (items_at 0 ops) file (rewrite-cut (items_at 0 ops) (ends (spans_in (items_at 0 ops))) file is)))

-- the range holds each key that the operations speak of
held-around : (n : ℕ) (ops : List Op) (r : Bounds) (k : List ℕ) (i : Item) → IsAround ops r → Has (items_at n ops) i → here k i ≡ true → holds r k ≡ true
held-around n ops r k i around h at_i =
    let (op, has, e) = Has-from_map (item_at n) ops i h in
    holds-covered r (op_hull op) k (around op has) (here-hull n op k (ap (here k) e ∙ at_i))

shown-whole : (n : ℕ) (ops : List Op) (file : List Item) (r : Bounds) → IsAround ops r → IsRewrite (items_at n ops) (renumbered n file) → IsRewrite (renumbered n file) (view file r n)
shown-whole n ops file r around w = record {
  drawn = drawn-view file r n;
  kept = λ k i h at_i.
      let (j, has, at_j, ranks, says) = w.drawn k i h at_i in
      kept-view file r n k i h (held-around n ops r k j around has at_j) at_i;
  numbers = λ i h. shown-numbers (renumbered n file) r (is_below r.lo r.hi) i h;
}

pub file-shown : (n : ℕ) (ops : List Op) (file : List Item) (r : Bounds) → 0 < n → HasOperations ops file → IsAround ops r → IsRewrite (items_at n ops) (view file r n)
file-shown n ops file r high is around =
    let w = numbered-file n ops file high is in
    rewrite-again (items_at n ops) (renumbered n file) (view file r n) w (shown-whole n ops file r around w)
