-- What is handed out of a content in a range says there what the whole says.
use Rattle.std.proofs.Common.{◌≡◌, ℕ, Bool, true, false, ◌&&◌, cond, ltb, List, [], ◌∷◌, None, inl, inr, refl, sym, ap, ◌∙◌, subst}
use Rattle.std.proofs.lemmas.Bool.{cases_Bool}
use Rattle.std.specs.List.{filter}
use Rattle.xdb_key.specs.Bounds.{Bounds, holds}
use Rattle.xdb_key.specs.declared.op.Op.{Op}
use Rattle.xdb_plain.specs.PlainMap.{PlainMap}
use Rattle.xdb_rangedel.specs.Content.{Item, seq_of, here, mark_at, said_by, newer, newest, value_of, in_pieces, IsImage, IsClear}
use Rattle.xdb_rangedel.specs.Layers.{IsDrawn}
use Rattle.xdb_rangedel.specs.Members.{Has, SameMembers}
use Rattle.xdb_rangedel.specs.View.{restricted}
use Rattle.xdb_rangedel.proofs.NewestLaws.{mark_at-unseen, newest_unordered}
use Rattle.xdb_rangedel.proofs.LayerLaws.{drawn_clear, drawn_trans}
use Rattle.xdb_rangedel.proofs.SpanLaws.{newest-in_pieces, drawn-in_pieces}
use Rattle.xdb_rangedel.proofs.ViewLaws.{newest-restricted, drawn-restricted}
use Rattle.xdb_mem.specs.Parts.{items, items_below}
use Rattle.xdb_laws.specs.Image.{image, AreAlikeIn}
use Rattle.xdb_laws.proofs.ImageLaws.{image-is}

and-false : (b t : Bool) → t ≡ false → (b && t) ≡ false
and-false true t e = e
and-false false t e = refl

-- what is numbered from the limit on isn't seen
newest-below : (c : List Item) (limit : ℕ) (k : List ℕ) → newest (filter (λ i. ltb (seq_of i) limit) c) limit k ≡ newest c limit k
newest-below [] limit k = refl
newest-below (i ∷ c) limit k = elim (cases_Bool (ltb (seq_of i) limit)) [
  | inl e ↦ ap (λ t. newest (cond t (i ∷ filter (λ j. ltb (seq_of j) limit) c) (filter (λ j. ltb (seq_of j) limit) c)) limit k) e
      ∙ ap (λ o. newer (mark_at limit k i) o) (newest-below c limit k)
  | inr e ↦ ap (λ t. newest (cond t (i ∷ filter (λ j. ltb (seq_of j) limit) c) (filter (λ j. ltb (seq_of j) limit) c)) limit k) e
      ∙ newest-below c limit k
      ∙ ap (λ o. newer o (newest c limit k)) (sym (mark_at-unseen limit k i (and-false (here k i) (ltb (seq_of i) limit) e)))
]

filter-has : (c : List Item) (limit : ℕ) (i : Item) → Has (filter (λ j. ltb (seq_of j) limit) c) i → Has c i
filter-has [] limit i h = h
filter-has (j ∷ c) limit i h = elim (cases_Bool (ltb (seq_of j) limit)) [
  | inl e ↦
      let h' : Has (j ∷ filter (λ x. ltb (seq_of x) limit) c) i = subst (λ t. Has (cond t (j ∷ filter (λ x. ltb (seq_of x) limit) c) (filter (λ x. ltb (seq_of x) limit) c)) i) e h in
      elim h' [
        | inl is ↦ inl is
        | inr more ↦ inr (filter-has c limit i more)
      ]
  | inr e ↦ inr (filter-has c limit i (subst (λ t. Has (cond t (j ∷ filter (λ x. ltb (seq_of x) limit) c) (filter (λ x. ltb (seq_of x) limit) c)) i) e h))
]

drawn-below : (c : List Item) (limit : ℕ) → IsDrawn c (filter (λ i. ltb (seq_of i) limit) c)
drawn-below c limit = λ k i h at_i. (i, filter-has c limit i h, at_i, refl, refl)

-- what parts are drawn from
pub drawn-parts : (r : Bounds) (limit : ℕ) (ops : List (ℕ × Op)) → IsDrawn (items ops) (in_pieces (restricted r (items_below limit ops)))
drawn-parts r limit ops =
    drawn_trans (items ops) (restricted r (items_below limit ops)) (in_pieces (restricted r (items_below limit ops)))
    (drawn_trans (items ops) (items_below limit ops) (restricted r (items_below limit ops)) (drawn-below (items ops) limit) (drawn-restricted r (items_below limit ops)))
    (drawn-in_pieces (restricted r (items_below limit ops)))

pub same-drawn : (old new parts : List Item) → SameMembers parts new → IsDrawn old new → IsDrawn old parts
same-drawn old new parts same drawn = λ k i h at_i. drawn k i ((same i).0 h) at_i

pub parts-clear : (r : Bounds) (limit : ℕ) (ops : List (ℕ × Op)) (parts : List Item) → SameMembers parts (in_pieces (restricted r (items_below limit ops))) → IsClear (items ops) → IsClear parts
parts-clear r limit ops parts same clear =
    drawn_clear (items ops) parts (same-drawn (items ops) (in_pieces (restricted r (items_below limit ops))) parts same (drawn-parts r limit ops)) clear

pub parts-say : (r : Bounds) (limit : ℕ) (ops : List (ℕ × Op)) (parts : List Item) (k : List ℕ) → SameMembers parts (in_pieces (restricted r (items_below limit ops))) → IsClear (items ops) → holds r k ≡ true → newest parts limit k ≡ newest (items ops) limit k
parts-say r limit ops parts k same clear at_k =
    newest_unordered parts (in_pieces (restricted r (items_below limit ops))) limit k same (parts-clear r limit ops parts same clear)
    ∙ newest-in_pieces (restricted r (items_below limit ops)) limit k
    ∙ newest-restricted r (items_below limit ops) limit k
    ∙ ap (λ t. cond t (newest (items_below limit ops) limit k) None) at_k
    ∙ newest-below (items ops) limit k

-- the image of the parts is the map, inside the range
pub parts-alike : (r : Bounds) (limit : ℕ) (ops : List (ℕ × Op)) (parts : List Item) (m : PlainMap) → SameMembers parts (in_pieces (restricted r (items_below limit ops))) → IsClear (items ops) → IsImage (items ops) limit m → AreAlikeIn r (image parts limit) m
parts-alike r limit ops parts m same clear is = λ k h.
    image-is parts limit k ∙ ap (λ o. value_of (said_by o)) (parts-say r limit ops parts k same clear h) ∙ sym (is k)
