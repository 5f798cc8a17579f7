-- The part of a content in a range says inside what the content says, and nothing outside.
use Rattle.std.proofs.Common.{◌≡◌, ℕ, ◌*◌, Bool, true, false, ◌&&◌, cond, ltb, List, [], ◌∷◌, Option, Some, None, inl, inr, IsTrue, refl, sym, ap, ◌∙◌}
use Rattle.std.proofs.lemmas.Bool.{cases_Bool, and_parts, false≢true}
use Rattle.std.specs.List.{cons_option}
use Rattle.std.specs.Option.{option_map}
use Rattle.xdb_key.specs.Bounds.{Bounds, holds, meets}
use Rattle.xdb_key.specs.Entries.{Tombstone}
use Rattle.xdb_rangedel.specs.Members.{Has}
use Rattle.xdb_rangedel.specs.Clip.{starting_from, ending_by}
use Rattle.xdb_rangedel.specs.Content.{Item, entry, span, Mark, same_key, here, rank, said, mark, is_seen, mark_at, newer, newest}
use Rattle.xdb_rangedel.specs.View.{within, restricted}
use Rattle.xdb_rangedel.specs.Layers.{IsDrawn}
use Rattle.xdb_rangedel.proofs.MemberLaws.{Has-from_filter_map}
use Rattle.xdb_rangedel.proofs.NewestLaws.{same_key-tells}
use Rattle.xdb_rangedel.proofs.CoverLaws.{holds-part_in, meets-from_held, guarded, guarded_none, none-cond}

abbrev mark_in : ℕ → List ℕ → Option Item → Option Mark
mark_in limit k None = None
mark_in limit k (Some i) = mark_at limit k i

newest-cons_option : (o : Option Item) (c : List Item) (limit : ℕ) (k : List ℕ) → newest (cons_option o c) limit k ≡ newer (mark_in limit k o) (newest c limit k)
newest-cons_option None c limit k = refl
newest-cons_option (Some i) c limit k = refl

-- an entry of another key says nothing, kept or not
other_key : (h : Bool) (i : Item) (limit : ℕ) (k : List ℕ) → is_seen limit k i ≡ false → mark_in limit k (cond h (Some i) None) ≡ cond h (mark_at limit k i) None
other_key true i limit k e = refl
other_key false i limit k e = refl

mark-within_entry : (r : Bounds) (key : List ℕ) (seq : ℕ) (v : Option (List ℕ)) (limit : ℕ) (k : List ℕ) → mark_in limit k (within r (entry key seq v)) ≡ cond (holds r k) (mark_at limit k (entry key seq v)) None
mark-within_entry r key seq v limit k = elim (cases_Bool (same_key key k)) [
  | inl e ↦ kept (holds r key) (holds r k) (ap (holds r) (same_key-tells key k e))
  | inr n ↦ dropped (holds r key) (ap (λ b. cond (b && ltb seq limit) (Some (mark (entry key seq v))) None) n)
] where
  kept : (g h : Bool) → g ≡ h → mark_in limit k (cond g (Some (entry key seq v)) None) ≡ cond h (mark_at limit k (entry key seq v)) None
  kept true h e = ap (λ b. cond b (mark_at limit k (entry key seq v)) None) e
  kept false h e = ap (λ b. cond b (mark_at limit k (entry key seq v)) None) e

  dropped : (g : Bool) → mark_at limit k (entry key seq v) ≡ None → mark_in limit k (cond g (Some (entry key seq v)) None) ≡ cond (holds r k) (mark_at limit k (entry key seq v)) None
  dropped true e = e ∙ none-cond (holds r k) ∙ ap (λ o. cond (holds r k) o None) (sym e)
  dropped false e = none-cond (holds r k) ∙ ap (λ o. cond (holds r k) o None) (sym e)

mark-within_span : (r : Bounds) (t : Tombstone) (limit : ℕ) (k : List ℕ) → mark_in limit k (within r (span t)) ≡ cond (holds r k) (mark_at limit k (span t)) None
mark-within_span r t limit k = elim (cases_Bool (meets t.range r)) [
  | inl m ↦ ap (λ b. mark_in limit k (option_map span (cond b (Some (starting_from r.lo (ending_by r.hi t))) None))) m
      ∙ ap (λ b. cond (b && ltb t.seq limit) (Some (mark (span t))) None) (holds-part_in r t k) ∙ guarded (holds r k) (holds t.range k) (ltb t.seq limit) (mark (span t))
  | inr n ↦ ap (λ b. mark_in limit k (option_map span (cond b (Some (starting_from r.lo (ending_by r.hi t))) None))) n
      ∙ guarded_none (holds r k) (holds t.range k) (ltb t.seq limit) (mark (span t)) (λ g h. false≢true (sym n ∙ meets-from_held t.range r k h g))
]

mark-within : (r : Bounds) (i : Item) (limit : ℕ) (k : List ℕ) → mark_in limit k (within r i) ≡ cond (holds r k) (mark_at limit k i) None
mark-within r (entry key seq v) limit k = mark-within_entry r key seq v limit k
mark-within r (span t) limit k = mark-within_span r t limit k

newer-cond : (h : Bool) (a b : Option Mark) → newer (cond h a None) (cond h b None) ≡ cond h (newer a b) None
newer-cond true a b = refl
newer-cond false a b = refl

pub newest-restricted : (r : Bounds) (c : List Item) (limit : ℕ) (k : List ℕ) → newest (restricted r c) limit k ≡ cond (holds r k) (newest c limit k) None
newest-restricted r [] limit k = none-cond (holds r k)
newest-restricted r (i ∷ c) limit k =
    newest-cons_option (within r i) (restricted r c) limit k
    ∙ ap (λ o. newer o (newest (restricted r c) limit k)) (mark-within r i limit k)
    ∙ ap (λ o. newer (cond (holds r k) (mark_at limit k i) None) o) (newest-restricted r c limit k)
    ∙ newer-cond (holds r k) (mark_at limit k i) (newest c limit k)

-- an item of the part comes from one that speaks of its keys too

abbrev Drawn : List Item → List ℕ → Item → Type 0
Drawn c k i = (j : Item) × Has c j × IsTrue (here k j) × (rank j ≡ rank i) × (said j ≡ said i)

drawn_kept : (c : List Item) (k : List ℕ) (i j : Item) (h : Bool) → Has c j → cond h (Some j) None ≡ Some i → IsTrue (here k i) → Drawn c k i
drawn_kept c k i j true has e at_i =
    let same : j ≡ i = cc in
    (j, has, ap (here k) same ∙ at_i, ap rank same, ap said same)
drawn_kept c k i j false has e at_i = absurd (cc)

drawn_part : (c : List Item) (k : List ℕ) (i : Item) (t u : Tombstone) (h : Bool) → Has c (span t) → (holds u.range k ≡ true → holds t.range k ≡ true) → u.seq ≡ t.seq → option_map span (cond h (Some u) None) ≡ Some i → IsTrue (here k i) → Drawn c k i
drawn_part c k i t u true has held seqs e at_i =
    let same : span u ≡ i = cc in
    (span t, has, held (ap (here k) same ∙ at_i), ap (λ n. 2 * n) (sym seqs) ∙ ap rank same, ap said same)
drawn_part c k i t u false has held seqs e at_i = absurd (cc)

drawn_item : (r : Bounds) (c : List Item) (k : List ℕ) (i j : Item) → Has c j → within r j ≡ Some i → IsTrue (here k i) → Drawn c k i
drawn_item r c k i (entry key seq v) has e at_i = drawn_kept c k i (entry key seq v) (holds r key) has e at_i
drawn_item r c k i (span t) has e at_i =
    drawn_part c k i t (starting_from r.lo (ending_by r.hi t)) (meets t.range r) has (λ h. (and_parts (holds r k) (holds t.range k) (sym (holds-part_in r t k) ∙ h)).1) refl e at_i

pub drawn-restricted : (r : Bounds) (c : List Item) → IsDrawn c (restricted r c)
drawn-restricted r c = λ k i h at_i.
    let from = Has-from_filter_map (within r) c i h in
    drawn_item r c k i from.0 from.1 from.2 at_i
