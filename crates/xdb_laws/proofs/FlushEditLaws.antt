-- The edit of a flush: order, image and numbers stay, and tables of L0 go on to stand by number.
use Rattle.std.proofs.Common.{◌≡◌, ℕ, ◌≤◌, List, [], ◌∷◌, ◌++◌, map, inl, inr, refl, sym, ap, ◌∙◌, subst, arith}
use Rattle.std.proofs.lemmas.List.{map-append}
use Rattle.xdb_edit.specs.Versions.{LevelLists, edited, tables_of}
use Rattle.xdb_meta.specs.Table.{Table}
use Rattle.xdb_rangedel.specs.Content.{Item, seq_of}
use Rattle.xdb_rangedel.specs.Members.{Has}
use Rattle.xdb_rangedel.proofs.MemberLaws.{Has-append_left, Has-append_right, Has-append_cases, Has-from_map}
use Rattle.xdb_stripes.specs.Keeps.{IsLimit}
use Rattle.xdb_stripes.specs.declared.floor.Floor.TheVariants.{All}
use Rattle.xdb_laws.specs.Flush.{Flush, IsFlush, levels_before, levels_after}
use Rattle.xdb_laws.specs.Image.{image}
use Rattle.xdb_laws.specs.Ordered.{IsNumberedUpTo, StandsByNumber, joined, Ordered, places, whole}
use Rattle.xdb_laws.specs.Tables.{contents, StandByNumber, IsFlushPut, flush_edit}
use Rattle.xdb_laws.proofs.EditLaws.{flush-edit}
use Rattle.xdb_laws.proofs.FlushLaws.{flushed-ordered, flushed-image, flushed-numbers, table-placed, table-new, table-stays}
use Rattle.xdb_laws.proofs.ReplaceLaws.{made-numbers}

module _ (content : Table → List Item) (group : List Item) (groups : List (List Item)) (older newer : List Table) (lower : LevelLists) (t : Table) (stripes : List ℕ) (next : ℕ) where
  abbrev flush : Flush
  flush = record {
    group = group;
    groups = groups;
    older = map content older;
    newer = map content newer;
    lower = contents content lower;
    table = content t;
  }

  before-is : contents content ((older ++ newer) ∷ lower) ≡ levels_before flush
  before-is = ap (λ x. x ∷ contents content lower) (map-append content older newer)

  after-is : contents content ((older ++ (t ∷ newer)) ∷ lower) ≡ levels_after flush
  after-is = ap (λ x. x ∷ contents content lower) (map-append content older (t ∷ newer))

  module _ (put : IsFlushPut content group groups (older ++ newer) t stripes next) (high : (u : Table) → Has newer u → t.seq_hi ≤ u.seq_hi) where
    numbers-from : (i : Item) → Has (content t) i → (j : Item) × Has group j × (seq_of j ≡ seq_of i)
    numbers-from = made-numbers group stripes All (content t) put.made

    abbrev numbered : List (ℕ × List Item)
    numbered = map (λ u. (u.seq_hi, content u)) newer

    numbered-is : (ts : List Table) → map (λ (p : ℕ × List Item). p.1) (map (λ (u : Table). (u.seq_hi, content u)) ts) ≡ map content ts
    numbered-is [] = refl
    numbered-is (u ∷ ts) = ap (λ x. content u ∷ x) (numbered-is ts)

    stands : (p : ℕ × List Item) → Has numbered p → StandsByNumber (joined (group ∷ groups)) next p.0 p.1 × (t.seq_hi ≤ p.0)
    stands p h =
        let from = Has-from_map (λ (u : Table). (u.seq_hi, content u)) newer p h in
        subst (λ x. StandsByNumber (joined (group ∷ groups)) next x.0 x.1 × (t.seq_hi ≤ x.0)) from.2
        (put.stand from.0 (Has-append_right older newer from.0 from.1), high from.0 from.1)

    is-flush : IsFlush stripes flush
    is-flush = record {
      made = put.made;
      place = λ i j p q.
          table-placed (joined (group ∷ groups)) (content t) next t.seq_hi numbered stands put.within (λ x h.
          let from = numbers-from x h in
          (from.0, Has-append_left group (joined groups) from.0 from.1, from.2)) i j p
          (subst (λ x. Has (joined x) j) (sym (numbered-is newer)) q);
    }

    split-ordered : Ordered (places (group ∷ groups) (contents content ((older ++ newer) ∷ lower))) → Ordered (places groups (contents content ((older ++ (t ∷ newer)) ∷ lower)))
    split-ordered o = subst (λ x. Ordered (places groups x)) (sym after-is) (flushed-ordered flush stripes (subst (λ x. Ordered (places (group ∷ groups) x)) before-is o) is-flush)

    split-image : Ordered (places (group ∷ groups) (contents content ((older ++ newer) ∷ lower))) → (limit : ℕ) → IsLimit group stripes limit → image (whole (group ∷ groups) (contents content ((older ++ newer) ∷ lower))) limit ≡ image (whole groups (contents content ((older ++ (t ∷ newer)) ∷ lower))) limit
    split-image o limit at_limit =
        ap (λ x. image (whole (group ∷ groups) x) limit) before-is
        ∙ flushed-image flush stripes (subst (λ x. Ordered (places (group ∷ groups) x)) before-is o) is-flush limit at_limit
        ∙ ap (λ x. image (whole groups x) limit) (sym after-is)

    split-numbers : (marks : List ℕ) → IsNumberedUpTo next (whole (group ∷ groups) (contents content ((older ++ newer) ∷ lower))) marks → IsNumberedUpTo next (whole groups (contents content ((older ++ (t ∷ newer)) ∷ lower))) marks
    split-numbers marks n = subst (λ x. IsNumberedUpTo next (whole groups x) marks) (sym after-is)
        (flushed-numbers flush stripes next marks is-flush (subst (λ x. IsNumberedUpTo next (whole (group ∷ groups) x) marks) before-is n))

    old-stands : (u : Table) → Has (older ++ newer) u → StandsByNumber (joined groups) next u.seq_hi (content u)
    old-stands u h = table-stays (joined (group ∷ groups)) (joined groups) (content u) next next u.seq_hi (put.stand u h) (omega arith) (λ i g. inl (Has-append_right group (joined groups) i g))

    split-stand : StandByNumber content (joined groups) next (older ++ (t ∷ newer))
    split-stand u h = elim (Has-append_cases older (t ∷ newer) u h) [
      | inl g ↦ old-stands u (Has-append_left older newer u g)
      | inr g ↦ elim g [
        | inl is ↦ subst (λ x. StandsByNumber (joined groups) next x.seq_hi (content x)) is
            (table-new group (joined groups) (content t) next t.seq_hi put.below put.rising numbers-from put.within put.greatest)
        | inr k ↦ old-stands u (Has-append_right older newer u k)
      ]
    ]

module _ (content : Table → List Item) (group : List Item) (groups : List (List Item)) (l0 : List Table) (lower : LevelLists) (t : Table) (files stripes : List ℕ) (next : ℕ) where
  pub flush_edit-ordered : Ordered (places (group ∷ groups) (contents content (l0 ∷ lower))) → IsFlushPut content group groups l0 t stripes next → Ordered (places groups (contents content (edited (l0 ∷ lower) (flush_edit t files))))
  flush_edit-ordered o put =
      let (older, newer, same, made, high) = flush-edit l0 lower t files put.sorted in
      subst (λ x. Ordered (places groups (contents content x))) (sym made)
      (split-ordered content group groups older newer lower t stripes next (subst (λ x. IsFlushPut content group groups x t stripes next) same put) high (subst (λ x. Ordered (places (group ∷ groups) (contents content (x ∷ lower)))) same o))

  pub flush_edit-image : Ordered (places (group ∷ groups) (contents content (l0 ∷ lower))) → IsFlushPut content group groups l0 t stripes next → (limit : ℕ) → IsLimit group stripes limit → image (whole (group ∷ groups) (contents content (l0 ∷ lower))) limit ≡ image (whole groups (contents content (edited (l0 ∷ lower) (flush_edit t files)))) limit
  flush_edit-image o put limit at_limit =
      let (older, newer, same, made, high) = flush-edit l0 lower t files put.sorted in
      ap (λ x. image (whole (group ∷ groups) (contents content (x ∷ lower))) limit) same
      ∙ split-image content group groups older newer lower t stripes next (subst (λ x. IsFlushPut content group groups x t stripes next) same put) high (subst (λ x. Ordered (places (group ∷ groups) (contents content (x ∷ lower)))) same o) limit at_limit
      ∙ ap (λ x. image (whole groups (contents content x)) limit) (sym made)

  pub flush_edit-numbers : IsFlushPut content group groups l0 t stripes next → (marks : List ℕ) → IsNumberedUpTo next (whole (group ∷ groups) (contents content (l0 ∷ lower))) marks → IsNumberedUpTo next (whole groups (contents content (edited (l0 ∷ lower) (flush_edit t files)))) marks
  flush_edit-numbers put marks n =
      let (older, newer, same, made, high) = flush-edit l0 lower t files put.sorted in
      subst (λ x. IsNumberedUpTo next (whole groups (contents content x)) marks) (sym made)
      (split-numbers content group groups older newer lower t stripes next (subst (λ x. IsFlushPut content group groups x t stripes next) same put) high marks (subst (λ x. IsNumberedUpTo next (whole (group ∷ groups) (contents content (x ∷ lower))) marks) same n))

  pub flush_edit-stand : IsFlushPut content group groups l0 t stripes next → StandByNumber content (joined groups) next (tables_of (edited (l0 ∷ lower) (flush_edit t files)) 0)
  flush_edit-stand put =
      let (older, newer, same, made, high) = flush-edit l0 lower t files put.sorted in
      subst (λ x. StandByNumber content (joined groups) next (tables_of x 0)) (sym made)
      (split-stand content group groups older newer lower t stripes next (subst (λ x. IsFlushPut content group groups x t stripes next) same put) high)
