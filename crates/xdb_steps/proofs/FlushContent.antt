-- A flush that is put, in content: its table comes to L0 in place of the oldest group.
use Rattle.std.proofs.Common.{◌≡◌, ℕ, ◌+◌, ◌<◌, true, List, [], ◌∷◌, ◌++◌, length, map, drop, reverse, inl, inr, refl, sym, ap, ◌∙◌, subst, arith}
use Rattle.std.proofs.lemmas.Grind.{reverse_onto}
use Rattle.std.proofs.lemmas.List.{append_assoc, map-append}
use Rattle.std.specs.FinMap as map
use Rattle.std.proofs.lemmas.Bool.{and_parts}
use Rattle.xdb_edit.specs.Changes.{Changes}
use Rattle.xdb_edit.specs.Versions.{LevelLists, edited, tables_of, table_cmp, is_sorted, are_sorted, are_sorted_from}
use Rattle.xdb_key.specs.Groups.{Group}
use Rattle.xdb_key.specs.declared.op.Op.{Op}
use Rattle.xdb_laws.proofs.EditLaws.{flush-edit}
use Rattle.xdb_laws.proofs.FlushEditLaws.{flush_edit-ordered, flush_edit-image, flush_edit-numbers, flush_edit-stand}
use Rattle.xdb_laws.proofs.ImageLaws.{image-is}
use Rattle.xdb_laws.proofs.OrderLaws.{drawn-itself, left-itself, left-ordered, clear-within}
use Rattle.xdb_laws.proofs.PlaceLaws.{groups-operations, places-clear, numbers-drawn, same-turned}
use Rattle.xdb_laws.proofs.RewriteLaws.{rewrite-cut, rewrite-same, rewrite-says}
use Rattle.xdb_laws.specs.Ordered.{IsNumberedUpTo, StandsByNumber, joined, AreLeftOf, Ordered, places, whole}
use Rattle.xdb_laws.specs.Rewrite.{IsRewrite}
use Rattle.xdb_laws.specs.Tables.{contents, tables_in, flush_edit, StandByNumber, IsFlushPut}
use Rattle.xdb_mem.proofs.NumberLaws.{rises-from}
use Rattle.xdb_mem.specs.Numbered.{RisesWithin}
use Rattle.xdb_mem.specs.Parts.{items, item_at}
use Rattle.xdb_mem.specs.Queue.{Queue, groups, all_ops}
use Rattle.xdb_meta.specs.Table.{Table}
use Rattle.xdb_plain.specs.PlainMap.{PlainMap}
use Rattle.xdb_rangedel.proofs.MemberLaws.{Has-append_left, Has-append_right, Has-append_cases, Has-from_map}
use Rattle.xdb_rangedel.proofs.NewestLaws.{newest-append, newest_unordered}
use Rattle.xdb_rangedel.specs.Content.{Item, seq_of, newer, newest, said_by, value_of, in_pieces, spans_in, IsImage, IsClear}
use Rattle.xdb_rangedel.specs.Layers.{IsAllBelow, IsDrawn}
use Rattle.xdb_rangedel.specs.Members.{Has, SameMembers}
use Rattle.xdb_rangedel.specs.Pieces.{ends}
use Rattle.xdb_steps.specs.Between.{HasOldest, group_items, all_items, InLevelOrder}
use Rattle.xdb_steps.specs.Core.{RunningJob, table_items}
use Rattle.xdb_steps.specs.Flush.{IsFlushed, flush_content}
use Rattle.xdb_steps.specs.Tables.{Contents, IsTableOf, AreTables, StandInL0}
use Rattle.xdb_steps.proofs.CommitSteps.{seq-item, items-below}
use Rattle.xdb_steps.proofs.TableLaws.{all-whole, side-of, side-at, tables-at, tables-of, l0-is, table-same}

items-append : (xs ys : List (ℕ × Op)) → items (xs ++ ys) ≡ items xs ++ items ys
items-append xs ys = map-append (λ (o : ℕ × Op). item_at o.0 o.1) xs ys

-- ---- one content for another

image-along : (c d : List Item) (limit : ℕ) (m : PlainMap) → ((k : List ℕ) → newest d limit k ≡ newest c limit k) → IsImage c limit m → IsImage d limit m
image-along c d limit m same is = λ k. is k ∙ ap (λ x. value_of (said_by x)) (sym (same k))

left-swap : (a b : List (List Item)) (g h : List Item) → IsDrawn g h → AreLeftOf (a ++ (g ∷ b)) (a ++ (h ∷ b))
left-swap [] b g h drawn = inl (drawn, left-itself b)
left-swap (x ∷ a) b g h drawn = inl (drawn-itself x, left-swap a b g h drawn)

left-oldest : (gs older : List (List Item)) (g h : List Item) → IsDrawn g h → AreLeftOf (reverse (g ∷ gs) ++ older) (reverse (h ∷ gs) ++ older)
left-oldest gs older g h drawn =
    subst (λ x. AreLeftOf x (reverse (h ∷ gs) ++ older)) (sym (last g)) (subst (λ x. AreLeftOf (reverse gs ++ (g ∷ older)) x) (sym (last h)) (left-swap (reverse gs) older g h drawn))
  where
    last : (x : List Item) → reverse (x ∷ gs) ++ older ≡ reverse gs ++ (x ∷ older)
    last x = ap (λ y. y ++ older) (reverse_onto gs x []) ∙ append_assoc (reverse gs) (x ∷ []) older

rises-apart : (low high : ℕ) (xs ys : List (ℕ × Op)) (o p : ℕ × Op) → RisesWithin low high (xs ++ ys) → Has xs o → Has ys p → o.0 < p.0
rises-apart low high [] ys o p h has there = absurd has
rises-apart low high (x ∷ xs) ys o p h (inl e) there =
    let from = rises-from (x.0 + 1) high (xs ++ ys) p h.1 (Has-append_right xs ys p there) in
    let same : x.0 ≡ o.0 = ap (λ y. y.0) e in
    omega arith
rises-apart low high (x ∷ xs) ys o p h (inr has) there = rises-apart (x.0 + 1) high xs ys o p h.1 has there

-- ---- the put

module _ (content : Table → List Item) (l0 : List Table) (lower : LevelLists) (mem : Queue) (first : Group) (behind : List Group) (next : ℕ) (r : RunningJob) (t : Table) (files : List ℕ) (oldest : mem.sealed ≡ first ∷ behind) (given : SameMembers r.content (in_pieces (items first.ops))) (rising : RisesWithin 1 next (all_ops (groups mem))) (flushed : IsFlushed r t (content t)) (sorted : is_sorted (table_cmp 0) l0 ≡ true) where
  abbrev later : List Group
  later = behind ++ mem.active ∷ []

  abbrev rest : List (List Item)
  rest = map (λ g. items g.ops) later

  abbrev left : Queue
  left = record mem { sealed = drop 1 mem.sealed }

  abbrev before : Contents
  before = contents content (l0 ∷ lower)

  abbrev after : Contents
  after = contents content (edited (l0 ∷ lower) (flush_edit t files))

  groups-are : groups mem ≡ first ∷ later
  groups-are = ap (λ gs. gs ++ mem.active ∷ []) oldest

  left-are : groups left ≡ later
  left-are = ap (λ gs. drop 1 gs ++ mem.active ∷ []) oldest

  ops-are : items (all_ops (groups mem)) ≡ items first.ops ++ items (all_ops later)
  ops-are = ap (λ gs. items (all_ops gs)) groups-are ∙ items-append first.ops (all_ops later)

  -- what the flush was given is the group's, written anew
  anew : IsRewrite (items first.ops) r.content
  anew = rewrite-cut (items first.ops) (ends (spans_in (items first.ops))) r.content given

  in-all : (i : Item) → Has (items first.ops) i → Has (items (all_ops (groups mem))) i
  in-all i h = subst (λ x. Has x i) (sym ops-are) (Has-append_left (items first.ops) (items (all_ops later)) i h)

  later-in-all : (i : Item) → Has (joined rest) i → Has (items (all_ops (groups mem))) i
  later-in-all i h = subst (λ x. Has x i) (sym ops-are) (Has-append_right (items first.ops) (items (all_ops later)) i (subst (λ x. Has x i) (groups-operations later) h))

  low : IsAllBelow next r.content
  low = λ i h.
      let from = anew.numbers i h in
      let less = items-below 1 next (all_ops (groups mem)) rising from.0 (in-all from.0 from.1) in
      let same = from.2 in
      omega arith

  number-of : (ops : List (ℕ × Op)) (i : Item) → Has (items ops) i → (o : ℕ × Op) × Has ops o × (o.0 ≡ seq_of i)
  number-of ops i h = let from = Has-from_map (λ (o : ℕ × Op). item_at o.0 o.1) ops i h in (from.0, from.1, sym (seq-item from.0.0 from.0.1) ∙ ap seq_of from.2)

  lower-numbers : (i j : Item) → Has r.content i → Has (joined rest) j → seq_of i < seq_of j
  lower-numbers i j h g =
      let from = anew.numbers i h in
      let a = number-of first.ops from.0 from.1 in
      let b = number-of (all_ops later) j (subst (λ x. Has x j) (groups-operations later) g) in
      let less : a.0.0 < b.0.0 = rises-apart 1 next first.ops (all_ops later) a.0 b.0 (subst (λ gs. RisesWithin 1 next (all_ops gs)) groups-are rising) a.1 b.1 in
      let same = from.2 in
      let of_a = a.2 in
      let of_b = b.2 in
      omega arith

  module _ (l0_stands : StandInL0 (items (all_ops (groups mem))) next l0 (map content l0)) where
    stand : StandByNumber content (joined (r.content ∷ rest)) next l0
    stand u has =
        let s = side-at (λ t c. StandsByNumber (items (all_ops (groups mem))) next t.seq_hi c) content l0 l0_stands u has in
        record {
          below = s.below;
          within = s.within;
          apart = elim s.apart [
            | inl all ↦ inl (λ i h. elim (Has-append_cases r.content (joined rest) i h) [
              | inl g ↦ let from = anew.numbers i g in let least = all from.0 (in-all from.0 from.1) in let same = from.2 in omega arith
              | inr g ↦ all i (later-in-all i g)
            ])
            | inr one ↦ inr one
          ];
        }

    put : IsFlushPut content r.content rest l0 t r.stripes next
    put = record {
      sorted = sorted;
      stand = stand;
      below = low;
      rising = lower-numbers;
      made = rewrite-same (flush_content r) (content t) flushed.content;
      within = λ i h. let upto = (flushed.table.numbers i ((flushed.content i).0 h)).1 in omega arith;
      greatest = (flushed.greatest.0, (flushed.content flushed.greatest.0).1 flushed.greatest.1, flushed.greatest.2);
    }

    module _ (order : Ordered (places (group_items mem) before)) where
      group-ordered : Ordered (places (items first.ops ∷ rest) before)
      group-ordered = subst (λ gs. Ordered (places (map (λ g. items g.ops) gs) before)) groups-are order

      given-ordered : Ordered (places (r.content ∷ rest) before)
      given-ordered = left-ordered (places (items first.ops ∷ rest) before) (places (r.content ∷ rest) before)
          (left-oldest rest (reverse (map content l0) ++ map joined (contents content lower)) (items first.ops) r.content anew.drawn) group-ordered

      put-ordered : Ordered (places rest after)
      put-ordered = flush_edit-ordered content r.content rest l0 lower t files r.stripes next given-ordered put

      pub order-put : InLevelOrder (edited (l0 ∷ lower) (flush_edit t files)) after left next
      order-put = record {
        places = subst (λ gs. Ordered (places (map (λ g. items g.ops) gs) after)) (sym left-are) put-ordered;
        l0 = subst (StandInL0 (items (all_ops (groups left))) next (tables_of (edited (l0 ∷ lower) (flush_edit t files)) 0)) (sym (l0-is content (edited (l0 ∷ lower) (flush_edit t files))))
            (side-of (λ t c. StandsByNumber (items (all_ops (groups left))) next t.seq_hi c) content (tables_of (edited (l0 ∷ lower) (flush_edit t files)) 0)
            (subst (λ x. StandByNumber content x next (tables_of (edited (l0 ∷ lower) (flush_edit t files)) 0)) (groups-operations later ∙ ap (λ gs. items (all_ops gs)) (sym left-are))
            (flush_edit-stand content r.content rest l0 lower t files r.stripes next put)));
      }

      -- all that there is, before and after

      all-before : SameMembers (all_items before mem) (whole (items first.ops ∷ rest) before)
      all-before = subst (λ gs. SameMembers (all_items before mem) (whole (map (λ g. items g.ops) gs) before)) groups-are (all-whole before mem)

      all-after : SameMembers (all_items after left) (whole rest after)
      all-after = subst (λ gs. SameMembers (all_items after left) (whole (map (λ g. items g.ops) gs) after)) left-are (all-whole after left)

      clear-before : IsClear (whole (items first.ops ∷ rest) before)
      clear-before = places-clear (items first.ops ∷ rest) before group-ordered

      group-clear : IsClear (items first.ops)
      group-clear = clear-within (whole (items first.ops ∷ rest) before) (items first.ops) (λ i h. Has-append_left (items first.ops ++ joined rest) (table_items before) i (Has-append_left (items first.ops) (joined rest) i h)) clear-before

      given-says : (k : List ℕ) → newest (whole (r.content ∷ rest) before) next k ≡ newest (all_items before mem) next k
      given-says k =
          newest-append (r.content ++ joined rest) (table_items before) next k
          ∙ ap (λ x. newer x (newest (table_items before) next k))
          (newest-append r.content (joined rest) next k
          ∙ ap (λ x. newer x (newest (joined rest) next k)) (rewrite-says (items first.ops) r.content next k group-clear anew)
          ∙ sym (newest-append (items first.ops) (joined rest) next k))
          ∙ sym (newest-append (items first.ops ++ joined rest) (table_items before) next k)
          ∙ newest_unordered (whole (items first.ops ∷ rest) before) (all_items before mem) next k (same-turned (all_items before mem) (whole (items first.ops ∷ rest) before) all-before) clear-before

      put-says : (k : List ℕ) → newest (all_items after left) next k ≡ newest (whole rest after) next k
      put-says k = sym (newest_unordered (whole rest after) (all_items after left) next k (same-turned (all_items after left) (whole rest after) all-after) (places-clear rest after put-ordered))

      pub image-put : (m : PlainMap) → IsImage (all_items before mem) next m → IsImage (all_items after left) next m
      image-put m is =
          let given_is = image-along (all_items before mem) (whole (r.content ∷ rest) before) next m given-says is in
          let same = flush_edit-image content r.content rest l0 lower t files r.stripes next given-ordered put next (inr low) in
          image-along (whole rest after) (all_items after left) next m put-says
          (λ k. given_is k ∙ sym (image-is (whole (r.content ∷ rest) before) next k) ∙ ap (λ x. map.get x k) same ∙ image-is (whole rest after) next k)

      pub numbers-put : (marks : List ℕ) → IsNumberedUpTo next (all_items before mem) marks → IsNumberedUpTo next (all_items after left) marks
      numbers-put marks n =
          numbers-drawn next (whole rest after) (all_items after left) marks
          (flush_edit-numbers content r.content rest l0 lower t files r.stripes next put marks (numbers-drawn next (all_items before mem) (whole (r.content ∷ rest) before) marks n from-all))
          (λ i h. (i, (all-after i).0 h, refl))
        where
          from-all : (i : Item) → Has (whole (r.content ∷ rest) before) i → (j : Item) × Has (all_items before mem) j × (seq_of j ≡ seq_of i)
          from-all i h = elim (Has-append_cases (r.content ++ joined rest) (table_items before) i h) [
            | inl g ↦ elim (Has-append_cases r.content (joined rest) i g) [
              | inl a ↦ let from = anew.numbers i a in (from.0, Has-append_right (table_items before) (items (all_ops (groups mem))) from.0 (in-all from.0 from.1), from.2)
              | inr b ↦ (i, Has-append_right (table_items before) (items (all_ops (groups mem))) i (later-in-all i b), refl)
            ]
            | inr g ↦ (i, Has-append_left (table_items before) (items (all_ops (groups mem))) i g, refl)
          ]

  pub tables-put : AreTables (l0 ∷ lower) before → AreTables (edited (l0 ∷ lower) (flush_edit t files)) after
  tables-put h =
      let (older, newer, same, made, high) = flush-edit l0 lower t files sorted in
      tables-of content (edited (l0 ∷ lower) (flush_edit t files)) (λ u has. with-new older newer same u (subst (λ x. Has (tables_in x) u) made has))
    where
      with-new : (older newer : List Table) → l0 ≡ older ++ newer → (u : Table) → Has ((older ++ (t ∷ newer)) ++ tables_in lower) u → IsTableOf u (content u)
      with-new older newer same u has = elim (Has-append_cases (older ++ (t ∷ newer)) (tables_in lower) u has) [
        | inl a ↦ elim (Has-append_cases older (t ∷ newer) u a) [
          | inl b ↦ old u (Has-append_left older newer u b)
          | inr b ↦ elim b [
            | inl e ↦ subst (λ x. IsTableOf x (content x)) e (table-same t (content t) (flush_content r) flushed.content flushed.table)
            | inr d ↦ old u (Has-append_right older newer u d)
          ]
        ]
        | inr a ↦ tables-at content (l0 ∷ lower) h u (Has-append_right l0 (tables_in lower) u a)
      ]
        where
          old : (u : Table) → Has (older ++ newer) u → IsTableOf u (content u)
          old u there = tables-at content (l0 ∷ lower) h u (Has-append_left l0 (tables_in lower) u (subst (λ x. Has x u) (sym same) there))

-- what holds of content once the edit is installed
pub record Installed (content : Table → List Item) (levels : LevelLists) (mem : Queue) (next : ℕ) (e : Changes) (old : Contents) : Type 0 where
  pub order : InLevelOrder (edited levels e) (contents content (edited levels e)) (record mem { sealed = drop 1 mem.sealed }) next
  pub image : (m : PlainMap) → IsImage (all_items old mem) next m → IsImage (all_items (contents content (edited levels e)) (record mem { sealed = drop 1 mem.sealed })) next m
  pub numbers : (marks : List ℕ) → IsNumberedUpTo next (all_items old mem) marks → IsNumberedUpTo next (all_items (contents content (edited levels e)) (record mem { sealed = drop 1 mem.sealed })) marks
  pub tables : AreTables levels old → AreTables (edited levels e) (contents content (edited levels e))

pub content-put : (content : Table → List Item) (levels : LevelLists) (old : Contents) (mem : Queue) (next : ℕ) (r : RunningJob) (group : ℕ) (t : Table) (e : Changes) → length levels ≡ 7 → are_sorted levels ≡ true → e ≡ flush_edit t e.new_backings → old ≡ contents content levels → HasOldest mem.sealed group r.content → RisesWithin 1 next (all_ops (groups mem)) → IsFlushed r t (content t) → InLevelOrder levels old mem next → Installed content levels mem next e old
content-put content [] old mem next r group t e seven sorted is had given rising flushed order = absurd (omega (arith, seven))
content-put content (l0 ∷ lower) old mem next r group t e seven sorted is had given rising flushed order =
    let first : is_sorted (table_cmp 0) l0 ≡ true = (and_parts (is_sorted (table_cmp 0) l0) (are_sorted_from 1 lower) sorted).0 in
    let now = subst (λ x. InLevelOrder (l0 ∷ lower) x mem next) had order in
    subst (λ x. Installed content (l0 ∷ lower) mem next x old) (sym is) (subst (λ x. Installed content (l0 ∷ lower) mem next (flush_edit t e.new_backings) x) (sym had) (record {
      order = order-put content l0 lower mem given.first given.behind next r t e.new_backings given.oldest given.whole rising flushed first now.l0 now.places;
      image = image-put content l0 lower mem given.first given.behind next r t e.new_backings given.oldest given.whole rising flushed first now.l0 now.places;
      numbers = numbers-put content l0 lower mem given.first given.behind next r t e.new_backings given.oldest given.whole rising flushed first now.l0 now.places;
      tables = tables-put content l0 lower mem given.first given.behind next r t e.new_backings given.oldest given.whole rising flushed first;
    }))
