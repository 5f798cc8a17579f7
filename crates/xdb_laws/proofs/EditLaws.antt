-- What the edits of flushes and compactions do to the places of an engine.
use Rattle.std.proofs.Common.{◌≡◌, ℕ, zero, suc, ◌+◌, ◌<◌, ◌≤◌, Bool, true, false, not, ◌==◌, cond, ltb, List, [], ◌∷◌, ◌++◌, length, map, filter, reverse, take, drop, append-nil, inl, inr, refl, sym, ap, ◌∙◌, subst, arith}
use Rattle.std.proofs.lemmas.Bool.{cases_Bool, and_parts, lt-ltb, le-ltb, cases_lt, eqb-true, false≢true, false_from_ne_true}
use Rattle.std.proofs.lemmas.Grind.{flat_map-append, reverse_onto}
use Rattle.std.proofs.lemmas.List.{append_assoc, map-append}
use Rattle.std.proofs.lemmas.List.Folds.{flat_map-map}
use Rattle.std.specs.List.{list_all}
use Rattle.std.specs.Ordering.{is_lt, is_le, nat_cmp, ordering_then}
use Rattle.std.specs.declared.cmp.Ordering.{Ordering}
use Rattle.std.specs.declared.cmp.Ordering.TheVariants.{Less, Equal, Greater}
use Rattle.xdb_lists.specs.Sorted.{is_sorted, put_in}
use Rattle.xdb_edit.specs.Changes.{Changes, changes}
use Rattle.xdb_edit.specs.Versions.{LevelLists, edited, edited_level, edited_from, added_to, removes, table_cmp}
use Rattle.xdb_meta.specs.Table.{Table}
use Rattle.xdb_rangedel.specs.Content.{Item}
use Rattle.xdb_rangedel.specs.Layers.{IsDrawn}
use Rattle.xdb_rangedel.specs.Members.{Has, SameMembers}
use Rattle.xdb_rangedel.proofs.MemberLaws.{Has-append_left, Has-append_right, Has-append_cases}
use Rattle.xdb_stripes.specs.Keeps.{IsLimit}
use Rattle.xdb_stripes.specs.declared.floor.Floor.{Floor}
use Rattle.xdb_stripes.proofs.AnyLaws.{Has-from_filter}
use Rattle.xdb_laws.specs.Compaction.{LiesBetween, Move, IsCompaction, places_before, places_after, upper_of, lower_of}
use Rattle.xdb_laws.specs.Image.{image}
use Rattle.xdb_laws.specs.Ordered.{IsNumberedUpTo, AreLeftOf, joined, Ordered, places, whole}
use Rattle.xdb_laws.specs.Tables.{is_input, inputs_from, others_from, tables_in, contents, content_of, stands_above, stands_below, IsPut}
use Rattle.xdb_laws.proofs.CompactLaws.{compacted-ordered, compacted-image, compacted-numbers}
use Rattle.xdb_laws.proofs.OrderLaws.{joined-append, newer-within, drawn-within, ordered-clear, ordered-same, left-itself, left-skip}
use Rattle.xdb_laws.proofs.PlaceLaws.{same-turned, same-along, same-equal, same-joint, image-same, places-same, places-clear, places-split, numbers-drawn}
use Rattle.xdb_laws.proofs.TableLaws.{all-true, flat-has, flat-from, flat-within, contents-flat, put_all_in-from, put_all_in-has, level-from, level-kept, levels-stay, edited-append, others-append, tables-kept, others-within, inputs-within, tables-part, inputs-front}

-- what is left of places, side by side

left-append : (a b c d : List (List Item)) → AreLeftOf a b → AreLeftOf c d → AreLeftOf (a ++ c) (b ++ d)
left-append [] [] c d l r = r
left-append [] (q ∷ b) c d l r = absurd l
left-append (p ∷ a) [] c d l r = left-skip p (a ++ c) d (left-append a [] c d (left-none a) r)
  where
    left-none : (ps : List (List Item)) → AreLeftOf ps []
    left-none [] = tt
    left-none (p ∷ ps) = tt
left-append (p ∷ a) (q ∷ b) c d (inl l) r = inl (l.0, left-append a b c d l.1 r)
left-append (p ∷ a) (q ∷ b) c d (inr l) r = inr (left-append a (q ∷ b) c d l r)

module _ (content : Table → List Item) where
  left-reversed : (keeps : Table → Bool) (ts : List Table) → AreLeftOf (reverse (map content ts)) (reverse (map content (filter keeps ts)))
  left-reversed keeps [] = tt
  left-reversed keeps (t ∷ ts) = subst (λ x. AreLeftOf x (reverse (map content (filter keeps (t ∷ ts))))) (sym (reverse_onto (map content ts) (content t) [])) (elim (cases_Bool (keeps t)) [
    | inl e ↦ rw e (subst (λ x. AreLeftOf (reverse (map content ts) ++ content t ∷ []) x) (sym (reverse_onto (map content (filter keeps ts)) (content t) []))
        (left-append (reverse (map content ts)) (reverse (map content (filter keeps ts))) (content t ∷ []) (content t ∷ []) (left-reversed keeps ts) (left-itself (content t ∷ []))))
    | inr e ↦ rw e (subst (λ x. AreLeftOf (reverse (map content ts) ++ content t ∷ []) x) (append-nil (reverse (map content (filter keeps ts))))
        (left-append (reverse (map content ts)) (reverse (map content (filter keeps ts))) (content t ∷ []) [] (left-reversed keeps ts) tt))
  ])

  -- one level as one content
  level-content : (ts : List Table) → joined (map content ts) ≡ content_of content ts
  level-content ts = flat_map-map (λ c. c) content ts

  left-level : (e : Changes) (level : ℕ) (ts : List Table) → ((a : ℕ × Table) → Has e.added a → a.0 ≡ level → ⊥) → IsDrawn (joined (map content ts)) (joined (map content (edited_level e level ts)))
  left-level e level ts none = drawn-within (joined (map content ts)) (joined (map content (edited_level e level ts))) (λ i h.
      subst (λ x. Has x i) (sym (level-content ts)) (flat-within content (edited_level e level ts) ts (λ t g. elim (level-from e level ts t g) [
        | inl a ↦ absurd (none a.0 a.1 a.3)
        | inr old ↦ old.0
      ]) i (subst (λ x. Has x i) (level-content (edited_level e level ts)) h)))

  left-levels : (e : Changes) (base : ℕ) (levels : LevelLists) → ((a : ℕ × Table) → Has e.added a → base + length levels ≤ a.0) → AreLeftOf (map joined (contents content levels)) (map joined (contents content (edited_from base e levels)))
  left-levels e base [] far = tt
  left-levels e base (ts ∷ levels) far = inl (
    left-level e base ts (λ a h same. let more = far a h in omega arith),
    left-levels e (suc base) levels (λ a h. let more = far a h in omega arith),
  )

  left-places : (groups : List (List Item)) (e : Changes) (l0 : List Table) (more : LevelLists) → ((a : ℕ × Table) → Has e.added a → suc (length more) ≤ a.0) → AreLeftOf (places groups (contents content (l0 ∷ more))) (places groups (contents content (edited_from 0 e (l0 ∷ more))))
  left-places groups e l0 more far =
      left-append (reverse groups) (reverse groups) (reverse (map content l0) ++ map joined (contents content more)) (reverse (map content (edited_level e 0 l0)) ++ map joined (contents content (edited_from 1 e more))) (left-itself (reverse groups))
      (left-append (reverse (map content l0)) (reverse (map content (edited_level e 0 l0))) (map joined (contents content more)) (map joined (contents content (edited_from 1 e more)))
      (subst (λ x. AreLeftOf (reverse (map content l0)) (reverse (map content x))) (sym (level-kept e 0 l0 (λ a h same. let least = far a h in omega arith))) (left-reversed (λ t. not (removes e 0 t)) l0))
      (left-levels e 1 more (λ a h. let least = far a h in omega arith)))

  -- all that the places of some levels have
  pub places-flat : (groups : List (List Item)) (levels : LevelLists) → SameMembers (joined (places groups (contents content levels))) (joined groups ++ content_of content (tables_in levels))
  places-flat groups levels =
      same-along (joined (places groups (contents content levels))) (whole groups (contents content levels)) (joined groups ++ content_of content (tables_in levels))
      (places-same groups (contents content levels))
      (same-equal (whole groups (contents content levels)) (joined groups ++ content_of content (tables_in levels)) (ap (λ x. joined groups ++ x) (contents-flat content levels)))

  between-same : (given upper more lower : List Item) (floor : Floor) → SameMembers upper more → LiesBetween given upper lower floor → LiesBetween given more lower floor
  between-same given upper more lower floor same b = record {
    clear = b.clear;
    newer = newer-within upper given more given (λ i. (same i).1) (λ i h. h) b.newer;
    older = b.older;
    floored = b.floored;
  }

  module _ (groups : List (List Item)) (l0 : List Table) (more : LevelLists) (target : List Table) (lowers : LevelLists) (level : ℕ) (is_level : level ≡ length more) (e : Changes) (given : List Item) (stripes : List ℕ) (floor : Floor) where
    abbrev levels : LevelLists
    levels = l0 ∷ (more ++ (target ∷ lowers))

    abbrev front : LevelLists
    front = l0 ∷ (more ++ (target ∷ []))

    abbrev kept : List Table
    kept = filter (λ t. not (removes e (suc level) t)) target

    abbrev move : Move
    move = record {
      above = places groups (contents content (l0 ∷ more));
      level = joined (map content target);
      below = map joined (contents content lowers);
      given = given;
      left = places groups (contents content (edited_from 0 e (l0 ∷ more)));
      rest = content_of content kept;
      made = content_of content (added_to e (suc level));
    }

    front-is : take (suc (suc level)) levels ≡ front
    front-is = ap (λ x. l0 ∷ x) (subst (λ n. take (suc n) (more ++ (target ∷ lowers)) ≡ more ++ target ∷ []) (sym is_level) (taken more))
      where
        taken : (xs : LevelLists) → take (suc (length xs)) (xs ++ (target ∷ lowers)) ≡ xs ++ target ∷ []
        taken [] = refl
        taken (x ∷ xs) = ap (λ y. x ∷ y) (taken xs)

    lowers-are : drop (suc (suc level)) levels ≡ lowers
    lowers-are = subst (λ n. drop (suc n) (more ++ (target ∷ lowers)) ≡ lowers) (sym is_level) (dropped more)
      where
        dropped : (xs : LevelLists) → drop (suc (length xs)) (xs ++ (target ∷ lowers)) ≡ lowers
        dropped [] = refl
        dropped (x ∷ xs) = dropped xs

    before-is : places groups (contents content levels) ≡ places_before move
    before-is =
        ap (λ x. places groups (map content l0 ∷ x)) (map-append (map content) more (target ∷ lowers))
        ∙ places-split groups (map content l0) (map content target) (contents content more) (contents content lowers)

    module _ (put : IsPut content groups levels level e given stripes floor) where
      far : (a : ℕ × Table) → Has e.added a → suc (length more) ≤ a.0
      far a h = let at = put.edit.added a h in omega (arith, is_level)

      edited-is : edited levels e ≡ edited_level e 0 l0 ∷ (edited_from 1 e more ++ (edited_level e (suc level) target ∷ lowers))
      edited-is = ap (λ x. edited_level e 0 l0 ∷ x) (
          edited-append e 1 (suc level) more (target ∷ lowers) (omega (arith, is_level))
          ∙ ap (λ x. edited_from 1 e more ++ (edited_level e (suc level) target ∷ x))
          (levels-stay e (suc (suc level)) lowers (λ a h. let at = put.edit.added a h in omega arith) (λ r h. let at = put.edit.removed r h in omega arith))
          )

      after-is : places groups (contents content (edited levels e)) ≡ move.left ++ (joined (map content (edited_level e (suc level) target)) ∷ move.below)
      after-is =
          ap (λ x. places groups (contents content x)) edited-is
          ∙ ap (λ x. places groups (map content (edited_level e 0 l0) ∷ x)) (map-append (map content) (edited_from 1 e more) (edited_level e (suc level) target ∷ lowers))
          ∙ places-split groups (map content (edited_level e 0 l0)) (map content (edited_level e (suc level) target)) (contents content (edited_from 1 e more)) (contents content lowers)

      target-same : SameMembers (move.rest ++ move.made) (joined (map content (edited_level e (suc level) target)))
      target-same i = (
        λ h. subst (λ x. Has x i) (sym (level-content (edited_level e (suc level) target))) (elim (Has-append_cases (content_of content kept) (content_of content (added_to e (suc level))) i h) [
          | inl g ↦ flat-within content kept (edited_level e (suc level) target) (λ t k. put_all_in-has (table_cmp (suc level)) (added_to e (suc level)) kept t (inr k)) i g
          | inr g ↦ flat-within content (added_to e (suc level)) (edited_level e (suc level) target) (λ t k. put_all_in-has (table_cmp (suc level)) (added_to e (suc level)) kept t (inl k)) i g
        ]),
        λ h.
            let from = flat-from content (edited_level e (suc level) target) i (subst (λ x. Has x i) (level-content (edited_level e (suc level) target)) h) in
            elim (put_all_in-from (table_cmp (suc level)) (added_to e (suc level)) kept from.0 from.1) [
              | inl g ↦ Has-append_right (content_of content kept) (content_of content (added_to e (suc level))) i (flat-has content (added_to e (suc level)) from.0 i g from.2)
              | inr g ↦ Has-append_left (content_of content kept) (content_of content (added_to e (suc level))) i (flat-has content kept from.0 i g from.2)
            ],
      )

      -- what stands above is what is left of the places above, and of the level
      above-same : SameMembers (stands_above content groups levels level e.removed) (upper_of move)
      above-same =
          same-along (stands_above content groups levels level e.removed) ((joined groups ++ content_of content (others_from e.removed 0 (l0 ∷ more))) ++ content_of content kept) (upper_of move)
          (same-equal (stands_above content groups levels level e.removed) ((joined groups ++ content_of content (others_from e.removed 0 (l0 ∷ more))) ++ content_of content kept) (
          ap (λ x. joined groups ++ content_of content (others_from e.removed 0 x)) front-is
          ∙ ap (λ x. joined groups ++ content_of content x) (others-append e.removed 0 (suc level) (l0 ∷ more) (target ∷ []) (omega (arith, is_level)))
          ∙ ap (λ x. joined groups ++ content_of content (others_from e.removed 0 (l0 ∷ more) ++ x)) (append-nil kept)
          ∙ ap (λ x. joined groups ++ x) (flat_map-append content (others_from e.removed 0 (l0 ∷ more)) kept)
          ∙ sym (append_assoc (joined groups) (content_of content (others_from e.removed 0 (l0 ∷ more))) (content_of content kept))
          ))
          (same-joint (joined groups ++ content_of content (others_from e.removed 0 (l0 ∷ more))) (joined move.left) (content_of content kept) (content_of content kept)
          (same-along (joined groups ++ content_of content (others_from e.removed 0 (l0 ∷ more))) (joined groups ++ content_of content (tables_in (edited_from 0 e (l0 ∷ more)))) (joined move.left)
          (same-equal (joined groups ++ content_of content (others_from e.removed 0 (l0 ∷ more))) (joined groups ++ content_of content (tables_in (edited_from 0 e (l0 ∷ more))))
          (ap (λ x. joined groups ++ content_of content x) (sym (tables-kept e 0 (l0 ∷ more) (λ a h. let least = far a h in omega arith)))))
          (same-turned (joined move.left) (joined groups ++ content_of content (tables_in (edited_from 0 e (l0 ∷ more)))) (places-flat groups (edited_from 0 e (l0 ∷ more)))))
          (same-equal (content_of content kept) (content_of content kept) refl))

      below-is : stands_below content levels level ≡ lower_of move
      below-is = ap (λ x. content_of content (tables_in x)) lowers-are ∙ sym (contents-flat content lowers) ∙ sym (flat_map-map (λ c. c) joined (contents content lowers))

      -- the places above and the level have what isn't taken, and what is
      all-flat : SameMembers (joined move.above ++ move.level) (joined groups ++ content_of content (tables_in front))
      all-flat =
          same-along (joined move.above ++ move.level) ((joined groups ++ content_of content (tables_in (l0 ∷ more))) ++ content_of content target) (joined groups ++ content_of content (tables_in front))
          (same-joint (joined move.above) (joined groups ++ content_of content (tables_in (l0 ∷ more))) move.level (content_of content target) (places-flat groups (l0 ∷ more)) (same-equal move.level (content_of content target) (level-content target)))
          (same-equal ((joined groups ++ content_of content (tables_in (l0 ∷ more))) ++ content_of content target) (joined groups ++ content_of content (tables_in front)) (
          append_assoc (joined groups) (content_of content (tables_in (l0 ∷ more))) (content_of content target)
          ∙ ap (λ x. joined groups ++ x) (sym (flat_map-append content (tables_in (l0 ∷ more)) target))
          ∙ ap (λ x. joined groups ++ content_of content x) (ap (λ x. tables_in (l0 ∷ more) ++ x) (sym (append-nil target)) ∙ sym (flat_map-append (λ ts. ts) (l0 ∷ more) (target ∷ [])))
          ))

      inputs-same : SameMembers given (content_of content (inputs_from e.removed 0 front))
      inputs-same i = (
        λ h. flat-within content (inputs_from e.removed 0 levels) (inputs_from e.removed 0 front)
            (λ t g. subst (λ x. Has (inputs_from e.removed 0 x) t) front-is (inputs-front e.removed 0 (suc (suc level)) levels t (λ r k. let at = put.edit.removed r k in omega arith) g)) i ((put.inputs i).0 h),
        λ h. (put.inputs i).1 (flat-within content (inputs_from e.removed 0 front) (inputs_from e.removed 0 levels) (λ t g. more-inputs t g) i h),
      )
        where
          longer : (inputs : List (ℕ × ℕ)) (base : ℕ) (xs : LevelLists) (t : Table) → Has (inputs_from inputs base (xs ++ (target ∷ []))) t → Has (inputs_from inputs base (xs ++ (target ∷ lowers))) t
          longer inputs base [] t g = elim (Has-append_cases (filter (is_input inputs base) target) [] t g) [
            | inl k ↦ Has-append_left (filter (is_input inputs base) target) (inputs_from inputs (suc base) lowers) t k
            | inr never ↦ absurd never
          ]
          longer inputs base (x ∷ xs) t g = elim (Has-append_cases (filter (is_input inputs base) x) (inputs_from inputs (suc base) (xs ++ (target ∷ []))) t g) [
            | inl k ↦ Has-append_left (filter (is_input inputs base) x) (inputs_from inputs (suc base) (xs ++ (target ∷ lowers))) t k
            | inr k ↦ Has-append_right (filter (is_input inputs base) x) (inputs_from inputs (suc base) (xs ++ (target ∷ lowers))) t (longer inputs (suc base) xs t k)
          ]

          more-inputs : (t : Table) → Has (inputs_from e.removed 0 front) t → Has (inputs_from e.removed 0 levels) t
          more-inputs t g = longer e.removed 0 (l0 ∷ more) t g

      others-is : stands_above content groups levels level e.removed ≡ joined groups ++ content_of content (others_from e.removed 0 front)
      others-is = ap (λ x. joined groups ++ content_of content (others_from e.removed 0 x)) front-is

      parts-same : SameMembers (joined groups ++ content_of content (tables_in front)) (stands_above content groups levels level e.removed ++ given)
      parts-same i = (
        λ h. elim (Has-append_cases (joined groups) (content_of content (tables_in front)) i h) [
          | inl g ↦ Has-append_left (stands_above content groups levels level e.removed) given i
              (subst (λ x. Has x i) (sym others-is) (Has-append_left (joined groups) (content_of content (others_from e.removed 0 front)) i g))
          | inr g ↦
              let from = flat-from content (tables_in front) i g in
              elim (tables-part e.removed 0 front from.0 from.1) [
                | inl k ↦ Has-append_left (stands_above content groups levels level e.removed) given i
                    (subst (λ x. Has x i) (sym others-is) (Has-append_right (joined groups) (content_of content (others_from e.removed 0 front)) i (flat-has content (others_from e.removed 0 front) from.0 i k from.2)))
                | inr k ↦ Has-append_right (stands_above content groups levels level e.removed) given i ((inputs-same i).1 (flat-has content (inputs_from e.removed 0 front) from.0 i k from.2))
              ]
        ],
        λ h. elim (Has-append_cases (stands_above content groups levels level e.removed) given i h) [
          | inl g ↦ elim (Has-append_cases (joined groups) (content_of content (others_from e.removed 0 front)) i (subst (λ x. Has x i) others-is g)) [
            | inl k ↦ Has-append_left (joined groups) (content_of content (tables_in front)) i k
            | inr k ↦ Has-append_right (joined groups) (content_of content (tables_in front)) i (flat-within content (others_from e.removed 0 front) (tables_in front) (λ t. others-within e.removed 0 front t) i k)
          ]
          | inr g ↦ Has-append_right (joined groups) (content_of content (tables_in front)) i
              (flat-within content (inputs_from e.removed 0 front) (tables_in front) (λ t. inputs-within e.removed 0 front t) i ((inputs-same i).0 g))
        ],
      )

      compaction : IsCompaction stripes floor move
      compaction = record {
        left = left-places groups e l0 more far;
        rest = λ i h. subst (λ x. Has x i) (sym (level-content target)) (flat-within content kept target (λ t g. (Has-from_filter (λ u. not (removes e (suc level) u)) target t g).0) i h);
        all = same-along (joined move.above ++ move.level) (joined groups ++ content_of content (tables_in front)) (upper_of move ++ given) all-flat
            (same-along (joined groups ++ content_of content (tables_in front)) (stands_above content groups levels level e.removed ++ given) (upper_of move ++ given) parts-same
            (same-joint (stands_above content groups levels level e.removed) (upper_of move) given given above-same (same-equal given given refl)));
        between = subst (λ x. LiesBetween given (upper_of move) x floor) below-is
            (between-same given (stands_above content groups levels level e.removed) (upper_of move) (stands_below content levels level) floor above-same put.under_way);
        made = put.made;
      }

      after-same : SameMembers (joined (places_after move)) (whole groups (contents content (edited levels e)))
      after-same =
          same-along (joined (places_after move)) (joined (move.left ++ (joined (map content (edited_level e (suc level) target)) ∷ move.below))) (whole groups (contents content (edited levels e)))
          (same-along (joined (places_after move)) (joined move.left ++ ((move.rest ++ move.made) ++ joined move.below)) (joined (move.left ++ (joined (map content (edited_level e (suc level) target)) ∷ move.below)))
          (same-equal (joined (places_after move)) (joined move.left ++ ((move.rest ++ move.made) ++ joined move.below)) (joined-append move.left ((move.rest ++ move.made) ∷ move.below)))
          (same-along (joined move.left ++ ((move.rest ++ move.made) ++ joined move.below)) (joined move.left ++ (joined (map content (edited_level e (suc level) target)) ++ joined move.below)) (joined (move.left ++ (joined (map content (edited_level e (suc level) target)) ∷ move.below)))
          (same-joint (joined move.left) (joined move.left) ((move.rest ++ move.made) ++ joined move.below) (joined (map content (edited_level e (suc level) target)) ++ joined move.below) (same-equal (joined move.left) (joined move.left) refl)
          (same-joint (move.rest ++ move.made) (joined (map content (edited_level e (suc level) target))) (joined move.below) (joined move.below) target-same (same-equal (joined move.below) (joined move.below) refl)))
          (same-equal (joined move.left ++ (joined (map content (edited_level e (suc level) target)) ++ joined move.below)) (joined (move.left ++ (joined (map content (edited_level e (suc level) target)) ∷ move.below)))
          (sym (joined-append move.left (joined (map content (edited_level e (suc level) target)) ∷ move.below))))))
          (subst (λ x. SameMembers (joined x) (whole groups (contents content (edited levels e)))) after-is (places-same groups (contents content (edited levels e))))

      before-same : SameMembers (whole groups (contents content levels)) (joined (places_before move))
      before-same = subst (λ x. SameMembers (whole groups (contents content levels)) (joined x)) before-is (same-turned (joined (places groups (contents content levels))) (whole groups (contents content levels)) (places-same groups (contents content levels)))

      pub put-ordered : Ordered (places groups (contents content levels)) → Ordered (places groups (contents content (edited levels e)))
      put-ordered o = subst Ordered (sym after-is) (ordered-same move.left move.below (move.rest ++ move.made) (joined (map content (edited_level e (suc level) target))) target-same
          (compacted-ordered stripes floor move (subst Ordered before-is o) compaction))

      pub put-image : Ordered (places groups (contents content levels)) → (limit : ℕ) → IsLimit given stripes limit → image (whole groups (contents content levels)) limit ≡ image (whole groups (contents content (edited levels e))) limit
      put-image o limit at_limit =
          let ordered = subst Ordered before-is o in
          image-same (whole groups (contents content levels)) (joined (places_before move)) limit (places-clear groups (contents content levels) o) before-same
          ∙ compacted-image stripes floor move ordered compaction limit at_limit
          ∙ image-same (joined (places_after move)) (whole groups (contents content (edited levels e))) limit (ordered-clear (places_after move) (compacted-ordered stripes floor move ordered compaction)) after-same

      pub put-numbers : (next : ℕ) (marks : List ℕ) → IsNumberedUpTo next (whole groups (contents content levels)) marks → IsNumberedUpTo next (whole groups (contents content (edited levels e))) marks
      put-numbers next marks n =
          numbers-drawn next (joined (places_after move)) (whole groups (contents content (edited levels e))) marks
          (compacted-numbers stripes floor move next marks compaction
          (numbers-drawn next (whole groups (contents content levels)) (joined (places_before move)) marks n (λ i h. (i, (before-same i).1 h, refl))))
          (λ i h. (i, (after-same i).1 h, refl))

-- a level of a version, and the levels before and behind it

split-at : (levels : LevelLists) (n : ℕ) → n < length levels → (front : LevelLists) × (ts : List Table) × (back : LevelLists) × (levels ≡ front ++ (ts ∷ back)) × (n ≡ length front)
split-at [] n h = absurd (omega arith)
split-at (ts ∷ levels) zero h = ([], ts, levels, refl, refl)
split-at (ts ∷ levels) (suc n) h =
    let (front, us, back, same, long) = split-at levels n (omega arith) in
    (ts ∷ front, us, back, ap (λ x. ts ∷ x) same, omega (arith, long))

module _ (content : Table → List Item) (groups : List (List Item)) where
  pub edit-ordered : (levels : LevelLists) (level : ℕ) (e : Changes) (given : List Item) (stripes : List ℕ) (floor : Floor) → suc level < length levels → Ordered (places groups (contents content levels)) → IsPut content groups levels level e given stripes floor → Ordered (places groups (contents content (edited levels e)))
  edit-ordered [] level e given stripes floor few o put = absurd (omega arith)
  edit-ordered (l0 ∷ rest) level e given stripes floor few o put =
      let (more, target, lowers, same, long) = split-at rest level (omega arith) in
      subst (λ x. Ordered (places groups (contents content (edited (l0 ∷ x) e)))) (sym same)
      (put-ordered content groups l0 more target lowers level long e given stripes floor (subst (λ x. IsPut content groups (l0 ∷ x) level e given stripes floor) same put)
      (subst (λ x. Ordered (places groups (contents content (l0 ∷ x)))) same o))

  pub edit-image : (levels : LevelLists) (level : ℕ) (e : Changes) (given : List Item) (stripes : List ℕ) (floor : Floor) → suc level < length levels → Ordered (places groups (contents content levels)) → IsPut content groups levels level e given stripes floor → (limit : ℕ) → IsLimit given stripes limit → image (whole groups (contents content levels)) limit ≡ image (whole groups (contents content (edited levels e))) limit
  edit-image [] level e given stripes floor few o put limit at_limit = absurd (omega arith)
  edit-image (l0 ∷ rest) level e given stripes floor few o put limit at_limit =
      let (more, target, lowers, same, long) = split-at rest level (omega arith) in
      subst (λ x. image (whole groups (contents content (l0 ∷ x))) limit ≡ image (whole groups (contents content (edited (l0 ∷ x) e))) limit) (sym same)
      (put-image content groups l0 more target lowers level long e given stripes floor (subst (λ x. IsPut content groups (l0 ∷ x) level e given stripes floor) same put)
      (subst (λ x. Ordered (places groups (contents content (l0 ∷ x)))) same o) limit at_limit)

  pub edit-numbers : (levels : LevelLists) (level : ℕ) (e : Changes) (given : List Item) (stripes : List ℕ) (floor : Floor) → suc level < length levels → IsPut content groups levels level e given stripes floor → (next : ℕ) (marks : List ℕ) → IsNumberedUpTo next (whole groups (contents content levels)) marks → IsNumberedUpTo next (whole groups (contents content (edited levels e))) marks
  edit-numbers [] level e given stripes floor few put next marks n = absurd (omega arith)
  edit-numbers (l0 ∷ rest) level e given stripes floor few put next marks n =
      let (more, target, lowers, same, long) = split-at rest level (omega arith) in
      subst (λ x. IsNumberedUpTo next (whole groups (contents content (edited (l0 ∷ x) e))) marks) (sym same)
      (put-numbers content groups l0 more target lowers level long e given stripes floor (subst (λ x. IsPut content groups (l0 ∷ x) level e given stripes floor) same put) next marks
      (subst (λ x. IsNumberedUpTo next (whole groups (contents content (l0 ∷ x))) marks) same n))

-- a table that is put into L0

pub first-le : (m n : ℕ) (r : Ordering) → is_le (ordering_then (nat_cmp m n) r) ≡ true → m ≤ n
first-le m n r h = elim (cases_lt n m) [
  | inl less ↦
      let not_below : ltb m n ≡ false = le-ltb m n (omega arith) in
      let not_same : (m == n) ≡ false = false_from_ne_true (m == n) (λ e. let same = eqb-true m n e in omega arith) in
      let is : nat_cmp m n ≡ Greater = ap (λ b. cond b Less (cond (m == n) Equal Greater)) not_below ∙ ap (λ b. cond b Equal Greater) not_same in
      absurd (false≢true (ap (λ o. is_le (ordering_then o r)) (sym is) ∙ h))
  | inr upto ↦ omega arith
]

first-not_lt : (m n : ℕ) (r : Ordering) → is_lt (ordering_then (nat_cmp m n) r) ≡ false → n ≤ m
first-not_lt m n r h = elim (cases_lt m n) [
  | inl less ↦
      let is : nat_cmp m n ≡ Less = ap (λ b. cond b Less (cond (m == n) Equal Greater)) (lt-ltb m n less) in
      absurd (false≢true (sym h ∙ ap (λ o. is_lt (ordering_then o r)) is))
  | inr upto ↦ omega arith
]

pub each-of : (test : Table → Bool) (ts : List Table) (t : Table) → list_all test ts ≡ true → Has ts t → test t ≡ true
each-of test [] t h g = absurd g
each-of test (u ∷ ts) t h (inl e) = subst (λ x. test x ≡ true) e (and_parts (test u) (list_all test ts) h).0
each-of test (u ∷ ts) t h (inr g) = each-of test ts t (and_parts (test u) (list_all test ts) h).1 g

put-split : (t : Table) (l0 : List Table) → is_sorted (table_cmp 0) l0 ≡ true → (older : List Table) × (newer : List Table) × (l0 ≡ older ++ newer) × (put_in (table_cmp 0) t l0 ≡ older ++ (t ∷ newer)) × ((u : Table) → Has newer u → t.seq_hi ≤ u.seq_hi)
put-split t [] sorted = ([], [], refl, refl, λ u h. absurd h)
put-split t (x ∷ xs) sorted =
    let parts = and_parts (list_all (λ u. is_le (table_cmp 0 x u)) xs) (is_sorted (table_cmp 0) xs) sorted in
    elim (cases_Bool (is_lt (table_cmp 0 x t))) [
      | inl less ↦
          let (older, newer, same, made, high) = put-split t xs parts.1 in
          (x ∷ older, newer, ap (λ y. x ∷ y) same, ap (λ b. cond b (x ∷ put_in (table_cmp 0) t xs) (t ∷ x ∷ xs)) less ∙ ap (λ y. x ∷ y) made, high)
      | inr more ↦
          let first : t.seq_hi ≤ x.seq_hi = first-not_lt x.seq_hi t.seq_hi (nat_cmp x.num t.num) more in (
            [],
            x ∷ xs,
            refl,
            ap (λ b. cond b (x ∷ put_in (table_cmp 0) t xs) (t ∷ x ∷ xs)) more,
            λ u h. elim h [
              | inl e ↦ let same : x.seq_hi ≡ u.seq_hi = ap (λ y. y.seq_hi) e in omega arith
              | inr g ↦
                  let behind : x.seq_hi ≤ u.seq_hi = first-le x.seq_hi u.seq_hi (nat_cmp x.num u.num) (each-of (λ y. is_le (table_cmp 0 x y)) xs u parts.0 g) in
                  omega arith
            ],
          )
    ]

-- only L0 changes
pub flush-edit : (l0 : List Table) (lower : LevelLists) (t : Table) (files : List ℕ) → is_sorted (table_cmp 0) l0 ≡ true → (older : List Table) × (newer : List Table) × (l0 ≡ older ++ newer) × (edited (l0 ∷ lower) (changes [] files ((0, t) ∷ [])) ≡ (older ++ (t ∷ newer)) ∷ lower) × ((u : Table) → Has newer u → t.seq_hi ≤ u.seq_hi)
flush-edit l0 lower t files sorted =
    let (older, newer, same, made, high) = put-split t l0 sorted in
    let e = changes [] files ((0, t) ∷ []) in
    let below = levels-stay e 1 lower (λ a h. elim h [
      | inl is ↦ let at : 0 ≡ a.0 = ap (λ x. x.0) is in omega arith
      | inr never ↦ absurd never
    ]) (λ r h. absurd h) in
    (older, newer, same, ap (λ x. put_in (table_cmp 0) t x ∷ edited_from 1 e lower) (all-true l0) ∙ ap (λ x. x ∷ edited_from 1 e lower) made ∙ ap (λ x. (older ++ (t ∷ newer)) ∷ x) below, high)
