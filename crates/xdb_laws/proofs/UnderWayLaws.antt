-- Compactions get under way, and stay so through the steps of others.
use Rattle.std.proofs.Common.{◌≡◌, ℕ, zero, suc, ◌+◌, ◌<◌, ◌≤◌, ◌⊎◌, Bool, true, not, List, [], ◌∷◌, ◌++◌, map, filter, reverse, take, drop, append-nil, inl, inr, IsTrue, refl, sym, ap, ◌∙◌, subst, arith}
use Rattle.std.proofs.lemmas.List.{map-append, take-append-drop}
use Rattle.std.proofs.lemmas.List.Folds.{flat_map-map}
use Rattle.std.specs.List.{flat_map}
use Rattle.xdb_edit.specs.Changes.{Changes}
use Rattle.xdb_edit.specs.Versions.{LevelLists, edited, added_to, table_cmp, is_sorted}
use Rattle.xdb_key.specs.declared.op.Op.{Op}
use Rattle.xdb_meta.specs.Table.{Table}
use Rattle.xdb_mem.specs.Numbered.{numbered}
use Rattle.xdb_mem.specs.Parts.{items}
use Rattle.xdb_rangedel.specs.Content.{Item, here}
use Rattle.xdb_rangedel.specs.Layers.{IsAllBelow, IsDrawn}
use Rattle.xdb_rangedel.specs.Members.{Has, SameMembers}
use Rattle.xdb_rangedel.proofs.MemberLaws.{Has-append_left, Has-append_right, Has-append_cases}
use Rattle.xdb_stripes.specs.Floors.{floor_holds}
use Rattle.xdb_stripes.specs.declared.floor.Floor.{Floor}
use Rattle.xdb_stripes.proofs.AnyLaws.{Has-filter, Has-from_filter}
use Rattle.xdb_laws.specs.Compaction.{ShareNoKey}
use Rattle.xdb_laws.specs.Ordered.{IsNewer, joined, Ordered, HasSource, places, whole}
use Rattle.xdb_laws.specs.Tables.{flush_edit, is_input, inputs_from, others_from, tables_in, IsCompactionEdit, contents, content_of, stands_above, stands_below, IsUnderWay}
use Rattle.xdb_laws.proofs.CompactLaws.{between-changed}
use Rattle.xdb_laws.proofs.OrderLaws.{joined-left, joined-right, joined-cases, newer-within, newer-drawn, drawn-itself, source-in, clear-within, ordered-layers}
use Rattle.xdb_laws.proofs.PlaceLaws.{same-reversed, places-split, places-clear, numbered-item, newer-numbered}
use Rattle.xdb_laws.proofs.EditLaws.{places-flat, flush-edit}
use Rattle.xdb_laws.proofs.TableLaws.{added-has, flat-has, flat-from, flat-within, contents-flat, inputs-within, inputs-front, inputs-back, inputs-others, others-edited, below-edited, others-split}

module _ (content : Table → List Item) where
  -- what some levels have is newer than what those below them have

  below-flat : (levels : LevelLists) (i : Item) → Has (content_of content (tables_in levels)) i → Has (joined (map joined (contents content levels))) i
  below-flat levels i h = subst (λ x. Has x i) (sym (flat_map-map (λ c. c) joined (contents content levels) ∙ contents-flat content levels)) h

  levels-newer : (groups : List (List Item)) (levels : LevelLists) (count : ℕ) → Ordered (places groups (contents content levels)) → IsNewer (joined groups ++ content_of content (tables_in (take count levels))) (content_of content (tables_in (drop count levels)))
  levels-newer groups [] zero o = λ k i j p q at_i at_j. absurd q
  levels-newer groups [] (suc count) o = λ k i j p q at_i at_j. absurd q
  levels-newer groups (l0 ∷ rest) zero o =
      newer-within (joined (reverse groups)) (joined (reverse (map content l0) ++ map joined (contents content rest))) (joined groups ++ []) (content_of content (tables_in (l0 ∷ rest)))
      (λ i h. (same-reversed groups i).1 (subst (λ x. Has x i) (append-nil (joined groups)) h))
      (λ i h. elim (Has-append_cases (content_of content l0) (content_of content (tables_in rest)) i (split i h)) [
        | inl g ↦ joined-left (reverse (map content l0)) (map joined (contents content rest)) i ((same-reversed (map content l0) i).1 (subst (λ x. Has x i) (sym (flat_map-map (λ c. c) content l0)) g))
        | inr g ↦ joined-right (reverse (map content l0)) (map joined (contents content rest)) i (below-flat rest i g)
      ])
      (ordered-layers (reverse groups) (reverse (map content l0) ++ map joined (contents content rest)) o)
    where
      split : (i : Item) → Has (content_of content (l0 ++ tables_in rest)) i → Has (content_of content l0 ++ content_of content (tables_in rest)) i
      split i h =
          let from = flat-from content (l0 ++ tables_in rest) i h in
          elim (Has-append_cases l0 (tables_in rest) from.0 from.1) [
            | inl g ↦ Has-append_left (content_of content l0) (content_of content (tables_in rest)) i (flat-has content l0 from.0 i g from.2)
            | inr g ↦ Has-append_right (content_of content l0) (content_of content (tables_in rest)) i (flat-has content (tables_in rest) from.0 i g from.2)
          ]
  levels-newer groups (l0 ∷ rest) (suc count) o =
      newer-within (joined (places groups (contents content (l0 ∷ take count rest)))) (joined (map joined (contents content (drop count rest)))) (joined groups ++ content_of content (tables_in (l0 ∷ take count rest))) (content_of content (tables_in (drop count rest)))
      (λ i h. (places-flat content groups (l0 ∷ take count rest) i).1 h)
      (λ i h. below-flat (drop count rest) i h)
      (apart (take count rest) (drop count rest) (subst (λ x. Ordered (places groups (contents content (l0 ∷ x)))) (sym (take-append-drop count rest)) o))
    where
      apart : (upper lower : LevelLists) → Ordered (places groups (contents content (l0 ∷ (upper ++ lower)))) → IsNewer (joined (places groups (contents content (l0 ∷ upper)))) (joined (map joined (contents content lower)))
      apart upper [] ordered = λ k i j p q at_i at_j. absurd q
      apart upper (ts ∷ lower) ordered =
          ordered-layers (places groups (contents content (l0 ∷ upper))) (map joined (contents content (ts ∷ lower)))
          (subst Ordered (ap (λ x. places groups (map content l0 ∷ x)) (map-append (map content) upper (ts ∷ lower)) ∙ places-split groups (map content l0) (map content ts) (contents content upper) (contents content lower)) ordered)

  module _ (groups : List (List Item)) (levels : LevelLists) (level : ℕ) (inputs : List (ℕ × ℕ)) (given : List Item) (floor : Floor) where
    pub way-taken : Ordered (places groups (contents content levels)) → ((r : ℕ × ℕ) → Has inputs r → (level ≤ r.0) × (r.0 ≤ suc level)) → SameMembers given (content_of content (inputs_from inputs 0 levels)) → ShareNoKey (content_of content (others_from inputs level (take 2 (drop level levels)))) given → ((k : List ℕ) (i : Item) → Has (stands_below content levels level) i → IsTrue (here k i) → IsTrue (floor_holds floor k)) → IsUnderWay content groups levels level inputs given floor
    way-taken o two same apart floored = record {
      clear = clear-within (whole groups (contents content levels)) given (λ i h.
          Has-append_right (joined groups) (flat_map joined (contents content levels)) i
          (subst (λ x. Has x i) (sym (contents-flat content levels)) (flat-within content (inputs_from inputs 0 levels) (tables_in levels) (λ t. inputs-within inputs 0 levels t) i ((same i).0 h))))
          (places-clear groups (contents content levels) o);
      newer = λ k i j p q at_i at_j. elim (above i p) [
        | inl g ↦ levels-newer groups levels level o k i j g (back j q) at_i at_j
        | inr g ↦ absurd (apart k i j g q at_i at_j)
      ];
      older = λ k i j p q at_i at_j. levels-newer groups levels (suc (suc level)) o k i j (Has-append_right (joined groups) (content_of content (tables_in (take (suc (suc level)) levels))) i (front i p)) q at_i at_j;
      floored = λ k i j p q at_i at_j. floored k j q at_j;
    }
      where
        back : (i : Item) → Has given i → Has (content_of content (tables_in (drop level levels))) i
        back i h = flat-within content (inputs_from inputs 0 levels) (tables_in (drop level levels)) (λ t g. inputs-back inputs 0 level levels t (λ r k. let low = (two r k).0 in omega arith) g) i ((same i).0 h)

        front : (i : Item) → Has given i → Has (content_of content (tables_in (take (suc (suc level)) levels))) i
        front i h = flat-within content (inputs_from inputs 0 levels) (tables_in (take (suc (suc level)) levels)) (λ t g.
            inputs-within inputs 0 (take (suc (suc level)) levels) t (inputs-front inputs 0 (suc (suc level)) levels t (λ r k. let high = (two r k).1 in omega arith) g)) i ((same i).0 h)

        zero-first : (t : Table) → Has (others_from inputs (0 + level) (take 2 (drop level levels))) t → Has (others_from inputs level (take 2 (drop level levels))) t
        zero-first t g = let one : 0 + level ≡ level = omega arith in subst (λ n. Has (others_from inputs n (take 2 (drop level levels))) t) one g

        above : (i : Item) → Has (stands_above content groups levels level inputs) i → Has (joined groups ++ content_of content (tables_in (take level levels))) i ⊎ Has (content_of content (others_from inputs level (take 2 (drop level levels)))) i
        above i h = elim (Has-append_cases (joined groups) (content_of content (others_from inputs 0 (take (suc (suc level)) levels))) i h) [
          | inl g ↦ inl (Has-append_left (joined groups) (content_of content (tables_in (take level levels))) i g)
          | inr g ↦
              let from = flat-from content (others_from inputs 0 (take (suc (suc level)) levels)) i g in
              elim (others-split inputs 0 level levels from.0 from.1) [
                | inl k ↦ inl (Has-append_right (joined groups) (content_of content (tables_in (take level levels))) i (flat-has content (tables_in (take level levels)) from.0 i k from.2))
                | inr k ↦ inr (flat-has content (others_from inputs level (take 2 (drop level levels))) from.0 i (zero-first from.0 k) from.2)
              ]
        ]

    -- what stands below stays, and so does what stands above but for newer content
    way-above : (more : List (List Item)) → IsNewer (joined more) given → IsUnderWay content groups levels level inputs given floor → IsUnderWay content more levels level inputs given floor
    way-above more newer b = between-changed given (stands_above content groups levels level inputs) (stands_below content levels level) (stands_above content more levels level inputs) (stands_below content levels level) floor b
        (λ k i j p q at_i at_j. elim (Has-append_cases (joined more) (content_of content (others_from inputs 0 (take (suc (suc level)) levels))) i p) [
          | inl g ↦ newer k i j g q at_i at_j
          | inr g ↦ b.newer k i j (Has-append_right (joined groups) (content_of content (others_from inputs 0 (take (suc (suc level)) levels))) i g) q at_i at_j
        ])
        (λ k g i p q at_g at_i. (i, q, at_i, refl, refl))

    groups-newer : IsUnderWay content groups levels level inputs given floor → IsNewer (joined groups) given
    groups-newer b = newer-within (stands_above content groups levels level inputs) given (joined groups) given (λ i. Has-append_left (joined groups) (content_of content (others_from inputs 0 (take (suc (suc level)) levels))) i) (λ i h. h) b.newer

    pub way-sealed : IsUnderWay content groups levels level inputs given floor → IsUnderWay content (groups ++ [] ∷ []) levels level inputs given floor
    way-sealed b = way-above (groups ++ [] ∷ []) (newer-within (joined groups) given (joined (groups ++ [] ∷ [])) given (λ i h. elim (joined-cases groups ([] ∷ []) i h) [
      | inl g ↦ g
      | inr never ↦ absurd never
    ]) (λ i h. h) (groups-newer b)) b

    abbrev old : List Table
    old = others_from inputs 0 (take (suc (suc level)) levels)

    -- another compaction is put
    pub way-compacted : (other : ℕ) (taken : List Item) (e : Changes) → IsUnderWay content groups levels level inputs given floor → IsCompactionEdit other e → SameMembers taken (content_of content (inputs_from e.removed 0 levels)) → IsDrawn taken (content_of content (added_to e (suc other))) → ((r : ℕ × ℕ) → Has inputs r → Has e.removed r → ⊥) → ShareNoKey given taken → IsUnderWay content groups (edited levels e) level inputs given floor
    way-compacted other taken e b edit same drawn apart beside = between-changed given (stands_above content groups levels level inputs) (stands_below content levels level) (stands_above content groups (edited levels e) level inputs) (stands_below content (edited levels e) level) floor b
        (newer-drawn (stands_above content groups levels level inputs) given (stands_above content groups (edited levels e) level inputs) given above (drawn-itself given) b.newer)
        below
      where
        source : (k : List ℕ) (i : Item) (a : ℕ × Table) (t : Table) → Has e.added a → a.1 ≡ t → Has (content t) i → IsTrue (here k i) → HasSource taken k i
        source k i a t h is g at_i = drawn k i (flat-has content (added_to e (suc other)) t i (subst (λ x. Has (added_to e (suc other)) x) is (added-has e (suc other) a h (edit.added a h))) g) at_i

        input : (t : Table) → suc other < suc (suc level) → Has (inputs_from e.removed 0 levels) t → Has old t
        input t few h = inputs-others inputs e.removed 0 (suc (suc other)) (suc (suc level)) levels t apart (omega (arith, few))
            (inputs-front e.removed 0 (suc (suc other)) levels t (λ r k. let at = edit.removed r k in omega arith) h)

        above : IsDrawn (stands_above content groups levels level inputs) (stands_above content groups (edited levels e) level inputs)
        above k i h at_i = elim (Has-append_cases (joined groups) (content_of content (others_from inputs 0 (take (suc (suc level)) (edited levels e)))) i h) [
          | inl g ↦ (i, Has-append_left (joined groups) (content_of content old) i g, at_i, refl, refl)
          | inr g ↦
              let from = flat-from content (others_from inputs 0 (take (suc (suc level)) (edited levels e))) i g in
              elim (others-edited inputs e 0 (suc (suc level)) levels from.0 from.1) [
                | inl was ↦ (i, Has-append_right (joined groups) (content_of content old) i (flat-has content old from.0 i was from.2), at_i, refl, refl)
                | inr a ↦
                    let at = edit.added a.0 a.1 in
                    source-in taken (joined groups ++ content_of content old) k i (λ j q.
                    Has-append_right (joined groups) (content_of content old) j (flat-within content (inputs_from e.removed 0 levels) old (λ t. input t (omega (arith, at, a.3))) j ((same j).0 q)))
                    (source k i a.0 from.0 a.1 a.2 from.2 at_i)
              ]
        ]

        below : (k : List ℕ) (g i : Item) → Has given g → Has (stands_below content (edited levels e) level) i → IsTrue (here k g) → IsTrue (here k i) → HasSource (stands_below content levels level) k i
        below k g i p q at_g at_i =
            let from = flat-from content (tables_in (drop (suc (suc level)) (edited levels e))) i q in
            elim (below-edited e 0 (suc (suc level)) levels from.0 from.1) [
              | inl was ↦ (i, flat-has content (tables_in (drop (suc (suc level)) levels)) from.0 i was from.2, at_i, refl, refl)
              | inr a ↦
                  let s = source k i a.0 from.0 a.1 a.2 from.2 at_i in
                  absurd (beside k g s.0 p s.1 at_g s.2)
            ]

  pub way-committed : (sealed : List (List Item)) (active : List Item) (levels : LevelLists) (level : ℕ) (inputs : List (ℕ × ℕ)) (given : List Item) (floor : Floor) (next : ℕ) (ops : List Op) → IsAllBelow next given → IsUnderWay content (sealed ++ active ∷ []) levels level inputs given floor → IsUnderWay content (sealed ++ (active ++ items (numbered next ops)) ∷ []) levels level inputs given floor
  way-committed sealed active levels level inputs given floor next ops below b =
      let old = groups-newer (sealed ++ active ∷ []) levels level inputs given floor b in
      let new = newer-numbered next (items (numbered next ops)) given (λ i h. (numbered-item next ops i h).0) below in
      way-above (sealed ++ active ∷ []) levels level inputs given floor (sealed ++ (active ++ items (numbered next ops)) ∷ []) (λ k i j p q at_i at_j. elim (joined-cases sealed ((active ++ items (numbered next ops)) ∷ []) i p) [
        | inl g ↦ old k i j (joined-left sealed (active ∷ []) i g) q at_i at_j
        | inr g ↦ elim (Has-append_cases active (items (numbered next ops)) i (subst (λ x. Has x i) (append-nil (active ++ items (numbered next ops))) g)) [
          | inl was ↦ old k i j (joined-right sealed (active ∷ []) i (Has-append_left active [] i was)) q at_i at_j
          | inr is ↦ new k i j is q at_i at_j
        ]
      ]) b

  module _ (group : List Item) (groups : List (List Item)) (older newer : List Table) (t : Table) (lower : LevelLists) (level : ℕ) (inputs : List (ℕ × ℕ)) (drawn : IsDrawn group (content t)) where
    abbrev rest : List Table
    rest = others_from inputs 1 (take (suc level) lower)

    abbrev is_other : Table → Bool
    is_other u = not (is_input inputs 0 u)

    abbrev before : List Item
    before = (group ++ joined groups) ++ content_of content (filter is_other (older ++ newer) ++ rest)

    in-l0 : (u : Table) (i : Item) → Has (older ++ newer) u → is_other u ≡ true → Has (content u) i → Has before i
    in-l0 u i h e g = Has-append_right (group ++ joined groups) (content_of content (filter is_other (older ++ newer) ++ rest)) i
        (flat-has content (filter is_other (older ++ newer) ++ rest) u i (Has-append_left (filter is_other (older ++ newer)) rest u (Has-filter is_other (older ++ newer) u h e)) g)

    above : IsDrawn before (stands_above content groups ((older ++ (t ∷ newer)) ∷ lower) level inputs)
    above k i h at_i = elim (Has-append_cases (joined groups) (content_of content (filter is_other (older ++ (t ∷ newer)) ++ rest)) i h) [
      | inl g ↦ (i, Has-append_left (group ++ joined groups) (content_of content (filter is_other (older ++ newer) ++ rest)) i (Has-append_right group (joined groups) i g), at_i, refl, refl)
      | inr g ↦
          let (u, has, there) = flat-from content (filter is_other (older ++ (t ∷ newer)) ++ rest) i g in
          elim (Has-append_cases (filter is_other (older ++ (t ∷ newer))) rest u has) [
            | inl p ↦
                let (in_l0, kept) = Has-from_filter is_other (older ++ (t ∷ newer)) u p in
                elim (Has-append_cases older (t ∷ newer) u in_l0) [
                  | inl q ↦ (i, in-l0 u i (Has-append_left older newer u q) kept there, at_i, refl, refl)
                  | inr q ↦ elim q [
                    | inl is ↦ source-in group before k i
                        (λ j r. Has-append_left (group ++ joined groups) (content_of content (filter is_other (older ++ newer) ++ rest)) j (Has-append_left group (joined groups) j r))
                        (drawn k i (subst (λ x. Has (content x) i) (sym is) there) at_i)
                    | inr r ↦ (i, in-l0 u i (Has-append_right older newer u r) kept there, at_i, refl, refl)
                  ]
                ]
            | inr p ↦ (i, Has-append_right (group ++ joined groups) (content_of content (filter is_other (older ++ newer) ++ rest)) i (flat-has content (filter is_other (older ++ newer) ++ rest) u i (Has-append_right (filter is_other (older ++ newer)) rest u p) there), at_i, refl, refl)
          ]
    ]

    pub way-flushed : (given : List Item) (floor : Floor) → IsUnderWay content (group ∷ groups) ((older ++ newer) ∷ lower) level inputs given floor → IsUnderWay content groups ((older ++ (t ∷ newer)) ∷ lower) level inputs given floor
    way-flushed given floor b = between-changed given (stands_above content (group ∷ groups) ((older ++ newer) ∷ lower) level inputs) (stands_below content ((older ++ newer) ∷ lower) level) (stands_above content groups ((older ++ (t ∷ newer)) ∷ lower) level inputs) (stands_below content ((older ++ (t ∷ newer)) ∷ lower) level) floor b
        (newer-drawn before given (stands_above content groups ((older ++ (t ∷ newer)) ∷ lower) level inputs) given above (drawn-itself given) b.newer)
        (λ k g i p q at_g at_i. (i, q, at_i, refl, refl))

  -- the flush's own edit
  pub way-flush_edit : (group : List Item) (groups : List (List Item)) (l0 : List Table) (lower : LevelLists) (t : Table) (files : List ℕ) (level : ℕ) (inputs : List (ℕ × ℕ)) (given : List Item) (floor : Floor) → is_sorted (table_cmp 0) l0 ≡ true → IsDrawn group (content t) → IsUnderWay content (group ∷ groups) (l0 ∷ lower) level inputs given floor → IsUnderWay content groups (edited (l0 ∷ lower) (flush_edit t files)) level inputs given floor
  way-flush_edit group groups l0 lower t files level inputs given floor sorted drawn b =
      let (older, newer, same, made, high) = flush-edit l0 lower t files sorted in
      subst (λ x. IsUnderWay content groups x level inputs given floor) (sym made)
      (way-flushed group groups older newer t lower level inputs drawn given floor (subst (λ x. IsUnderWay content (group ∷ groups) (x ∷ lower) level inputs given floor) same b))
