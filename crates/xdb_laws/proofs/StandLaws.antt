-- Places stand in order just where each table does, level by level; and the edit of a load keeps them so.
use Rattle.std.proofs.Common.{◌≡◌, ℕ, zero, suc, ◌<◌, ◌≤◌, ◌⊎◌, true, List, [], ◌∷◌, ◌++◌, map, reverse, append-nil, Option, inl, inr, refl, sym, ap, ◌∙◌, subst, arith}
use Rattle.std.proofs.lemmas.Bool.{cases_order}
use Rattle.std.proofs.lemmas.List.Folds.{flat_map-map}
use Rattle.std.specs.List.{flat_map}
use Rattle.xdb_key.proofs.OrderLaws.{meets-symmetric}
use Rattle.xdb_edit.specs.Plans.{place}
use Rattle.xdb_edit.specs.Versions.{LevelLists, tables_of}
use Rattle.xdb_meta.specs.Table.{Table, bounds_of}
use Rattle.xdb_plain.specs.Edits.{halved}
use Rattle.xdb_rangedel.specs.Content.{Item, entry, seq_of, here, IsClear}
use Rattle.xdb_rangedel.specs.Layers.{IsAllBelow}
use Rattle.xdb_rangedel.specs.Members.{Has}
use Rattle.xdb_rangedel.proofs.LayerLaws.{drawn_entry}
use Rattle.xdb_rangedel.proofs.MemberLaws.{Has-append_left, Has-append_right, Has-append_cases, Has-map}
use Rattle.xdb_rangedel.proofs.NewestLaws.{same_key-itself}
use Rattle.xdb_laws.specs.Compaction.{ShareNoKey}
use Rattle.xdb_laws.specs.Excises.{KeepsTo}
use Rattle.xdb_laws.specs.LoadEdit.{LoadEdit, levels_after, StandInTurn, IsLoadEdit}
use Rattle.xdb_laws.specs.Ordered.{IsNewer, joined, Ordered, places, whole}
use Rattle.xdb_laws.specs.Placement.{AreApart, without_numbers}
use Rattle.xdb_laws.specs.Tables.{tables_in, contents, content_of}
use Rattle.xdb_laws.proofs.CutLaws.{turned-first}
use Rattle.xdb_laws.proofs.ExciseLaws.{silent-apart}
use Rattle.xdb_laws.proofs.InstallLaws.{number-loads}
use Rattle.xdb_laws.proofs.JoinLaws.{strangers}
use Rattle.xdb_laws.proofs.LevelLaws.{loads-apart, levels-apart}
use Rattle.xdb_laws.proofs.LoadEditLaws.{Derived, in-levels, at-level, from-edit, load-items, loads}
use Rattle.xdb_laws.proofs.LoadLaws.{clear-loads}
use Rattle.xdb_laws.proofs.OrderLaws.{drawn-itself, joined-append, newer-drawn, clear-within, ordered-layers, ordered-upper, ordered-lower, ordered-together, seq-of_rank}
use Rattle.xdb_laws.proofs.PlaceLaws.{same-reversed, places-clear}
use Rattle.xdb_laws.proofs.RoomLaws.{place-levels, bounds-apart}
use Rattle.xdb_laws.proofs.TableLaws.{flat-has, flat-from, contents-flat}

module _ (content : Table → List Item) where
  -- ---- what places have

  in-map : (ts : List Table) (t : Table) (i : Item) → Has ts t → Has (content t) i → Has (joined (map content ts)) i
  in-map ts t i h g = flat-has (λ c. c) (map content ts) (content t) i (Has-map content ts t h) g

  from-map : (ts : List Table) (i : Item) → Has (joined (map content ts)) i → (t : Table) × Has ts t × Has (content t) i
  from-map ts i h = flat-from content ts i (subst (λ c. Has c i) (flat_map-map (λ c. c) content ts) h)

  lower-is : (ls : LevelLists) → joined (map joined (contents content ls)) ≡ content_of content (tables_in ls)
  lower-is ls = flat_map-map (λ c. c) joined (contents content ls) ∙ contents-flat content ls

  in-lower : (ls : LevelLists) (t : Table) (i : Item) → Has (tables_in ls) t → Has (content t) i → Has (joined (map joined (contents content ls))) i
  in-lower ls t i h g = subst (λ c. Has c i) (sym (lower-is ls)) (flat-has content (tables_in ls) t i h g)

  from-lower : (ls : LevelLists) (i : Item) → Has (joined (map joined (contents content ls))) i → (t : Table) × Has (tables_in ls) t × Has (content t) i
  from-lower ls i h = flat-from content (tables_in ls) i (subst (λ c. Has c i) (lower-is ls) h)

  in-turned : (ts : List Table) (t : Table) (i : Item) → Has ts t → Has (content t) i → Has (joined (reverse (map content ts))) i
  in-turned ts t i h g = (same-reversed (map content ts) i).1 (in-map ts t i h g)

  from-turned : (ts : List Table) (i : Item) → Has (joined (reverse (map content ts))) i → (t : Table) × Has ts t × Has (content t) i
  from-turned ts i h = from-map ts i ((same-reversed (map content ts) i).0 h)

  -- ---- order of tables, from that of places

  -- what stands behind the groups
  abbrev behind : List Table → LevelLists → List (List Item)
  behind l0 lower = reverse (map content l0) ++ map joined (contents content lower)

  in-behind : (l0 : List Table) (lower : LevelLists) (t : Table) (i : Item) → Has (tables_in (l0 ∷ lower)) t → Has (content t) i → Has (joined (behind l0 lower)) i
  in-behind l0 lower t i h g = elim (Has-append_cases l0 (tables_in lower) t h) [
    | inl p ↦ subst (λ c. Has c i) (sym (joined-append (reverse (map content l0)) (map joined (contents content lower)))) (Has-append_left (joined (reverse (map content l0))) (joined (map joined (contents content lower))) i (in-turned l0 t i p g))
    | inr p ↦ subst (λ c. Has c i) (sym (joined-append (reverse (map content l0)) (map joined (contents content lower)))) (Has-append_right (joined (reverse (map content l0))) (joined (map joined (contents content lower))) i (in-lower lower t i p g))
  ]

  groups-over : (groups : List (List Item)) (levels : LevelLists) (t : Table) → Ordered (places groups (contents content levels)) → Has (tables_in levels) t → IsNewer (joined groups) (content t)
  groups-over groups [] t o h = absurd h
  groups-over groups (l0 ∷ lower) t o h = λ k i j p q at_i at_j.
      ordered-layers (reverse groups) (behind l0 lower) o k i j ((same-reversed groups i).1 p) (in-behind l0 lower t j h q) at_i at_j

  lower-over : (ls : LevelLists) (i j : ℕ) (t u : Table) → Ordered (map joined (contents content ls)) → i < j → Has (tables_of ls i) t → Has (tables_of ls j) u → IsNewer (content t) (content u)
  lower-over [] i j t u o low h g = absurd h
  lower-over (ts ∷ ls) i zero t u o low h g = absurd (omega arith)
  lower-over (ts ∷ ls) zero (suc j) t u o low h g = λ k a b p q at_a at_b. o.1 k a b (in-map ts t a h p) (in-lower ls u b (in-levels ls j u g) q) at_a at_b
  lower-over (ts ∷ ls) (suc i) (suc j) t u o low h g = lower-over ls i j t u o.2 (omega arith) h g

  levels-over : (groups : List (List Item)) (levels : LevelLists) (i j : ℕ) (t u : Table) → Ordered (places groups (contents content levels)) → i < j → Has (tables_of levels i) t → Has (tables_of levels j) u → IsNewer (content t) (content u)
  levels-over groups [] i j t u o low h g = absurd h
  levels-over groups (l0 ∷ lower) i zero t u o low h g = absurd (omega arith)
  levels-over groups (l0 ∷ lower) zero (suc j) t u o low h g = λ k a b p q at_a at_b.
      ordered-layers (reverse (map content l0)) (map joined (contents content lower)) (ordered-lower (reverse groups) (behind l0 lower) o) k a b (in-turned l0 t a h p) (in-lower lower u b (in-levels lower j u g) q) at_a at_b
  levels-over groups (l0 ∷ lower) (suc i) (suc j) t u o low h g =
      lower-over lower i j t u (ordered-lower (reverse (map content l0)) (map joined (contents content lower)) (ordered-lower (reverse groups) (behind l0 lower) o)) (omega arith) h g

  -- of two tables of L0 the one with the greater number is newer
  turn-over : (ts : List Table) (s t : Table) → StandInTurn ts → Ordered (reverse (map content ts)) → Has ts s → Has ts t → s.seq_hi < t.seq_hi → IsNewer (content t) (content s)
  turn-over [] s t turn o hs ht less = absurd hs
  turn-over (u ∷ ts) s t turn o (inl e) (inl f) less = let one : u.seq_hi ≡ s.seq_hi = ap (λ x. x.seq_hi) e in let other : u.seq_hi ≡ t.seq_hi = ap (λ x. x.seq_hi) f in absurd (omega arith)
  turn-over (u ∷ ts) s t turn o (inl e) (inr ht) less = λ k i j p q at_i at_j.
      ordered-layers (reverse (map content ts)) (content u ∷ []) (subst Ordered (turned-first (content u) (map content ts)) o) k i j
      (in-turned ts t i ht p) (Has-append_left (content u) [] j (subst (λ x. Has (content x) j) (sym e) q)) at_i at_j
  turn-over (u ∷ ts) s t turn o (inr hs) (inl f) less = let same : u.seq_hi ≡ t.seq_hi = ap (λ x. x.seq_hi) f in let low = (turn.0 s hs).0 in absurd (omega arith)
  turn-over (u ∷ ts) s t turn o (inr hs) (inr ht) less =
      turn-over ts s t turn.1 (ordered-upper (reverse (map content ts)) (content u ∷ []) (subst Ordered (turned-first (content u) (map content ts)) o)) hs ht less

  l0-over : (groups : List (List Item)) (levels : LevelLists) (s t : Table) → Ordered (places groups (contents content levels)) → StandInTurn (tables_of levels 0) → Has (tables_of levels 0) s → Has (tables_of levels 0) t → s.seq_hi < t.seq_hi → IsNewer (content t) (content s)
  l0-over groups [] s t o turn hs ht less = absurd hs
  l0-over groups (l0 ∷ lower) s t o turn hs ht less =
      turn-over l0 s t turn (ordered-upper (reverse (map content l0)) (map joined (contents content lower)) (ordered-lower (reverse groups) (behind l0 lower) o)) hs ht less

  -- ---- order of places, from that of tables

  -- each is newer than those before it
  abbrev AreOver : List Table → Type 0
  AreOver [] = Unit {0}
  AreOver (t ∷ ts) = IsClear (content t) × ((u : Table) → Has ts u → IsNewer (content u) (content t)) × AreOver ts

  over-turned : (ts : List Table) → AreOver ts → Ordered (reverse (map content ts))
  over-turned [] over = tt
  over-turned (t ∷ ts) over =
      subst Ordered (sym (turned-first (content t) (map content ts)))
      (ordered-together (reverse (map content ts)) (content t ∷ []) (over-turned ts over.2) (over.0, (λ k i j p q at_i at_j. absurd q), tt)
      (λ k i j p q at_i at_j. let (u, has, at_u) = from-turned ts i p in over.1 u has k i j at_u (subst (λ c. Has c j) (append-nil (content t)) q) at_i at_j))

  lower-ordered : (ls : LevelLists) → IsClear (content_of content (tables_in ls)) → ((i j : ℕ) (t u : Table) → i < j → Has (tables_of ls i) t → Has (tables_of ls j) u → IsNewer (content t) (content u)) → Ordered (map joined (contents content ls))
  lower-ordered [] clear over = tt
  lower-ordered (ts ∷ ls) clear over = (
    clear-within (content_of content (tables_in (ts ∷ ls))) (joined (map content ts)) (λ i h. let (t, has, at_t) = from-map ts i h in flat-has content (tables_in (ts ∷ ls)) t i (Has-append_left ts (tables_in ls) t has) at_t) clear,
    (λ k i j p q at_i at_j.
        let (t, has_t, at_t) = from-map ts i p in
        let (u, has_u, at_u) = from-lower ls j q in
        let (level, there) = at-level ls u has_u in
        over 0 (suc level) t u (omega arith) has_t there k i j at_t at_u at_i at_j),
    lower-ordered ls (clear-within (content_of content (tables_in (ts ∷ ls))) (content_of content (tables_in ls)) (λ i h. let (t, has, at_t) = flat-from content (tables_in ls) i h in flat-has content (tables_in (ts ∷ ls)) t i (Has-append_right ts (tables_in ls) t has) at_t) clear)
        (λ i j t u low h g. over (suc i) (suc j) t u (omega arith) h g),
  )

  places-ordered : (groups : List (List Item)) (levels : LevelLists) → Ordered (reverse groups) → ((t : Table) → Has (tables_in levels) t → IsNewer (joined groups) (content t)) → AreOver (tables_of levels 0) → IsClear (content_of content (tables_in levels))
      → ((i j : ℕ) (t u : Table) → i < j → Has (tables_of levels i) t → Has (tables_of levels j) u → IsNewer (content t) (content u)) → Ordered (places groups (contents content levels))
  places-ordered groups [] o over l0 clear levels_over = o
  places-ordered groups (ts ∷ ls) o over l0 clear levels_over =
      let front = reverse (map content ts) in
      let low = map joined (contents content ls) in
      ordered-together (reverse groups) (front ++ low) o
      (ordered-together front low (over-turned ts l0)
      (lower-ordered ls (clear-within (content_of content (tables_in (ts ∷ ls))) (content_of content (tables_in ls)) (λ i h. let (t, has, at_t) = flat-from content (tables_in ls) i h in flat-has content (tables_in (ts ∷ ls)) t i (Has-append_right ts (tables_in ls) t has) at_t) clear)
      (λ i j t u less h g. levels_over (suc i) (suc j) t u (omega arith) h g))
      (λ k i j p q at_i at_j.
      let (t, has_t, at_t) = from-turned ts i p in
      let (u, has_u, at_u) = from-lower ls j q in
      let (level, there) = at-level ls u has_u in
      levels_over 0 (suc level) t u (omega arith) has_t there k i j at_t at_u at_i at_j))
      (λ k i j p q at_i at_j.
      let (u, has, at_u) = from-both ts ls j q in
      over u has k i j ((same-reversed groups i).0 p) at_u at_i at_j)
    where
      from-both : (ts : List Table) (ls : LevelLists) (j : Item) → Has (joined (behind ts ls)) j → (u : Table) × Has (tables_in (ts ∷ ls)) u × Has (content u) j
      from-both ts ls j h = elim (Has-append_cases (joined (reverse (map content ts))) (joined (map joined (contents content ls))) j (subst (λ c. Has c j) (joined-append (reverse (map content ts)) (map joined (contents content ls))) h)) [
        | inl p ↦ let (t, has, at_t) = from-turned ts j p in (t, Has-append_left ts (tables_in ls) t has, at_t)
        | inr p ↦ let (t, has, at_t) = from-lower ls j p in (t, Has-append_right ts (tables_in ls) t has, at_t)
      ]

  -- ---- the edit of a load

  module _ (groups : List (List Item)) (x : LoadEdit) (is : IsLoadEdit content groups x) (o : Ordered (places groups (contents content x.levels))) (below : IsAllBelow x.next (whole groups (contents content x.levels))) where
    abbrev D : ℕ → Table → Type 0
    D i t = Derived content groups x is i t

    old-items : (i : ℕ) (t : Table) (j : Item) → Has (tables_of x.levels i) t → Has (content t) j → Has (whole groups (contents content x.levels)) j
    old-items i t j h g =
        Has-append_right (joined groups) (flat_map joined (contents content x.levels)) j (subst (λ c. Has c j) (sym (contents-flat content x.levels)) (flat-has content (tables_in x.levels) t j (in-levels x.levels i t h) g))

    clear-old : IsClear (whole groups (contents content x.levels))
    clear-old = places-clear groups (contents content x.levels) o

    number-loaded : (a : ℕ × Table) (i : Item) → Has x.loaded a → Has (content a.1) i → seq_of i ≡ x.next
    number-loaded a i h g = number-loads x.next x.tables (loads content groups x is) i is.loads (load-items content groups x is a i h g)

    number-derived : (l : ℕ) (t : Table) (k : List ℕ) (i : Item) → D l t → Has (content t) i → here k i ≡ true → seq_of i < x.next
    number-derived l t k i d h at_i =
        let (j, has, at_j, ranks, says) = d.drawn k i h at_i in
        let same = seq-of_rank i j ranks in
        let low = below j (old-items l d.source j d.there has) in
        omega arith

    keeps-new : (i : ℕ) (t : Table) → Has (tables_of (levels_after x) i) t → KeepsTo (bounds_of t) (content t)
    keeps-new i t h = elim (from-edit content groups x is i t h) [
      | inl d ↦ d.keeps
      | inr l ↦ is.loaded (i, t) l
    ]

    loaded-over : (l m : ℕ) (t u : Table) → Has x.loaded (l, t) → D m u → IsNewer (content t) (content u)
    loaded-over l m t u a d = λ k i j p q at_i at_j.
        let e = number-loaded (l, t) i a p in
        let low = number-derived m u k j d q at_j in
        omega arith

    clear-entry : (l m : ℕ) (t u : Table) (key : List ℕ) (seq : ℕ) (v w : Option (List ℕ)) → D l t ⊎ Has x.loaded (l, t) → D m u ⊎ Has x.loaded (m, u) → Has (content t) (entry key seq v) → Has (content u) (entry key seq w) → v ≡ w
    clear-entry l m t u key seq v w (inl d) (inl e) p q =
        clear-old key seq v w (old-items l d.source (entry key seq v) d.there (drawn_entry (content d.source) (content t) key seq v d.drawn p)) (old-items m e.source (entry key seq w) e.there (drawn_entry (content e.source) (content u) key seq w e.drawn q))
    clear-entry l m t u key seq v w (inl d) (inr b) p q =
        let low = number-derived l t key (entry key seq v) d p (same_key-itself key) in
        let e = number-loaded (m, u) (entry key seq w) b q in
        absurd (omega arith)
    clear-entry l m t u key seq v w (inr a) (inl e) p q =
        let low = number-derived m u key (entry key seq w) e q (same_key-itself key) in
        let same = number-loaded (l, t) (entry key seq v) a p in
        absurd (omega arith)
    clear-entry l m t u key seq v w (inr a) (inr b) p q =
        clear-loads x.next x.tables (loads content groups x is) is.loadable is.loads key seq v w (load-items content groups x is (l, t) (entry key seq v) a p) (load-items content groups x is (m, u) (entry key seq w) b q)

    clear-new : IsClear (content_of content (tables_in (levels_after x)))
    clear-new = λ key seq v w p q.
        let (t, has_t, at_t) = flat-from content (tables_in (levels_after x)) (entry key seq v) p in
        let (u, has_u, at_u) = flat-from content (tables_in (levels_after x)) (entry key seq w) q in
        let (l, there_t) = at-level (levels_after x) t has_t in
        let (m, there_u) = at-level (levels_after x) u has_u in
        clear-entry l m t u key seq v w (from-edit content groups x is l t there_t) (from-edit content groups x is m u there_u) at_t at_u

    -- a table that was placed below L0 meets nothing at its level or above it
    placed-apart : (l m : ℕ) (t u : Table) → l ≤ m → 0 < m → D l t → Has x.loaded (m, u) → ShareNoKey (content u) (content t)
    placed-apart l m t u low deep d b =
        let at : m ≡ place (halved x.levels x.edit) x.running (bounds_of u) = is.edit.placed (m, u) b in
        bounds-apart (bounds_of u) (bounds_of t) (content u) (content t) (is.loaded (m, u) b) d.keeps
        (place-levels (halved x.levels x.edit) x.running (bounds_of u) l t (subst (λ n. 0 < n) at deep) (subst (λ n. l ≤ n) at low) d.beside)

    abbrev by_level : List (ℕ × List Item)
    by_level = map (λ a. (a.0, content a.1)) x.loaded

    by_level-is : (ts : List (ℕ × Table)) → without_numbers (map (λ a. (a.0, content a.1)) ts) ≡ map (λ a. content a.1) ts
    by_level-is [] = refl
    by_level-is (t ∷ ts) = ap (λ cs. content t.1 ∷ cs) (by_level-is ts)

    loads-over : (l m : ℕ) (t u : Table) → l < m → Has x.loaded (l, t) → Has x.loaded (m, u) → ShareNoKey (content t) (content u)
    loads-over l m t u low a b =
        levels-apart by_level (l, content t) (m, content u) (subst AreApart (sym (by_level-is x.loaded)) (loads-apart x.next x.tables (loads content groups x is) is.loadable is.loads))
        (Has-map (λ c. (c.0, content c.1)) x.loaded (l, t) a) (Has-map (λ c. (c.0, content c.1)) x.loaded (m, u) b) (λ same. absurd (omega arith))

    levels-new : (l m : ℕ) (t u : Table) → l < m → D l t ⊎ Has x.loaded (l, t) → D m u ⊎ Has x.loaded (m, u) → IsNewer (content t) (content u)
    levels-new l m t u low (inl d) (inl e) = newer-drawn (content d.source) (content e.source) (content t) (content u) d.drawn e.drawn (levels-over groups x.levels l m d.source e.source o low d.there e.there)
    levels-new l m t u low (inl d) (inr b) = λ k i j p q at_i at_j. absurd (placed-apart l m t u (omega arith) (omega arith) d b k j i q p at_j at_i)
    levels-new l m t u low (inr a) (inl e) = loaded-over l m t u a e
    levels-new l m t u low (inr a) (inr b) = strangers (content t) (content u) (loads-over l m t u low a b)

    groups-new : (t : Table) → Has (tables_in (levels_after x)) t → IsNewer (joined groups) (content t)
    groups-new t h =
        let (l, there) = at-level (levels_after x) t h in
        elim (from-edit content groups x is l t there) [
          | inl d ↦ newer-drawn (joined groups) (content d.source) (joined groups) (content t) (drawn-itself (joined groups)) d.drawn (groups-over groups x.levels d.source o (in-levels x.levels l d.source d.there))
          | inr a ↦ strangers (joined groups) (content t) (silent-apart (bounds_of t) (joined groups) (content t) (is.fence (l, t) a) (is.loaded (l, t) a))
        ]

    turn-new : (t u : Table) → t.seq_hi < u.seq_hi → D 0 t ⊎ Has x.loaded (0, t) → D 0 u ⊎ Has x.loaded (0, u) → IsNewer (content u) (content t)
    turn-new t u less (inl d) (inl e) =
        let one = d.number in
        let other = e.number in
        newer-drawn (content e.source) (content d.source) (content u) (content t) e.drawn d.drawn (l0-over groups x.levels d.source e.source o is.before d.there e.there (omega arith))
    turn-new t u less (inl d) (inr b) = loaded-over 0 0 u t b d
    turn-new t u less (inr a) (inl e) =
        let top : t.seq_hi ≡ x.next = is.edit.number (0, t) a in
        let low = is.edit.older e.source e.there in
        let same = e.number in
        absurd (omega arith)
    turn-new t u less (inr a) (inr b) =
        let top : t.seq_hi ≡ x.next = is.edit.number (0, t) a in
        let other : u.seq_hi ≡ x.next = is.edit.number (0, u) b in
        absurd (omega arith)

    l0-new : (ts : List Table) → ((t : Table) → Has ts t → Has (tables_of (levels_after x) 0) t) → StandInTurn ts → AreOver ts
    l0-new [] within turn = tt
    l0-new (t ∷ ts) within turn = (
      clear-within (content_of content (tables_in (levels_after x))) (content t) (λ i h. flat-has content (tables_in (levels_after x)) t i (in-levels (levels_after x) 0 t (within t (inl refl))) h) clear-new,
      (λ u h. over u h),
      l0-new ts (λ u h. within u (inr h)) turn.1,
    )
      where
        over : (u : Table) → Has ts u → IsNewer (content u) (content t)
        over u h =
            let rule = turn.0 u h in
            let at_t = within t (inl refl) in
            let at_u = within u (inr h) in
            elim (cases_order t.seq_hi u.seq_hi) [
              | inl e ↦ strangers (content u) (content t) (bounds-apart (bounds_of u) (bounds_of t) (content u) (content t) (keeps-new 0 u at_u) (keeps-new 0 t at_t) (meets-symmetric (bounds_of u) (bounds_of t) ∙ rule.1 e))
              | inr (inl less) ↦ turn-new t u less (from-edit content groups x is 0 t at_t) (from-edit content groups x is 0 u at_u)
              | inr (inr more) ↦ absurd (let upto = rule.0 in omega arith)
            ]

    pub edit-ordered : Ordered (places groups (contents content (levels_after x)))
    edit-ordered =
        places-ordered groups (levels_after x) (groups-alone groups x.levels o) groups-new (l0-new (tables_of (levels_after x) 0) (λ t h. h) is.after) clear-new
        (λ l m t u low h g. levels-new l m t u low (from-edit content groups x is l t h) (from-edit content groups x is m u g))
      where
        groups-alone : (groups : List (List Item)) (levels : LevelLists) → Ordered (places groups (contents content levels)) → Ordered (reverse groups)
        groups-alone groups [] o = o
        groups-alone groups (l0 ∷ lower) o = ordered-upper (reverse groups) (behind l0 lower) o
