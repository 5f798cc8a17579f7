-- The edit of a load: which tables it leaves in which levels, that all content is installed, and that places stand in order.
use Rattle.std.proofs.Common.{◌≡◌, ℕ, zero, suc, ◌+◌, ◌<◌, ◌≤◌, ◌⊎◌, true, false, not, cond, List, [], ◌∷◌, ◌++◌, length, map, filter, Option, Some, None, append-nil, inl, inr, refl, sym, ap, ◌∙◌, subst, arith}
use Rattle.std.proofs.lemmas.Bool.{cases_Bool}
use Rattle.std.proofs.lemmas.Grind.{flat_map-append}
use Rattle.std.specs.List.{flat_map}
use Rattle.xdb_key.specs.Bounds.{Bounds}
use Rattle.xdb_key.proofs.OrderLaws.{meets-symmetric}
use Rattle.xdb_edit.specs.Changes.{Changes, changes}
use Rattle.xdb_edit.specs.Versions.{LevelLists, tables_of, removes, edited, edited_from, edited_level, table_cmp, added_to}
use Rattle.xdb_meta.specs.Table.{Table, bounds_of}
use Rattle.xdb_plain.specs.Changes.{one_for}
use Rattle.xdb_plain.specs.Edits.{halved, virtual_in}
use Rattle.xdb_plain.specs.Tables.{TableOps}
use Rattle.xdb_rangedel.specs.Content.{Item, seq_of, IsClear}
use Rattle.xdb_rangedel.specs.Layers.{IsAllBelow, IsDrawn}
use Rattle.xdb_rangedel.specs.Members.{Has, SameMembers}
use Rattle.xdb_rangedel.proofs.MemberLaws.{Has-append_left, Has-append_right, Has-append_cases, Has-map, Has-from_map}
use Rattle.xdb_stripes.proofs.AnyLaws.{Has-filter}
use Rattle.xdb_laws.specs.Excises.{Excised, KeepsTo}
use Rattle.xdb_laws.specs.LoadEdit.{LoadEdit, is_met, levels_after, IsHalfIn, IsLoadEdit, left_tables, install_of}
use Rattle.xdb_laws.specs.Loads.{AreLoadsOf, IsInstall}
use Rattle.xdb_laws.specs.Ordered.{StandsByNumber, joined, whole}
use Rattle.xdb_laws.specs.Tables.{StandByNumber, tables_in, contents, content_of}
use Rattle.xdb_laws.proofs.CutLaws.{cut-stands}
use Rattle.xdb_laws.proofs.ExciseLaws.{excised-joined, excised-silent, excised-beside, excised-nothing}
use Rattle.xdb_laws.proofs.InstallLaws.{number-loads}
use Rattle.xdb_laws.proofs.LevelLaws.{fresh-stands}
use Rattle.xdb_laws.proofs.OrderLaws.{drawn-itself}
use Rattle.xdb_laws.proofs.TableLaws.{flat-has, flat-from, contents-flat, put_all_in-has, Adds, added-has, level-from}

-- ---- tables by their levels

pub in-levels : (levels : LevelLists) (i : ℕ) (t : Table) → Has (tables_of levels i) t → Has (tables_in levels) t
in-levels [] i t h = absurd h
in-levels (ts ∷ levels) zero t h = Has-append_left ts (tables_in levels) t h
in-levels (ts ∷ levels) (suc i) t h = Has-append_right ts (tables_in levels) t (in-levels levels i t h)

pub at-level : (levels : LevelLists) (t : Table) → Has (tables_in levels) t → (i : ℕ) × Has (tables_of levels i) t
at-level [] t h = absurd h
at-level (ts ∷ levels) t h = elim (Has-append_cases ts (tables_in levels) t h) [
  | inl g ↦ (0, g)
  | inr g ↦ let (i, at_i) = at-level levels t g in (suc i, at_i)
]

few-levels : (levels : LevelLists) (i : ℕ) (t : Table) → Has (tables_of levels i) t → i < length levels
few-levels [] i t h = absurd h
few-levels (ts ∷ levels) zero t h = omega arith
few-levels (ts ∷ levels) (suc i) t h = let more = few-levels levels i t h in omega arith

edited-at : (base : ℕ) (e : Changes) (levels : LevelLists) (i : ℕ) (t : Table) → Has (tables_of (edited_from base e levels) i) t → Adds e t (base + i) ⊎ (Has (tables_of levels i) t × (removes e (base + i) t ≡ false))
edited-at base e [] i t h = absurd h
edited-at base e (ts ∷ levels) zero t h =
    let same : base ≡ base + 0 = omega arith in
    level-from e (base + 0) ts t (subst (λ n. Has (edited_level e n ts) t) same h)
edited-at base e (ts ∷ levels) (suc i) t h =
    let same : suc base + i ≡ base + suc i = omega arith in
    subst (λ n. Adds e t n ⊎ (Has (tables_of levels i) t × (removes e n t ≡ false))) same (edited-at (suc base) e levels i t h)

kept-level : (e : Changes) (level : ℕ) (ts : List Table) (t : Table) → Has ts t → removes e level t ≡ false → Has (edited_level e level ts) t
kept-level e level ts t h stays =
    put_all_in-has (table_cmp level) (added_to e level) (filter (λ u. not (removes e level u)) ts) t (inr (Has-filter (λ u. not (removes e level u)) ts t h (ap not stays)))

kept-at : (base : ℕ) (e : Changes) (levels : LevelLists) (i : ℕ) (t : Table) → Has (tables_of levels i) t → removes e (base + i) t ≡ false → Has (tables_of (edited_from base e levels) i) t
kept-at base e [] i t h stays = absurd h
kept-at base e (ts ∷ levels) zero t h stays =
    let same : base + 0 ≡ base = omega arith in
    kept-level e base ts t h (subst (λ n. removes e n t ≡ false) same stays)
kept-at base e (ts ∷ levels) (suc i) t h stays =
    let same : base + suc i ≡ suc base + i = omega arith in
    kept-at (suc base) e levels i t h (subst (λ n. removes e n t ≡ false) same stays)

added-at : (base : ℕ) (e : Changes) (levels : LevelLists) (i : ℕ) (a : ℕ × Table) → Has e.added a → a.0 ≡ base + i → i < length levels → Has (tables_of (edited_from base e levels) i) a.1
added-at base e [] i a h at few = absurd (omega arith)
added-at base e (ts ∷ levels) zero a h at few =
    put_all_in-has (table_cmp base) (added_to e base) (filter (λ u. not (removes e base u)) ts) a.1 (inl (added-has e base a h (omega arith)))
added-at base e (ts ∷ levels) (suc i) a h at few = added-at (suc base) e levels i a h (omega arith) (omega arith)

pub zero-first : (i : ℕ) → 0 + i ≡ i
zero-first i = omega arith

pub edited-from : (e : Changes) (levels : LevelLists) (i : ℕ) (t : Table) → Has (tables_of (edited levels e) i) t → Adds e t i ⊎ (Has (tables_of levels i) t × (removes e i t ≡ false))
edited-from e levels i t h = subst (λ n. Adds e t n ⊎ (Has (tables_of levels i) t × (removes e n t ≡ false))) (zero-first i) (edited-at 0 e levels i t h)

pub edited-kept : (e : Changes) (levels : LevelLists) (i : ℕ) (t : Table) → Has (tables_of levels i) t → removes e i t ≡ false → Has (tables_of (edited levels e) i) t
edited-kept e levels i t h stays = kept-at 0 e levels i t h (subst (λ n. removes e n t ≡ false) (sym (zero-first i)) stays)

pub edited-added : (e : Changes) (levels : LevelLists) (a : ℕ × Table) → Has e.added a → a.0 < length levels → Has (tables_of (edited levels e) a.0) a.1
edited-added e levels a h few = added-at 0 e levels a.0 a h (sym (zero-first a.0)) few

-- ---- what an edit leaves

virtual-has : (e : Changes) (a : ℕ × Table) → Has e.added a → a.1.virt ≡ true → Has (virtual_in e) a
virtual-has e a h is = Has-filter (λ b. b.1.virt) e.added a h is

left-met : (x : LoadEdit) (t h : Table) → is_met x.out (bounds_of t) ≡ true → Has (x.halves t) h → Has (cond (is_met x.out (bounds_of t)) (x.halves t) (t ∷ [])) h
left-met x t h met has = subst (λ b. Has (cond b (x.halves t) (t ∷ [])) h) (sym met) has

left-kept : (x : LoadEdit) (t : Table) → is_met x.out (bounds_of t) ≡ false → Has (cond (is_met x.out (bounds_of t)) (x.halves t) (t ∷ [])) t
left-kept x t off = subst (λ b. Has (cond b (x.halves t) (t ∷ [])) t) (sym off) (inl refl)

module _ (content : Table → List Item) (groups : List (List Item)) (x : LoadEdit) (is : IsLoadEdit content groups x) where
  -- a table that was there, or a half of one, in its level
  pub record Derived (i : ℕ) (t : Table) : Type 0 where
    pub source : Table
    pub there : Has (tables_of x.levels i) source
    pub drawn : IsDrawn (content source) (content t)
    pub numbers : (j : Item) → Has (content t) j → (m : Item) × Has (content source) m × (seq_of m ≡ seq_of j)
    pub number : t.seq_hi ≡ source.seq_hi
    pub keeps : KeepsTo (bounds_of t) (content t)
    pub beside : Has (tables_of (halved x.levels x.edit) i) t
    pub left : Has (left_tables x (tables_in x.levels)) t

  each-left : (s t : Table) (i : ℕ) → Has (tables_of x.levels i) s → Has (cond (is_met x.out (bounds_of s)) (x.halves s) (s ∷ [])) t → Has (left_tables x (tables_in x.levels)) t
  each-left s t i h g = flat-has (λ u. cond (is_met x.out (bounds_of u)) (x.halves u) (u ∷ [])) (tables_in x.levels) s t (in-levels x.levels i s h) g

  derived-half : (i : ℕ) (h : Table) → IsHalfIn x i h → Has x.edit.added (i, h) → Derived i h
  derived-half i h half added =
      let (s, there, met, has) = half in
      record {
        source = s;
        there = there;
        drawn = λ k j p at_j. (is.cut i s there met).drawn k j (flat-has content (x.halves s) h j has p) at_j;
        numbers = λ j p. (is.cut i s there met).numbers j (flat-has content (x.halves s) h j has p);
        number = is.edit.halved_number i s h there has;
        keeps = is.halves i h half;
        beside = edited-added (changes x.edit.removed [] (virtual_in x.edit)) x.levels (i, h) (virtual-has x.edit (i, h) added (is.edit.virtual i h half)) (few-levels x.levels i s there);
        left = each-left s h i there (left-met x s h met has);
      }

  derived-kept : (i : ℕ) (t : Table) → Has (tables_of x.levels i) t → removes x.edit i t ≡ false → Derived i t
  derived-kept i t there stays = record {
    source = t;
    there = there;
    drawn = drawn-itself (content t);
    numbers = λ j p. (j, p, refl);
    number = refl;
    keeps = is.tables i t there;
    beside = edited-kept (changes x.edit.removed [] (virtual_in x.edit)) x.levels i t there stays;
    left = each-left t t i there (left-kept x t (sym (is.edit.removed i t there) ∙ stays));
  }

  -- each table behind the edit is one of these, or was loaded
  pub from-edit : (i : ℕ) (t : Table) → Has (tables_of (levels_after x) i) t → Derived i t ⊎ Has x.loaded (i, t)
  from-edit i t h = elim (edited-from x.edit x.levels i t h) [
    | inl adds ↦
        let (a, has, table, level) = adds in
        let pair : a ≡ (i, t) = λ j. (level j, table j) in
        let added = subst (Has x.edit.added) pair has in
        elim ((is.edit.added (i, t)).0 added) [
          | inl half ↦ inl (derived-half i t half added)
          | inr loaded ↦ inr loaded
        ]
    | inr kept ↦ inl (derived-kept i t kept.0 kept.1)
  ]

  loaded-there : (a : ℕ × Table) → Has x.loaded a → Has (tables_of (levels_after x) a.0) a.1
  loaded-there a h =
      let added = (is.edit.added a).1 (inr h) in
      edited-added x.edit x.levels a added (is.edit.inside a added)

  left-there : (t : Table) → Has (left_tables x (tables_in x.levels)) t → Has (tables_in (levels_after x)) t
  left-there t h =
      let (s, has, here_t) = flat-from (λ u. cond (is_met x.out (bounds_of u)) (x.halves u) (u ∷ [])) (tables_in x.levels) t h in
      let (i, there) = at-level x.levels s has in
      elim (cases_Bool (is_met x.out (bounds_of s))) [
        | inl met ↦
            let half = subst (λ b. Has (cond b (x.halves s) (s ∷ [])) t) met here_t in
            let added = (is.edit.added (i, t)).1 (inl (s, there, met, half)) in
            in-levels (levels_after x) i t (edited-added x.edit x.levels (i, t) added (is.edit.inside (i, t) added))
        | inr off ↦ elim (subst (λ b. Has (cond b (x.halves s) (s ∷ [])) t) off here_t) [
          | inl same ↦ subst (Has (tables_in (levels_after x))) same (in-levels (levels_after x) i s (edited-kept x.edit x.levels i s there (is.edit.removed i s there ∙ off)))
          | inr never ↦ absurd never
        ]
      ]

  -- ---- all content is installed

  abbrev pub loads : List (List Item)
  loads = map (λ a. content a.1) x.loaded

  in-loads : (cs : List (List Item)) (c : List Item) (i : Item) → Has cs c → Has c i → Has (joined cs) i
  in-loads cs c i h g = flat-has (λ y. y) cs c i h g

  pub load-items : (a : ℕ × Table) (i : Item) → Has x.loaded a → Has (content a.1) i → Has (joined loads) i
  load-items a i h g = in-loads loads (content a.1) i (Has-map (λ b. content b.1) x.loaded a h) g

  excised-table : (t : Table) → Has (tables_in x.levels) t → Excised x.out (content t) (content_of content (cond (is_met x.out (bounds_of t)) (x.halves t) (t ∷ [])))
  excised-table t h =
      let (i, there) = at-level x.levels t h in
      elim (cases_Bool (is_met x.out (bounds_of t))) [
        | inl met ↦ subst (λ b. Excised x.out (content t) (content_of content (cond b (x.halves t) (t ∷ [])))) (sym met) (is.cut i t there met)
        | inr off ↦ subst (λ b. Excised x.out (content t) (content_of content (cond b (x.halves t) (t ∷ [])))) (sym off)
            (subst (Excised x.out (content t)) (sym (append-nil (content t))) (stays x.out (bounds_of t) (content t) (is.tables i t there) off))
      ]
    where
      stays : (out : Option Bounds) (b : Bounds) (c : List Item) → KeepsTo b c → is_met out b ≡ false → Excised out c c
      stays None b c keeps off = excised-nothing c
      stays (Some out) b c keeps off = excised-beside out b c keeps (meets-symmetric b out ∙ off)

  excised-tables : (ts : List Table) → ((t : Table) → Has ts t → Excised x.out (content t) (content_of content (cond (is_met x.out (bounds_of t)) (x.halves t) (t ∷ [])))) → Excised x.out (content_of content ts) (content_of content (left_tables x ts))
  excised-tables [] each = excised-silent x.out [] (λ k e i h at_i. h)
  excised-tables (t ∷ ts) each =
      subst (Excised x.out (content_of content (t ∷ ts))) (sym (flat_map-append content (cond (is_met x.out (bounds_of t)) (x.halves t) (t ∷ [])) (left_tables x ts)))
      (excised-joined x.out (content t) (content_of content (cond (is_met x.out (bounds_of t)) (x.halves t) (t ∷ []))) (content_of content ts) (content_of content (left_tables x ts)) (each t (inl refl)) (excised-tables ts (λ u h. each u (inr h))))

  excised-all : Excised x.out (whole groups (contents content x.levels)) (joined groups ++ content_of content (left_tables x (tables_in x.levels)))
  excised-all =
      excised-joined x.out (joined groups) (joined groups) (flat_map joined (contents content x.levels)) (content_of content (left_tables x (tables_in x.levels)))
      (excised-silent x.out (joined groups) is.span)
      (subst (λ c. Excised x.out c (content_of content (left_tables x (tables_in x.levels)))) (sym (contents-flat content x.levels)) (excised-tables (tables_in x.levels) excised-table))

  new-items : (i : Item) → Has (content_of content (tables_in (levels_after x))) i → Has (joined loads) i ⊎ Has (content_of content (left_tables x (tables_in x.levels))) i
  new-items i h =
      let (t, has, at_t) = flat-from content (tables_in (levels_after x)) i h in
      let (level, there) = at-level (levels_after x) t has in
      elim (from-edit level t there) [
        | inl d ↦ inr (flat-has content (left_tables x (tables_in x.levels)) t i d.left at_t)
        | inr l ↦ inl (load-items (level, t) i l at_t)
      ]

  loads-there : (i : Item) → Has (joined loads) i → Has (content_of content (tables_in (levels_after x))) i
  loads-there i h =
      let (c, has, at_c) = flat-from (λ y. y) loads i h in
      let (a, loaded, same) = Has-from_map (λ b. content b.1) x.loaded c has in
      flat-has content (tables_in (levels_after x)) a.1 i (in-levels (levels_after x) a.0 a.1 (loaded-there a loaded)) (subst (λ y. Has y i) (sym same) at_c)

  left-items : (i : Item) → Has (content_of content (left_tables x (tables_in x.levels))) i → Has (content_of content (tables_in (levels_after x))) i
  left-items i h =
      let (t, has, at_t) = flat-from content (left_tables x (tables_in x.levels)) i h in
      flat-has content (tables_in (levels_after x)) t i (left-there t has) at_t

  abbrev left_all : List Item
  left_all = joined groups ++ content_of content (left_tables x (tables_in x.levels))

  same-new : SameMembers (whole groups (contents content (levels_after x))) (joined loads ++ left_all)
  same-new = λ i. (
    λ h. elim (Has-append_cases (joined groups) (flat_map joined (contents content (levels_after x))) i h) [
      | inl g ↦ Has-append_right (joined loads) left_all i (Has-append_left (joined groups) (content_of content (left_tables x (tables_in x.levels))) i g)
      | inr g ↦ elim (new-items i (subst (λ c. Has c i) (contents-flat content (levels_after x)) g)) [
        | inl l ↦ Has-append_left (joined loads) left_all i l
        | inr d ↦ Has-append_right (joined loads) left_all i (Has-append_right (joined groups) (content_of content (left_tables x (tables_in x.levels))) i d)
      ]
    ],
    λ h. elim (Has-append_cases (joined loads) left_all i h) [
      | inl l ↦ in-tables i (loads-there i l)
      | inr g ↦ elim (Has-append_cases (joined groups) (content_of content (left_tables x (tables_in x.levels))) i g) [
        | inl p ↦ Has-append_left (joined groups) (flat_map joined (contents content (levels_after x))) i p
        | inr d ↦ in-tables i (left-items i d)
      ]
    ],
  )
    where
      in-tables : (i : Item) → Has (content_of content (tables_in (levels_after x))) i → Has (whole groups (contents content (levels_after x))) i
      in-tables i h = Has-append_right (joined groups) (flat_map joined (contents content (levels_after x))) i (subst (λ c. Has c i) (sym (contents-flat content (levels_after x))) h)

  pub edit-installs : IsAllBelow x.next (whole groups (contents content x.levels)) → IsClear (whole groups (contents content x.levels)) → IsInstall (install_of content groups x)
  edit-installs below clear = record {
    below = below;
    clear = clear;
    excised = excised-all;
    loadable = is.loadable;
    loaded = is.loads;
    members = same-new;
  }

  -- ---- L0 by number

  one-table : (ts : List TableOps) (cs : List (List Item)) (c : List Item) → AreLoadsOf x.next ts cs → Has cs c → x.next + 1 ≡ x.next + one_for ts
  one-table [] [] c able h = absurd h
  one-table [] (d ∷ cs) c able h = absurd able
  one-table (t ∷ ts) cs c able h = refl

  later-stands : (unflushed table : List Item) (next later greatest : ℕ) → next ≤ later → StandsByNumber unflushed next greatest table → StandsByNumber unflushed later greatest table
  later-stands unflushed table next later greatest low s = record {
    below = let less = s.below in omega arith;
    within = s.within;
    apart = s.apart;
  }

  pub edit-numbers : StandByNumber content (joined groups) x.next (tables_of x.levels 0) → StandByNumber content (joined groups) (x.next + one_for x.tables) (tables_of (levels_after x) 0)
  edit-numbers stand = λ t h. elim (from-edit 0 t h) [
    | inl d ↦ later-stands (joined groups) (content t) x.next (x.next + one_for x.tables) t.seq_hi (omega arith)
        (subst (λ n. StandsByNumber (joined groups) x.next n (content t)) (sym d.number)
        (cut-stands (joined groups) (content d.source) (content t) x.next d.source.seq_hi (stand d.source d.there) d.numbers))
    | inr l ↦ subst (λ n. StandsByNumber (joined groups) n t.seq_hi (content t)) (one-table x.tables loads (content t) is.loads (Has-map (λ a. content a.1) x.loaded (0, t) l))
        (subst (λ n. StandsByNumber (joined groups) (x.next + 1) n (content t)) (sym (is.edit.number (0, t) l))
        (fresh-stands (joined groups) (content t) x.next (λ i p. number-loads x.next x.tables loads i is.loads (load-items (0, t) i l p))))
  ]
