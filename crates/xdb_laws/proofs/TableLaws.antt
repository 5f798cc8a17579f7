-- Which tables an edit leaves in which levels, which of them are inputs, and what they have.
use Rattle.std.proofs.Common.{◌≡◌, ℕ, zero, suc, ◌+◌, ◌<◌, ◌≤◌, ◌⊎◌, Bool, true, false, not, ◌&&◌, ◌==◌, cond, List, [], ◌∷◌, ◌++◌, length, filter, take, drop, Some, None, inl, inr, refl, sym, ap, ◌∙◌, subst, arith}
use Rattle.std.proofs.lemmas.Bool.{cases_Bool, and_parts, not-true, eqb-true, eq-eqb, false_from_ne_true}
use Rattle.std.proofs.lemmas.Grind.{flat_map-append}
use Rattle.std.proofs.lemmas.List.{append_assoc}
use Rattle.std.proofs.lemmas.List.Folds.{flat_map-map}
use Rattle.std.specs.List.{flat_map}
use Rattle.std.specs.Ordering.{is_lt}
use Rattle.std.specs.declared.cmp.Ordering.{Ordering}
use Rattle.xdb_lists.specs.Sorted.{put_in, put_all_in}
use Rattle.xdb_edit.specs.Changes.{Changes}
use Rattle.xdb_edit.specs.Versions.{LevelLists, edited_level, edited_from, added_to, removes, table_cmp}
use Rattle.xdb_meta.specs.Table.{Table}
use Rattle.xdb_rangedel.specs.Content.{Item}
use Rattle.xdb_rangedel.specs.Members.{Has}
use Rattle.xdb_rangedel.proofs.MemberLaws.{Has-append_left, Has-append_right, Has-append_cases, Has-from_filter_map, Has-filter_map, none-held}
use Rattle.xdb_stripes.proofs.AnyLaws.{any-has, Has-filter, Has-from_filter, filter_along}
use Rattle.xdb_laws.specs.Ordered.{joined}
use Rattle.xdb_laws.specs.Tables.{is_input, inputs_from, others_from, tables_in, contents}

-- what some lists have together

pub flat-has : {A B : Type 0} (f : A → List B) (ts : List A) (t : A) (i : B) → Has ts t → Has (f t) i → Has (flat_map f ts) i
flat-has f [] t i h g = absurd h
flat-has f (u ∷ ts) t i (inl e) g = Has-append_left (f u) (flat_map f ts) i (subst (λ x. Has (f x) i) (sym e) g)
flat-has f (u ∷ ts) t i (inr h) g = Has-append_right (f u) (flat_map f ts) i (flat-has f ts t i h g)

pub flat-from : {A B : Type 0} (f : A → List B) (ts : List A) (i : B) → Has (flat_map f ts) i → (t : A) × Has ts t × Has (f t) i
flat-from f [] i h = absurd h
flat-from f (u ∷ ts) i h = elim (Has-append_cases (f u) (flat_map f ts) i h) [
  | inl g ↦ (u, inl refl, g)
  | inr g ↦ let from = flat-from f ts i g in (from.0, inr from.1, from.2)
]

pub flat-within : {A B : Type 0} (f : A → List B) (xs ys : List A) → ((x : A) → Has xs x → Has ys x) → (i : B) → Has (flat_map f xs) i → Has (flat_map f ys) i
flat-within f xs ys within i h =
    let from = flat-from f xs i h in
    flat-has f ys from.0 i (within from.0 from.1) from.2

pub contents-flat : (content : Table → List Item) (levels : LevelLists) → flat_map joined (contents content levels) ≡ flat_map content (tables_in levels)
contents-flat content [] = refl
contents-flat content (ts ∷ levels) =
    ap (λ x. x ++ flat_map joined (contents content levels)) (flat_map-map (λ c. c) content ts)
    ∙ ap (λ x. flat_map content ts ++ x) (contents-flat content levels)
    ∙ sym (flat_map-append content ts (tables_in levels))

-- elements that are put in

put_in-from : {X : Type 0} (cmp : X → X → Ordering) (t : X) (xs : List X) (x : X) → Has (put_in cmp t xs) x → (t ≡ x) ⊎ Has xs x
put_in-from cmp t [] x h = h
put_in-from cmp t (y ∷ xs) x h = elim (cases_Bool (is_lt (cmp y t))) [
  | inl e ↦ elim (rw e at h) [
    | inl same ↦ inr (inl same)
    | inr g ↦ elim (put_in-from cmp t xs x g) [ inl p ↦ inl p | inr p ↦ inr (inr p) ]
  ]
  | inr e ↦ rw e at h
]

put_in-has : {X : Type 0} (cmp : X → X → Ordering) (t : X) (xs : List X) (x : X) → (t ≡ x) ⊎ Has xs x → Has (put_in cmp t xs) x
put_in-has cmp t [] x h = h
put_in-has cmp t (y ∷ xs) x h = elim (cases_Bool (is_lt (cmp y t))) [
  | inl e ↦ rw e (elim h [
    | inl same ↦ inr (put_in-has cmp t xs x (inl same))
    | inr g ↦ elim g [ inl same ↦ inl same | inr k ↦ inr (put_in-has cmp t xs x (inr k)) ]
  ])
  | inr e ↦ rw e h
]

pub put_all_in-from : {X : Type 0} (cmp : X → X → Ordering) (more xs : List X) (x : X) → Has (put_all_in cmp more xs) x → Has more x ⊎ Has xs x
put_all_in-from cmp [] xs x h = inr h
put_all_in-from cmp (m ∷ more) xs x h = elim (put_all_in-from cmp more (put_in cmp m xs) x h) [
  | inl g ↦ inl (inr g)
  | inr g ↦ elim (put_in-from cmp m xs x g) [ inl same ↦ inl (inl same) | inr k ↦ inr k ]
]

pub put_all_in-has : {X : Type 0} (cmp : X → X → Ordering) (more xs : List X) (x : X) → Has more x ⊎ Has xs x → Has (put_all_in cmp more xs) x
put_all_in-has cmp [] xs x (inl never) = absurd never
put_all_in-has cmp [] xs x (inr h) = h
put_all_in-has cmp (m ∷ more) xs x (inl (inl same)) = put_all_in-has cmp more (put_in cmp m xs) x (inr (put_in-has cmp m xs x (inl same)))
put_all_in-has cmp (m ∷ more) xs x (inl (inr h)) = put_all_in-has cmp more (put_in cmp m xs) x (inl h)
put_all_in-has cmp (m ∷ more) xs x (inr h) = put_all_in-has cmp more (put_in cmp m xs) x (inr (put_in-has cmp m xs x (inr h)))

-- a level after an edit

when-some : (b : Bool) (t u : Table) → cond b (Some t) None ≡ Some u → (b ≡ true) × (t ≡ u)
when-some true t u e = (refl, cc)
when-some false t u e = absurd (cc)

-- the edit adds the table to a level
abbrev pub Adds : Changes → Table → ℕ → Type 0
Adds e t level = (a : ℕ × Table) × Has e.added a × (a.1 ≡ t) × (a.0 ≡ level)

pub added-from : (e : Changes) (level : ℕ) (t : Table) → Has (added_to e level) t → Adds e t level
added-from e level t h =
    let from = Has-from_filter_map (λ a. cond (a.0 == level) (Some a.1) None) e.added t h in
    let parts = when-some (from.0.0 == level) from.0.1 t from.2 in
    (from.0, from.1, parts.1, eqb-true from.0.0 level parts.0)

pub added-has : (e : Changes) (level : ℕ) (a : ℕ × Table) → Has e.added a → a.0 ≡ level → Has (added_to e level) a.1
added-has e level a h same =
    Has-filter_map (λ b. cond (b.0 == level) (Some b.1) None) e.added a a.1 h (ap (λ b. cond b (Some a.1) None) (eq-eqb a.0 level same))

pub added-none : (e : Changes) (level : ℕ) → ((a : ℕ × Table) → Has e.added a → a.0 ≡ level → ⊥) → added_to e level ≡ []
added-none e level none = none-held (added_to e level) (λ t h. let from = added-from e level t h in none from.0 from.1 from.3)

pub level-from : (e : Changes) (level : ℕ) (ts : List Table) (t : Table) → Has (edited_level e level ts) t → Adds e t level ⊎ (Has ts t × (removes e level t ≡ false))
level-from e level ts t h = elim (put_all_in-from (table_cmp level) (added_to e level) (filter (λ u. not (removes e level u)) ts) t h) [
  | inl g ↦ inl (added-from e level t g)
  | inr g ↦ let from = Has-from_filter (λ u. not (removes e level u)) ts t g in inr (from.0, not-true (removes e level t) from.1)
]

-- where nothing is added
pub level-kept : (e : Changes) (level : ℕ) (ts : List Table) → ((a : ℕ × Table) → Has e.added a → a.0 ≡ level → ⊥) → edited_level e level ts ≡ filter (λ t. not (removes e level t)) ts
level-kept e level ts none = ap (λ x. put_all_in (table_cmp level) x (filter (λ t. not (removes e level t)) ts)) (added-none e level none)

pub all-true : {X : Type 0} (xs : List X) → filter (λ x. true) xs ≡ xs
all-true [] = refl
all-true (x ∷ xs) = ap (λ ys. x ∷ ys) (all-true xs)

-- where nothing is removed
pub removed-none : (e : Changes) (level : ℕ) (t : Table) → ((r : ℕ × ℕ) → Has e.removed r → r.0 ≡ level → ⊥) → removes e level t ≡ false
removed-none e level t none = false_from_ne_true (removes e level t) (λ h.
    let from = any-has (λ r. r.0 == level && r.1 == t.num) e.removed h in
    none from.0 from.1 (eqb-true from.0.0 level (and_parts (from.0.0 == level) (from.0.1 == t.num) from.2).0))

pub level-stays : (e : Changes) (level : ℕ) (ts : List Table) → ((a : ℕ × Table) → Has e.added a → a.0 ≡ level → ⊥) → ((r : ℕ × ℕ) → Has e.removed r → r.0 ≡ level → ⊥) → edited_level e level ts ≡ ts
level-stays e level ts none gone =
    level-kept e level ts none
    ∙ filter_along (λ t. not (removes e level t)) (λ t. true) ts (λ t h. ap not (removed-none e level t gone))
    ∙ all-true ts

-- levels that an edit leaves
pub levels-stay : (e : Changes) (base : ℕ) (levels : LevelLists) → ((a : ℕ × Table) → Has e.added a → a.0 < base) → ((r : ℕ × ℕ) → Has e.removed r → r.0 < base) → edited_from base e levels ≡ levels
levels-stay e base [] added removed = refl
levels-stay e base (ts ∷ levels) added removed =
    ap (λ x. x ∷ edited_from (suc base) e levels) (level-stays e base ts (λ a h same. let less = added a h in omega arith) (λ r h same. let less = removed r h in omega arith))
    ∙ ap (λ x. ts ∷ x) (levels-stay e (suc base) levels (λ a h. let less = added a h in omega arith) (λ r h. let less = removed r h in omega arith))

pub edited-append : (e : Changes) (base next : ℕ) (xs ys : LevelLists) → next ≡ base + length xs → edited_from base e (xs ++ ys) ≡ edited_from base e xs ++ edited_from next e ys
edited-append e base next [] ys same = let one : base ≡ next = omega arith in ap (λ n. edited_from n e ys) one
edited-append e base next (x ∷ xs) ys same = ap (λ z. edited_level e base x ∷ z) (edited-append e (suc base) next xs ys (omega arith))

pub others-append : (inputs : List (ℕ × ℕ)) (base next : ℕ) (xs ys : LevelLists) → next ≡ base + length xs → others_from inputs base (xs ++ ys) ≡ others_from inputs base xs ++ others_from inputs next ys
others-append inputs base next [] ys same = let one : base ≡ next = omega arith in ap (λ n. others_from inputs n ys) one
others-append inputs base next (x ∷ xs) ys same =
    ap (λ z. filter (λ t. not (is_input inputs base t)) x ++ z) (others-append inputs (suc base) next xs ys (omega arith))
    ∙ sym (append_assoc (filter (λ t. not (is_input inputs base t)) x) (others_from inputs (suc base) xs) (others_from inputs next ys))

-- levels to which nothing is added keep the tables that aren't removed
pub tables-kept : (e : Changes) (base : ℕ) (levels : LevelLists) → ((a : ℕ × Table) → Has e.added a → base + length levels ≤ a.0) → tables_in (edited_from base e levels) ≡ others_from e.removed base levels
tables-kept e base [] added = refl
tables-kept e base (ts ∷ levels) added =
    ap (λ x. x ++ tables_in (edited_from (suc base) e levels)) (level-kept e base ts (λ a h same. let far = added a h in omega arith))
    ∙ ap (λ x. filter (λ t. not (is_input e.removed base t)) ts ++ x) (tables-kept e (suc base) levels (λ a h. let far = added a h in omega arith))

-- inputs and others

pub others-within : (inputs : List (ℕ × ℕ)) (base : ℕ) (levels : LevelLists) (t : Table) → Has (others_from inputs base levels) t → Has (tables_in levels) t
others-within inputs base [] t h = absurd h
others-within inputs base (ts ∷ levels) t h = elim (Has-append_cases (filter (λ u. not (is_input inputs base u)) ts) (others_from inputs (suc base) levels) t h) [
  | inl g ↦ Has-append_left ts (tables_in levels) t (Has-from_filter (λ u. not (is_input inputs base u)) ts t g).0
  | inr g ↦ Has-append_right ts (tables_in levels) t (others-within inputs (suc base) levels t g)
]

pub inputs-within : (inputs : List (ℕ × ℕ)) (base : ℕ) (levels : LevelLists) (t : Table) → Has (inputs_from inputs base levels) t → Has (tables_in levels) t
inputs-within inputs base [] t h = absurd h
inputs-within inputs base (ts ∷ levels) t h = elim (Has-append_cases (filter (is_input inputs base) ts) (inputs_from inputs (suc base) levels) t h) [
  | inl g ↦ Has-append_left ts (tables_in levels) t (Has-from_filter (is_input inputs base) ts t g).0
  | inr g ↦ Has-append_right ts (tables_in levels) t (inputs-within inputs (suc base) levels t g)
]

pub tables-part : (inputs : List (ℕ × ℕ)) (base : ℕ) (levels : LevelLists) (t : Table) → Has (tables_in levels) t → Has (others_from inputs base levels) t ⊎ Has (inputs_from inputs base levels) t
tables-part inputs base [] t h = absurd h
tables-part inputs base (ts ∷ levels) t h = elim (Has-append_cases ts (tables_in levels) t h) [
  | inl g ↦ elim (cases_Bool (is_input inputs base t)) [
    | inl e ↦ inr (Has-append_left (filter (is_input inputs base) ts) (inputs_from inputs (suc base) levels) t (Has-filter (is_input inputs base) ts t g e))
    | inr e ↦ inl (Has-append_left (filter (λ u. not (is_input inputs base u)) ts) (others_from inputs (suc base) levels) t (Has-filter (λ u. not (is_input inputs base u)) ts t g (ap not e)))
  ]
  | inr g ↦ elim (tables-part inputs (suc base) levels t g) [
    | inl k ↦ inl (Has-append_right (filter (λ u. not (is_input inputs base u)) ts) (others_from inputs (suc base) levels) t k)
    | inr k ↦ inr (Has-append_right (filter (is_input inputs base) ts) (inputs_from inputs (suc base) levels) t k)
  ]
]

input-level : (inputs : List (ℕ × ℕ)) (level : ℕ) (t : Table) → is_input inputs level t ≡ true → (r : ℕ × ℕ) × Has inputs r × (r.0 ≡ level) × (r.1 ≡ t.num)
input-level inputs level t h =
    let from = any-has (λ r. r.0 == level && r.1 == t.num) inputs h in
    let parts = and_parts (from.0.0 == level) (from.0.1 == t.num) from.2 in
    (from.0, from.1, eqb-true from.0.0 level parts.0, eqb-true from.0.1 t.num parts.1)

-- inputs of the first levels alone
pub inputs-front : (inputs : List (ℕ × ℕ)) (base count : ℕ) (levels : LevelLists) (t : Table) → ((r : ℕ × ℕ) → Has inputs r → r.0 < base + count) → Has (inputs_from inputs base levels) t → Has (inputs_from inputs base (take count levels)) t
inputs-front inputs base count [] t front h = absurd h
inputs-front inputs base zero (ts ∷ levels) t front h = elim (Has-append_cases (filter (is_input inputs base) ts) (inputs_from inputs (suc base) levels) t h) [
  | inl g ↦
      let from = input-level inputs base t (Has-from_filter (is_input inputs base) ts t g).1 in
      let less = front from.0 from.1 in
      absurd (omega (arith, from.2))
  | inr g ↦ absurd (inputs-front inputs (suc base) zero levels t (λ r k. let less = front r k in omega arith) g)
]
inputs-front inputs base (suc count) (ts ∷ levels) t front h = elim (Has-append_cases (filter (is_input inputs base) ts) (inputs_from inputs (suc base) levels) t h) [
  | inl g ↦ Has-append_left (filter (is_input inputs base) ts) (inputs_from inputs (suc base) (take count levels)) t g
  | inr g ↦ Has-append_right (filter (is_input inputs base) ts) (inputs_from inputs (suc base) (take count levels)) t
      (inputs-front inputs (suc base) count levels t (λ r k. let less = front r k in omega arith) g)
]

-- inputs of the levels behind alone
pub inputs-back : (inputs : List (ℕ × ℕ)) (base count : ℕ) (levels : LevelLists) (t : Table) → ((r : ℕ × ℕ) → Has inputs r → base + count ≤ r.0) → Has (inputs_from inputs base levels) t → Has (tables_in (drop count levels)) t
inputs-back inputs base count [] t back h = absurd h
inputs-back inputs base zero (ts ∷ levels) t back h = inputs-within inputs base (ts ∷ levels) t h
inputs-back inputs base (suc count) (ts ∷ levels) t back h = elim (Has-append_cases (filter (is_input inputs base) ts) (inputs_from inputs (suc base) levels) t h) [
  | inl g ↦
      let from = input-level inputs base t (Has-from_filter (is_input inputs base) ts t g).1 in
      let far = back from.0 from.1 in
      absurd (omega (arith, from.2))
  | inr g ↦ inputs-back inputs (suc base) count levels t (λ r k. let far = back r k in omega arith) g
]

pair-same : (r s : ℕ × ℕ) → r.0 ≡ s.0 → r.1 ≡ s.1 → r ≡ s
pair-same (a, b) (c, d) e f = λ x. (e x, f x)

-- the inputs of one compaction are no inputs of another that has none of them
pub inputs-others : (mine theirs : List (ℕ × ℕ)) (base count more : ℕ) (levels : LevelLists) (t : Table) → ((r : ℕ × ℕ) → Has mine r → Has theirs r → ⊥) → count ≤ more → Has (inputs_from theirs base (take count levels)) t → Has (others_from mine base (take more levels)) t
inputs-others mine theirs base zero more levels t apart few h = absurd h
inputs-others mine theirs base (suc count) zero levels t apart few h = absurd (omega arith)
inputs-others mine theirs base (suc count) (suc more) [] t apart few h = absurd h
inputs-others mine theirs base (suc count) (suc more) (ts ∷ levels) t apart few h = elim (Has-append_cases (filter (is_input theirs base) ts) (inputs_from theirs (suc base) (take count levels)) t h) [
  | inl g ↦
      let from = Has-from_filter (is_input theirs base) ts t g in
      let their = input-level theirs base t from.1 in
      let not_mine : is_input mine base t ≡ false = false_from_ne_true (is_input mine base t) (λ e.
      let my = input-level mine base t e in
      apart my.0 my.1 (subst (λ x. Has theirs x) (pair-same their.0 my.0 (their.2 ∙ sym my.2) (their.3 ∙ sym my.3)) their.1)) in
      Has-append_left (filter (λ u. not (is_input mine base u)) ts) (others_from mine (suc base) (take more levels)) t
      (Has-filter (λ u. not (is_input mine base u)) ts t from.0 (ap not not_mine))
  | inr g ↦ Has-append_right (filter (λ u. not (is_input mine base u)) ts) (others_from mine (suc base) (take more levels)) t
      (inputs-others mine theirs (suc base) count more levels t apart (omega arith) g)
]

-- what stands above and below, after an edit

pub others-edited : (inputs : List (ℕ × ℕ)) (e : Changes) (base count : ℕ) (levels : LevelLists) (t : Table) → Has (others_from inputs base (take count (edited_from base e levels))) t → Has (others_from inputs base (take count levels)) t ⊎ ((a : ℕ × Table) × Has e.added a × (a.1 ≡ t) × (a.0 < base + count))
others-edited inputs e base zero levels t h = absurd h
others-edited inputs e base (suc count) [] t h = absurd h
others-edited inputs e base (suc count) (ts ∷ levels) t h = elim (Has-append_cases (filter (λ u. not (is_input inputs base u)) (edited_level e base ts)) (others_from inputs (suc base) (take count (edited_from (suc base) e levels))) t h) [
  | inl g ↦
      let from = Has-from_filter (λ u. not (is_input inputs base u)) (edited_level e base ts) t g in
      elim (level-from e base ts t from.0) [
        | inl a ↦ inr (a.0, a.1, a.2, omega (arith, a.3))
        | inr old ↦ inl (Has-append_left (filter (λ u. not (is_input inputs base u)) ts) (others_from inputs (suc base) (take count levels)) t (Has-filter (λ u. not (is_input inputs base u)) ts t old.0 from.1))
      ]
  | inr g ↦ elim (others-edited inputs e (suc base) count levels t g) [
    | inl k ↦ inl (Has-append_right (filter (λ u. not (is_input inputs base u)) ts) (others_from inputs (suc base) (take count levels)) t k)
    | inr a ↦ inr (a.0, a.1, a.2, omega (arith, a.3))
  ]
]

pub below-edited : (e : Changes) (base count : ℕ) (levels : LevelLists) (t : Table) → Has (tables_in (drop count (edited_from base e levels))) t → Has (tables_in (drop count levels)) t ⊎ ((a : ℕ × Table) × Has e.added a × (a.1 ≡ t) × (base + count ≤ a.0))
below-edited e base zero [] t h = absurd h
below-edited e base zero (ts ∷ levels) t h = elim (Has-append_cases (edited_level e base ts) (tables_in (edited_from (suc base) e levels)) t h) [
  | inl g ↦ elim (level-from e base ts t g) [
    | inl a ↦ inr (a.0, a.1, a.2, omega (arith, a.3))
    | inr old ↦ inl (Has-append_left ts (tables_in levels) t old.0)
  ]
  | inr g ↦ elim (below-edited e (suc base) zero levels t g) [
    | inl k ↦ inl (Has-append_right ts (tables_in levels) t k)
    | inr a ↦ inr (a.0, a.1, a.2, omega (arith, a.3))
  ]
]
below-edited e base (suc count) [] t h = absurd h
below-edited e base (suc count) (ts ∷ levels) t h = elim (below-edited e (suc base) count levels t h) [
  | inl k ↦ inl k
  | inr a ↦ inr (a.0, a.1, a.2, omega (arith, a.3))
]

-- of two levels and those before
pub others-split : (inputs : List (ℕ × ℕ)) (base level : ℕ) (levels : LevelLists) (t : Table) → Has (others_from inputs base (take (suc (suc level)) levels)) t → Has (tables_in (take level levels)) t ⊎ Has (others_from inputs (base + level) (take 2 (drop level levels))) t
others-split inputs base zero levels t h = let same : base ≡ base + 0 = omega arith in inr (subst (λ n. Has (others_from inputs n (take 2 levels)) t) same h)
others-split inputs base (suc level) [] t h = absurd h
others-split inputs base (suc level) (ts ∷ levels) t h = elim (Has-append_cases (filter (λ u. not (is_input inputs base u)) ts) (others_from inputs (suc base) (take (suc (suc level)) levels)) t h) [
  | inl g ↦ inl (Has-append_left ts (tables_in (take level levels)) t (Has-from_filter (λ u. not (is_input inputs base u)) ts t g).0)
  | inr g ↦ elim (others-split inputs (suc base) level levels t g) [
    | inl k ↦ inl (Has-append_right ts (tables_in (take level levels)) t k)
    | inr k ↦ let same : suc base + level ≡ base + suc level = omega arith in inr (subst (λ n. Has (others_from inputs n (take 2 (drop level levels))) t) same k)
  ]
]
