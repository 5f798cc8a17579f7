-- What tables have, side by side with them.
use Rattle.std.proofs.Common.{◌≡◌, ℕ, true, List, [], ◌∷◌, ◌++◌, map, inl, inr, refl, sym, ap, ◌∙◌, subst}
use Rattle.std.proofs.lemmas.List.{map-append}
use Rattle.xdb_edit.specs.Versions.{LevelLists, tables_of}
use Rattle.xdb_key.specs.Bounds.{Bounds, holds, key_hull}
use Rattle.xdb_laws.proofs.AnswerLaws.{holds-covered, holds-itself}
use Rattle.xdb_laws.proofs.PlaceLaws.{groups-operations}
use Rattle.xdb_laws.specs.Excises.{KeepsTo, item_hull}
use Rattle.xdb_laws.specs.Ordered.{joined, whole}
use Rattle.xdb_laws.specs.Parts.{KeepToBounds}
use Rattle.xdb_laws.specs.Tables.{contents, tables_in}
use Rattle.xdb_mem.specs.Parts.{items}
use Rattle.xdb_mem.specs.Queue.{Queue, groups, all_ops}
use Rattle.xdb_meta.specs.Table.{Table, bounds_of}
use Rattle.xdb_rangedel.proofs.MemberLaws.{Has-append_left, Has-append_right, Has-append_cases}
use Rattle.xdb_rangedel.proofs.NewestLaws.{same_key-tells}
use Rattle.xdb_rangedel.specs.Content.{Item, entry, span, here}
use Rattle.xdb_rangedel.specs.Members.{Has, SameMembers}
use Rattle.xdb_steps.specs.Between.{group_items, all_items}
use Rattle.xdb_steps.specs.Core.{table_items}
use Rattle.xdb_steps.specs.Tables.{Contents, SideBySide, IsTableOf, AreTables, l0_of, with_bounds, all_with_bounds}

-- ---- lists side by side

pub side-more : {A B : Type 0} (R S : A → B → Type 0) (xs : List A) (ys : List B) → ((x : A) (y : B) → R x y → S x y) → SideBySide R xs ys → SideBySide S xs ys
side-more R S [] [] f h = tt
side-more R S [] (y ∷ ys) f h = absurd h
side-more R S (x ∷ xs) [] f h = absurd h
side-more R S (x ∷ xs) (y ∷ ys) f h = (f x y h.0, side-more R S xs ys f h.1)

-- beside its image under a function, a list has the relation at each element
module _ {A B : Type 0} (R : A → B → Type 0) (f : A → B) where
  pub side-of : (xs : List A) → ((x : A) → Has xs x → R x (f x)) → SideBySide R xs (map f xs)
  side-of [] h = tt
  side-of (x ∷ xs) h = (h x (inl refl), side-of xs (λ y there. h y (inr there)))

  pub side-at : (xs : List A) → SideBySide R xs (map f xs) → (x : A) → Has xs x → R x (f x)
  side-at [] h x there = absurd there
  side-at (y ∷ ys) h x (inl e) = subst (λ z. R z (f z)) e h.0
  side-at (y ∷ ys) h x (inr there) = side-at ys h.1 x there

-- ---- the tables of a version

module _ (content : Table → List Item) where
  pub tables-at : (levels : LevelLists) → AreTables levels (contents content levels) → (t : Table) → Has (tables_in levels) t → IsTableOf t (content t)
  tables-at levels h t has = let (ts, there, at) = level-with levels t has in side-at IsTableOf content ts (side-at (SideBySide IsTableOf) (map content) levels h ts there) t at
    where
      level-with : (levels : LevelLists) (t : Table) → Has (tables_in levels) t → (ts : List Table) × Has levels ts × Has ts t
      level-with [] t has = absurd has
      level-with (ts ∷ rest) t has = elim (Has-append_cases ts (tables_in rest) t has) [
        | inl here ↦ (ts, inl refl, here)
        | inr below ↦ let (us, there, at) = level-with rest t below in (us, inr there, at)
      ]

  pub tables-of : (levels : LevelLists) → ((t : Table) → Has (tables_in levels) t → IsTableOf t (content t)) → AreTables levels (contents content levels)
  tables-of [] h = tt
  tables-of (ts ∷ levels) h = (
    side-of IsTableOf content ts (λ t has. h t (Has-append_left ts (tables_in levels) t has)),
    tables-of levels (λ t has. h t (Has-append_right ts (tables_in levels) t has)),
  )

  pub l0-is : (levels : LevelLists) → l0_of (contents content levels) ≡ map content (tables_of levels 0)
  l0-is [] = refl
  l0-is (ts ∷ levels) = refl

  pub bounds-are : (levels : LevelLists) → all_with_bounds levels (contents content levels) ≡ map (λ t. (bounds_of t, content t)) (tables_in levels)
  bounds-are [] = refl
  bounds-are (ts ∷ levels) = (λ i. level ts i ++ bounds-are levels i) ∙ sym (map-append (λ (t : Table). (bounds_of t, content t)) ts (tables_in levels))
    where
      level : (ts : List Table) → with_bounds ts (map content ts) ≡ map (λ t. (bounds_of t, content t)) ts
      level [] = refl
      level (t ∷ ts) = ap (λ xs. (bounds_of t, content t) ∷ xs) (level ts)

-- what holds of a content holds of its members
pub table-same : (t : Table) (c d : List Item) → SameMembers c d → IsTableOf t d → IsTableOf t c
table-same t c d same h = record {
  inside = λ i has. h.inside i ((same i).0 has);
  lo = (h.lo.0, (same h.lo.0).1 h.lo.1, h.lo.2);
  hi = (h.hi.0, (same h.hi.0).1 h.hi.1, h.hi.2);
  numbers = λ i has. h.numbers i ((same i).0 has);
}

-- ---- tables speak of keys in their bounds alone

hull-holds : (k : List ℕ) (i : Item) → here k i ≡ true → holds (item_hull i) k ≡ true
hull-holds k (entry key seq value) h = subst (λ x. holds (key_hull key) x ≡ true) (same_key-tells key k h) (holds-itself key)
hull-holds k (span t) h = h

pub table-keeps : (t : Table) (c : List Item) → IsTableOf t c → KeepsTo (bounds_of t) c
table-keeps t c h = λ k i has at. holds-covered (bounds_of t) (item_hull i) k (h.inside i has) (hull-holds k i at)

pub tables-keep : (levels : LevelLists) (contents : Contents) → AreTables levels contents → KeepToBounds (all_with_bounds levels contents)
tables-keep [] [] h = tt
tables-keep [] (cs ∷ contents) h = absurd h
tables-keep (ts ∷ levels) [] h = absurd h
tables-keep (ts ∷ levels) (cs ∷ contents) h = both (with_bounds ts cs) (all_with_bounds levels contents) (level ts cs h.0) (tables-keep levels contents h.1)
  where
    both : (xs ys : List (Bounds × List Item)) → KeepToBounds xs → KeepToBounds ys → KeepToBounds (xs ++ ys)
    both [] ys a b = b
    both (x ∷ xs) ys a b = (a.0, both xs ys a.1 b)

    level : (ts : List Table) (cs : List (List Item)) → SideBySide IsTableOf ts cs → KeepToBounds (with_bounds ts cs)
    level [] [] h = tt
    level [] (c ∷ cs) h = absurd h
    level (t ∷ ts) [] h = absurd h
    level (t ∷ ts) (c ∷ cs) h = (table-keeps t c h.0, level ts cs h.1)

-- ---- what memtables and tables have, in one order and in another

pub all-whole : (contents : Contents) (mem : Queue) → SameMembers (all_items contents mem) (whole (group_items mem) contents)
all-whole contents mem = λ i. (
  λ h. elim (Has-append_cases (table_items contents) (items (all_ops (groups mem))) i h) [
    | inl t ↦ Has-append_right (joined (group_items mem)) (table_items contents) i t
    | inr g ↦ Has-append_left (joined (group_items mem)) (table_items contents) i (subst (λ x. Has x i) (sym (groups-operations (groups mem))) g)
  ],
  λ h. elim (Has-append_cases (joined (group_items mem)) (table_items contents) i h) [
    | inl g ↦ Has-append_right (table_items contents) (items (all_ops (groups mem))) i (subst (λ x. Has x i) (groups-operations (groups mem)) g)
    | inr t ↦ Has-append_left (table_items contents) (items (all_ops (groups mem))) i t
  ],
)
