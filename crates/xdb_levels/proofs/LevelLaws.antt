-- Levels, each at its place.
use Rattle.std.proofs.Common.{◌≡◌, ℕ, zero, suc, ◌+◌, ◌<◌, Bool, true, false, cond, eqb, List, [], ◌∷◌, ◌++◌, length, get_or, take, replicate, Option, Some, None, refl, sym, ap, ap₂, ◌∙◌, arith}
use Rattle.std.specs.List.{list_all, filter_map, cons_option}
use Rattle.std.proofs.lemmas.Bool.{and_parts, and_from, cond-true, cond-false, eq-eqb, ne_eqb}
use Rattle.std.proofs.lemmas.List.{append-nil, take_more}
use Rattle.std.proofs.lemmas.List.Elements.{filter_map-append}
use Rattle.std.proofs.lemmas.List.Sums.{AllPass-from_list_all}
use Rattle.xdb_meta.specs.Table.{Table}
use Rattle.xdb_edit.specs.Changes.{Changes}
use Rattle.xdb_edit.specs.Versions.{LevelLists, table_cmp, edited_level, edited_from, tables_of, is_sorted, is_disjoint, are_sorted_from, are_disjoint, has_range, have_ranges}

pub tables_of-get_or : (levels : LevelLists) (i : ℕ) → tables_of levels i ≡ get_or levels i []
tables_of-get_or [] i = refl
tables_of-get_or (ts ∷ rest) zero = refl
tables_of-get_or (ts ∷ rest) (suc i) = tables_of-get_or rest i

pub length-edited : (first : ℕ) (e : Changes) (levels : LevelLists) → length (edited_from first e levels) ≡ length levels
length-edited first e [] = refl
length-edited first e (ts ∷ rest) = ap suc (length-edited (suc first) e rest)

pub edited_at : (first : ℕ) (e : Changes) (levels : LevelLists) (i level : ℕ) (d : List Table) → i < length levels → first + i ≡ level → get_or (edited_from first e levels) i d ≡ edited_level e level (get_or levels i d)
edited_at first e [] i level d l h = absurd (omega arith)
edited_at first e (ts ∷ rest) zero level d l h = let same : first ≡ level = omega arith in ap (λ n. edited_level e n ts) same
edited_at first e (ts ∷ rest) (suc i) level d l h = edited_at (suc first) e rest i level d (omega arith) (omega arith)

pub sorted_at : (first : ℕ) (levels : LevelLists) (i level : ℕ) (d : List Table) → are_sorted_from first levels ≡ true → i < length levels → first + i ≡ level → is_sorted (table_cmp level) (get_or levels i d) ≡ true
sorted_at first [] i level d sorted l h = absurd (omega arith)
sorted_at first (ts ∷ rest) zero level d sorted l h =
    let same : first ≡ level = omega arith in
    ap (λ n. is_sorted (table_cmp n) ts) (sym same) ∙ (and_parts (is_sorted (table_cmp first) ts) (are_sorted_from (suc first) rest) sorted).0
sorted_at first (ts ∷ rest) (suc i) level d sorted l h =
    sorted_at (suc first) rest i level d (and_parts (is_sorted (table_cmp first) ts) (are_sorted_from (suc first) rest) sorted).1 (omega arith) (omega arith)

pub disjoint_at : (levels : LevelLists) (i : ℕ) (d : List Table) → are_disjoint levels ≡ true → 0 < i → i < length levels → is_disjoint (get_or levels i d) ≡ true
disjoint_at [] i d h some l = absurd (omega arith)
disjoint_at (ts ∷ rest) zero d h some l = absurd (omega arith)
disjoint_at (ts ∷ rest) (suc i) d h some l = AllPass-from_list_all is_disjoint rest h i d (omega arith)

-- levels without tables
pub empty_sorted : (first n : ℕ) → are_sorted_from first (replicate n []) ≡ true
empty_sorted first zero = refl
empty_sorted first (suc n) = empty_sorted (suc first) n

empty_all : {X : Type 0} (p : List X → Bool) (n : ℕ) → p [] ≡ true → list_all p (replicate n []) ≡ true
empty_all p zero h = refl
empty_all p (suc n) h = and_from _ _ h (empty_all p n h)

pub empty_ranges : (n : ℕ) → have_ranges (replicate n []) ≡ true
empty_ranges n = empty_all (list_all has_range) n refl

pub empty_disjoint : (n : ℕ) → are_disjoint (replicate n []) ≡ true
empty_disjoint zero = refl
empty_disjoint (suc n) = empty_all is_disjoint n refl

-- one more record of an edit, which adds to the level or doesn't

added_next : (level : ℕ) (adds : List (ℕ × Table)) (i : ℕ) (a : ℕ × Table) → i < length adds → a ≡ get_or adds i a → filter_map (λ a. cond (eqb a.0 level) (Some a.1) None) (take (i + 1) adds) ≡ filter_map (λ a. cond (eqb a.0 level) (Some a.1) None) (take i adds) ++ cons_option (cond (eqb a.0 level) (Some a.1) None) []
added_next level adds i a l read =
    let h : ℕ × Table → Option Table = λ a. cond (eqb a.0 level) (Some a.1) None in
    ap (filter_map h) (take_more adds i a l ∙ ap (λ x. take i adds ++ x ∷ []) (sym read)) ∙ filter_map-append h (take i adds) (a ∷ [])

pub added_here : (level : ℕ) (adds seen : List (ℕ × Table)) (i : ℕ) (a : ℕ × Table) (made new : List Table) (t : Table) → seen ≡ adds → i < length seen → a ≡ get_or seen i a → made ≡ filter_map (λ a. cond (eqb a.0 level) (Some a.1) None) (take i adds) → a.0 ≡ level → t ≡ a.1 → new ≡ made ++ t ∷ [] → new ≡ filter_map (λ a. cond (eqb a.0 level) (Some a.1) None) (take (i + 1) adds)
added_here level adds seen i a made new t same l read so_far here copied pushed =
    let test : eqb a.0 level ≡ true = eq-eqb a.0 level here in
    pushed ∙ ap₂ (λ (xs : List Table) y. xs ++ y ∷ []) so_far copied
    ∙ ap (λ o. filter_map (λ a. cond (eqb a.0 level) (Some a.1) None) (take i adds) ++ cons_option o []) (sym (cond-true (eqb a.0 level) (Some a.1) None test))
    ∙ sym (added_next level adds i a (omega (arith, ap length same)) (read ∙ ap (λ xs. get_or xs i a) same))

pub added_elsewhere : (level : ℕ) (adds seen : List (ℕ × Table)) (i : ℕ) (a : ℕ × Table) (made new : List Table) → seen ≡ adds → i < length seen → a ≡ get_or seen i a → made ≡ filter_map (λ a. cond (eqb a.0 level) (Some a.1) None) (take i adds) → (a.0 ≡ level → ⊥) → new ≡ made → new ≡ filter_map (λ a. cond (eqb a.0 level) (Some a.1) None) (take (i + 1) adds)
added_elsewhere level adds seen i a made new same l read so_far there kept =
    let test : eqb a.0 level ≡ false = ne_eqb a.0 level there in
    kept ∙ so_far ∙ sym (append-nil (filter_map (λ a. cond (eqb a.0 level) (Some a.1) None) (take i adds)))
    ∙ ap (λ o. filter_map (λ a. cond (eqb a.0 level) (Some a.1) None) (take i adds) ++ cons_option o []) (sym (cond-false (eqb a.0 level) (Some a.1) None test))
    ∙ sym (added_next level adds i a (omega (arith, ap length same)) (read ∙ ap (λ xs. get_or xs i a) same))
