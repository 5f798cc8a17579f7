-- Names, sorted and sought, and the names of the tables of levels.
use Rattle.std.proofs.Common.{◌≡◌, ℕ, zero, suc, ◌+◌, ◌<◌, ◌≤◌, Bool, true, false, ◌&&◌, ◌||◌, eqb, List, [], ◌∷◌, ◌++◌, length, get_or, map, drop, Result, Ok, Err, refl, sym, ap, ap₂, ◌∙◌, inl, inr, append_assoc, add-one, arith}
use Rattle.std.specs.List.{list_any}
use Rattle.std.specs.List.Sorted.{IsSorted, IsSearchInRange, IsBinarySearchResult}
use Rattle.std.specs.Result.{is_ok}
use Rattle.std.specs.declared.cmp.Ordering.{Ordering}
use Rattle.std.specs.declared.cmp.Ordering.TheVariants.{Less, Equal, Greater}
use Rattle.std.specs.Ordering.{nat_cmp, is_eq, ordering_then}
use Rattle.std.specs.Cmp.{IsTotalOrder}
use Rattle.std.proofs.lemmas.Cmp.{nat_cmp_total, on_total, then_total}
use Rattle.std.proofs.lemmas.Bool.{cases_lt, eq-eqb, ne_eqb, and_left, or_from}
use Rattle.std.proofs.lemmas.Bool.Decides.{nat_tests}
use Rattle.std.proofs.lemmas.List.{append-nil, drop_more, drop_all}
use Rattle.std.proofs.lemmas.List.Folds.{list_any-append, list_any_at, list_any_none}
use Rattle.std.proofs.lemmas.List.Sorted.{searchable_from_sorted}
use Rattle.xdb_meta.specs.Table.{Table}
use Rattle.xdb_edit.specs.Versions.{LevelLists, tables_of, stands_in}
use Rattle.xdb_levels.specs.Names.{name_cmp, is_named, names_from}

name_total : IsTotalOrder name_cmp
name_total = then_total (on_total (λ r. r.0) nat_cmp_total) (on_total (λ r. r.1) nat_cmp_total)

-- ---- two names tie just where they are one

nat_tie : (x y : ℕ) → is_eq (nat_cmp x y) ≡ eqb x y
nat_tie x y = grind (arith, nat_tests)

then_tie : (r s : Ordering) → is_eq (ordering_then r s) ≡ (is_eq r && is_eq s)
then_tie Less s = refl
then_tie Equal s = refl
then_tie Greater s = refl

name_tie : (a b : ℕ × ℕ) → is_eq (name_cmp a b) ≡ (eqb a.0 b.0 && eqb a.1 b.1)
name_tie a b = then_tie (nat_cmp a.0 b.0) (nat_cmp a.1 b.1) ∙ ap₂ ◌&&◌ (nat_tie a.0 b.0) (nat_tie a.1 b.1)

-- what a binary search for a name answers
pub sought : (names : List (ℕ × ℕ)) (level num : ℕ) (r : Result ℕ ℕ) → IsSorted name_cmp names → IsSearchInRange r (length names) → IsBinarySearchResult (λ y. name_cmp y (level, num)) names r → is_ok r ≡ is_named names level num
sought names level num (Ok i) sorted inside h =
    sym (list_any_at (λ r. eqb r.0 level && eqb r.1 num) names i (0, 0) inside (sym (name_tie (get_or names i (0, 0)) (level, num)) ∙ ap is_eq (h (0, 0))))
sought names level num (Err i) sorted inside h =
    let split = h (searchable_from_sorted name_total (λ y. y) names (level, num) sorted) in
    sym (list_any_none (λ r. eqb r.0 level && eqb r.1 num) names (λ k d l. sym (name_tie (get_or names k d) (level, num)) ∙ elim (cases_lt k i) [
      | inl less ↦ ap is_eq (split.0 k d (omega arith) less)
      | inr more ↦ ap is_eq (split.1 k d more l)
    ]))

-- ---- the names of the tables of levels

row_other : (first level num : ℕ) (ts : List Table) → eqb first level ≡ false → is_named (map (λ t. (first, t.num)) ts) level num ≡ false
row_other first level num [] e = refl
row_other first level num (t ∷ ts) e = or_from _ _ (and_left (eqb first level) (eqb t.num num) e) (row_other first level num ts e)

row_same : (first level num : ℕ) (ts : List Table) → eqb first level ≡ true → is_named (map (λ t. (first, t.num)) ts) level num ≡ list_any (λ t. eqb t.num num) ts
row_same first level num [] e = refl
row_same first level num (t ∷ ts) e = ap₂ ◌||◌ (ap (λ b. b && eqb t.num num) e) (row_same first level num ts e)

or_false : (b : Bool) → (b || false) ≡ b
or_false true = refl
or_false false = refl

-- the names from a level on are of no level before it
names_behind : (first level num : ℕ) (levels : LevelLists) → level < first → is_named (names_from first levels) level num ≡ false
names_behind first level num [] less = refl
names_behind first level num (ts ∷ rest) less =
    list_any-append (λ r. eqb r.0 level && eqb r.1 num) (map (λ t. (first, t.num)) ts) (names_from (suc first) rest)
    ∙ or_from _ _ (row_other first level num ts (ne_eqb first level (λ e. omega arith))) (names_behind (suc first) level num rest (omega arith))

names_at : (first i level num : ℕ) (levels : LevelLists) → first + i ≡ level → is_named (names_from first levels) level num ≡ list_any (λ t. eqb t.num num) (tables_of levels i)
names_at first i level num [] e = refl
names_at first zero level num (ts ∷ rest) e =
    list_any-append (λ r. eqb r.0 level && eqb r.1 num) (map (λ t. (first, t.num)) ts) (names_from (suc first) rest)
    ∙ ap₂ ◌||◌ (row_same first level num ts (eq-eqb first level (omega arith))) (names_behind (suc first) level num rest (omega arith))
    ∙ or_false (list_any (λ t. eqb t.num num) ts)
names_at first (suc i) level num (ts ∷ rest) e =
    list_any-append (λ r. eqb r.0 level && eqb r.1 num) (map (λ t. (first, t.num)) ts) (names_from (suc first) rest)
    ∙ ap₂ ◌||◌ (row_other first level num ts (ne_eqb first level (λ f. omega arith))) (names_at (suc first) i level num rest (omega arith))

-- the tables that are named are those that stand there
pub named_stands : (levels : LevelLists) (level num : ℕ) → is_named (names_from 0 levels) level num ≡ stands_in levels (level, num)
named_stands levels level num = names_at 0 level level num levels (omega arith)

-- ---- the loop over the levels: what is named goes on with the names of what is left

pub names_step : (done all new : List (ℕ × ℕ)) (levels : LevelLists) (i level : ℕ) (ts : List Table) → i < length levels → ts ≡ get_or levels i ts → done ++ names_from level (drop i levels) ≡ all → new ≡ done ++ map (λ t. (level, t.num)) ts → new ++ names_from (level + 1) (drop (i + 1) levels) ≡ all
names_step done all new levels i level ts l read h made =
    let left = drop (i + 1) levels in
    let next : drop i levels ≡ ts ∷ left = drop_more levels i ts l ∙ ap (λ x. x ∷ left) (sym read) in
    ap₂ (λ (xs : List (ℕ × ℕ)) n. xs ++ names_from n left) made (add-one level)
    ∙ append_assoc done (map (λ t. (level, t.num)) ts) (names_from (suc level) left)
    ∙ ap (λ (x : LevelLists). done ++ names_from level x) (sym next)
    ∙ h

pub names_end : (done all : List (ℕ × ℕ)) (levels : LevelLists) (i level : ℕ) → length levels ≤ i → done ++ names_from level (drop i levels) ≡ all → done ≡ all
names_end done all levels i level l h =
    sym (append-nil done) ∙ ap (λ (x : LevelLists). done ++ names_from level x) (sym (drop_all i levels l)) ∙ h
