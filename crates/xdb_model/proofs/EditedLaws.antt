-- What holds of the tables of a level after an edit.
use Rattle.std.proofs.Common.{◌≡◌, ℕ, suc, Bool, true, false, cond, not, eqb, List, [], ◌∷◌, filter, Some, None, refl}
use Rattle.std.proofs.lemmas.Bool.{not-true}
use Rattle.std.specs.List.{AllByRecursion, filter_map, cons_option}
use Rattle.std.specs.declared.cmp.Ordering.{Ordering}
use Rattle.std.specs.Ordering.{is_lt}
use Rattle.xdb_rangedel.specs.Members.{Has}
use Rattle.xdb_meta.specs.Table.{Table}
use Rattle.xdb_edit.specs.Changes.{Changes}
use Rattle.xdb_edit.specs.Versions.{LevelLists, table_cmp, put_in, put_all_in, removes, added_to, edited_level, edited_from}
use Rattle.xdb_model.proofs.ListLaws.{all-filtered, all-has, all-more}

-- ---- one level

pub all-put : (P : Table → Type 0) (cmp : Table → Table → Ordering) (t : Table) (xs : List Table) → P t → AllByRecursion P xs → AllByRecursion P (put_in cmp t xs)
all-put P cmp t [] is all = (is, tt)
all-put P cmp t (x ∷ xs) is all = either (is_lt (cmp x t)) (all.0, all-put P cmp t xs is all.1) (is, all)
  where
    either : (b : Bool) → AllByRecursion P (x ∷ put_in cmp t xs) → AllByRecursion P (t ∷ x ∷ xs) → AllByRecursion P (cond b (x ∷ put_in cmp t xs) (t ∷ x ∷ xs))
    either true a c = a
    either false a c = c

pub all-put_all : (P : Table → Type 0) (cmp : Table → Table → Ordering) (xs ts : List Table) → AllByRecursion P xs → AllByRecursion P ts → AllByRecursion P (put_all_in cmp xs ts)
all-put_all P cmp [] ts more all = all
all-put_all P cmp (x ∷ xs) ts more all = all-put_all P cmp xs (put_in cmp x ts) more.1 (all-put P cmp x ts more.0 all)

added-one : (P : Table → Type 0) (t : Table) (others : List Table) (b : Bool) → (b ≡ true → P t) → AllByRecursion P others → AllByRecursion P (cons_option (cond b (Some t) None) others)
added-one P t others true is all = (is refl, all)
added-one P t others false is all = all

pub added-all : (P : Table → Type 0) (level : ℕ) (adds : List (ℕ × Table)) → AllByRecursion (λ a. eqb a.0 level ≡ true → P a.1) adds → AllByRecursion P (filter_map (λ a. cond (eqb a.0 level) (Some a.1) None) adds)
added-all P level [] all = tt
added-all P level (a ∷ adds) all =
    added-one P a.1 (filter_map (λ x. cond (eqb x.0 level) (Some x.1) None) adds) (eqb a.0 level) all.0 (added-all P level adds all.1)

-- what holds of the tables that stay, and of those that are added to the level
pub level-all : (P : Table → Type 0) (e : Changes) (level : ℕ) (ts : List Table) → AllByRecursion (λ a. eqb a.0 level ≡ true → P a.1) e.added → ((t : Table) → Has ts t → removes e level t ≡ false → P t) → AllByRecursion P (edited_level e level ts)
level-all P e level ts more kept =
    all-put_all P (table_cmp level) (added_to e level) (filter (λ t. not (removes e level t)) ts) (added-all P level e.added more)
    (all-filtered P (λ t. not (removes e level t)) ts (λ t has stays. kept t has (not-true (removes e level t) stays)))

-- ---- all levels

pub levels-all : (P : Table → Type 0) (level : ℕ) (e : Changes) (levels : LevelLists) → AllByRecursion (λ a. P a.1) e.added → AllByRecursion (AllByRecursion P) levels → AllByRecursion (AllByRecursion P) (edited_from level e levels)
levels-all P level e [] more all = tt
levels-all P level e (ts ∷ rest) more all = (
  level-all P e level ts (all-more (λ a. P a.1) (λ a. eqb a.0 level ≡ true → P a.1) e.added (λ a is here. is) more) (λ t has stays. all-has P ts t has all.0),
  levels-all P (suc level) e rest more all.1,
)
