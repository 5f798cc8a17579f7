-- Ranges that don't meet, and what holds of each two tables of a level after an edit.
use Rattle.std.proofs.Common.{◌≡◌, ℕ, zero, suc, ◌+◌, Bool, true, false, cond, not, eqb, List, [], ◌∷◌, filter, Some, None, refl, sym, subst, ◌∙◌, inl, inr, arith}
use Rattle.std.proofs.lemmas.Bool.{false≢true, and_parts, and_from, not-true, cases_Bool}
use Rattle.std.specs.List.{AllByRecursion, filter_map, cons_option}
use Rattle.std.specs.declared.cmp.Ordering.{Ordering}
use Rattle.std.specs.Ordering.{is_lt}
use Rattle.xdb_rangedel.specs.Members.{Has}
use Rattle.xdb_key.specs.Bounds.{Bounds, meets, covers}
use Rattle.xdb_key.specs.Order.{is_below, is_upto}
use Rattle.xdb_key.proofs.OrderLaws.{upto_below, below_upto, meets-symmetric}
use Rattle.xdb_meta.specs.Table.{Table, bounds_of}
use Rattle.xdb_edit.specs.Changes.{Changes}
use Rattle.xdb_edit.specs.Versions.{LevelLists, tables_of, table_cmp, put_in, put_all_in, removes, added_to, edited_level, edited_from}
use Rattle.xdb_model.proofs.ListLaws.{all-both, all-filtered, all-more, pairs-filtered}
use Rattle.xdb_model.proofs.EditedLaws.{all-put, added-all}
use Rattle.xdb_model.specs.Apart.{Pairwise, IsOff}

-- ---- ranges that don't meet

pub off-turned : (r o : Bounds) → IsOff r o → IsOff o r
off-turned r o off = meets-symmetric o r ∙ off

pub meets-wider : (o r x : Bounds) → covers o r ≡ true → meets r x ≡ true → meets o x ≡ true
meets-wider o r x inside met =
    let ends = and_parts (is_upto o.lo r.lo) (is_upto r.hi o.hi) inside in
    let both = and_parts (is_below r.lo x.hi) (is_below x.lo r.hi) met in
    and_from _ _ (upto_below o.lo r.lo x.hi ends.0 both.0) (below_upto x.lo r.hi o.hi both.1 ends.1)

pub meets-outer : (o r x : Bounds) → covers o r ≡ true → meets x r ≡ true → meets x o ≡ true
meets-outer o r x inside met = meets-symmetric x o ∙ meets-wider o r x inside (meets-symmetric r x ∙ met)

-- what lies in one of them meets no part of the other
pub off-within : (o r x : Bounds) → covers o r ≡ true → IsOff o x → IsOff r x
off-within o r x inside off = elim (cases_Bool (meets r x)) [
  | inl met ↦ absurd (false≢true (sym off ∙ meets-wider o r x inside met))
  | inr is ↦ is
]

-- ---- a level after an edit

abbrev pub OffTable : Table → Table → Type 0
OffTable t u = IsOff (bounds_of t) (bounds_of u)

pub off_table-turned : (t u : Table) → OffTable t u → OffTable u t
off_table-turned t u off = off-turned (bounds_of t) (bounds_of u) off

-- what holds of two tables where both are added to the level
abbrev pub EachAt : (Table → Table → Type 0) → ℕ → ℕ × Table → ℕ × Table → Type 0
EachAt R level a b = eqb a.0 level ≡ true → eqb b.0 level ≡ true → R a.1 b.1

abbrev pub AtLevel : ℕ → ℕ × Table → ℕ × Table → Type 0
AtLevel level a b = EachAt OffTable level a b

pub at_level-turned : (level : ℕ) (a b : ℕ × Table) → AtLevel level a b → AtLevel level b a
at_level-turned level a b off = λ hb ha. off_table-turned a.1 b.1 (off ha hb)

-- what an edit brings to a level is so with itself and with what stays there
pub record FitsBeside (R : Table → Table → Type 0) (e : Changes) (level : ℕ) (ts : List Table) : Type 0 where
  pub pairs : Pairwise (EachAt R level) e.added
  pub across : AllByRecursion (λ a. eqb a.0 level ≡ true → (t : Table) → Has ts t → removes e level t ≡ false → R a.1 t) e.added

abbrev pub FitsIn : Changes → ℕ → List Table → Type 0
FitsIn e level ts = FitsBeside OffTable e level ts

module _ (R : Table → Table → Type 0) (turned : (t u : Table) → R t u → R u t) where
  added-one : (a : Table) (others : List Table) (b : Bool) → (b ≡ true → AllByRecursion (R a) others) → Pairwise R others → Pairwise R (cons_option (cond b (Some a) None) others)
  added-one a others true all pairs = (all refl, pairs)
  added-one a others false all pairs = pairs

  added-pairs : (level : ℕ) (adds : List (ℕ × Table)) → Pairwise (EachAt R level) adds → Pairwise R (filter_map (λ a. cond (eqb a.0 level) (Some a.1) None) adds)
  added-pairs level [] pairs = tt
  added-pairs level (a ∷ adds) pairs =
      let others = filter_map (λ x. cond (eqb x.0 level) (Some x.1) None) adds in
      added-one a.1 others (eqb a.0 level) (λ here. added-all (R a.1) level adds (all-more (EachAt R level a) _ adds (λ b both there. both here there) pairs.0)) (added-pairs level adds pairs.1)

  put-either : (cmp : Table → Table → Ordering) (x t : Table) (ts : List Table) (b : Bool) → Pairwise R (t ∷ put_in cmp x ts) → Pairwise R (x ∷ t ∷ ts) → Pairwise R (cond b (t ∷ put_in cmp x ts) (x ∷ t ∷ ts))
  put-either cmp x t ts true behind front = behind
  put-either cmp x t ts false behind front = front

  put-pairs : (cmp : Table → Table → Ordering) (x : Table) (ts : List Table) → AllByRecursion (R x) ts → Pairwise R ts → Pairwise R (put_in cmp x ts)
  put-pairs cmp x [] all pairs = (tt, tt)
  put-pairs cmp x (t ∷ ts) all pairs =
      put-either cmp x t ts (is_lt (cmp t x)) (all-put (R t) cmp x ts (turned x t all.0) pairs.0, put-pairs cmp x ts all.1 pairs.1) (all, pairs)

  put_all-pairs : (cmp : Table → Table → Ordering) (xs ts : List Table) → Pairwise R xs → Pairwise R ts → AllByRecursion (λ x. AllByRecursion (R x) ts) xs → Pairwise R (put_all_in cmp xs ts)
  put_all-pairs cmp [] ts more pairs across = pairs
  put_all-pairs cmp (x ∷ xs) ts more pairs across =
      put_all-pairs cmp xs (put_in cmp x ts) more.1 (put-pairs cmp x ts across.0 pairs)
      (all-both (R x) (λ y. AllByRecursion (R y) ts) (λ y. AllByRecursion (R y) (put_in cmp x ts)) xs (λ y one all. all-put (R y) cmp x ts (turned x y one) all) more.0 across.1)

  pub level-pairs : (e : Changes) (level : ℕ) (ts : List Table) → FitsBeside R e level ts → Pairwise R ts → Pairwise R (edited_level e level ts)
  level-pairs e level ts fits pairs =
      let stays : List Table = filter (λ t. not (removes e level t)) ts in
      put_all-pairs (table_cmp level) (added_to e level) stays (added-pairs level e.added fits.pairs) (pairs-filtered R (λ t. not (removes e level t)) ts pairs)
      (added-all (λ x. AllByRecursion (R x) stays) level e.added
      (all-more _ (λ a. eqb a.0 level ≡ true → AllByRecursion (R a.1) stays) e.added (λ a one here. all-filtered (R a.1) (λ t. not (removes e level t)) ts (λ t has left. one here t has (not-true (removes e level t) left))) fits.across))

-- ---- the levels after an edit

pub edited-at : (P : List Table → Type 0) (e : Changes) (levels : LevelLists) (base j i : ℕ) → i ≡ base + j → P [] → P (edited_level e i (tables_of levels j)) → P (tables_of (edited_from base e levels) j)
edited-at P e [] base j i is none some = none
edited-at P e (ts ∷ levels) base zero i is none some = let same : i ≡ base = omega arith in subst (λ k. P (edited_level e k ts)) same some
edited-at P e (ts ∷ levels) base (suc j) i is none some = edited-at P e levels (suc base) j i (omega arith) none some
