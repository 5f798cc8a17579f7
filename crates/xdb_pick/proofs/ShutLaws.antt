-- Plans by their hulls, and tables for which there is none.
use Rattle.std.proofs.Common.{◌≡◌, ◌<◌, ℕ, suc, Bool, true, false, not, ◌||◌, ltb, List, [], ◌∷◌, ◌++◌, Option, Some, None, refl, sym, ap, ◌∙◌, subst, inl, inr, arith}
use Rattle.std.specs.List.{list_any, AllByRecursion}
use Rattle.std.specs.Option.{option_map}
use Rattle.std.proofs.lemmas.Bool.{and_parts, and_from, cases_Bool, or_cases, cond-true, cond-false, le-ltb, false≢true}
use Rattle.std.proofs.lemmas.List.Folds.{list_all-append}
use Rattle.xdb_key.specs.Bounds.{Bounds, meets, covers}
use Rattle.xdb_key.specs.Order.{is_below, is_upto}
use Rattle.xdb_key.proofs.OrderLaws.{meets-symmetric, upto_below, below_upto}
use Rattle.xdb_meta.specs.Table.{Table, bounds_of}
use Rattle.xdb_edit.specs.Plans.{Planned, hull_over, meeting, grown, planned, unless_running, plan_from, plan_for}
use Rattle.xdb_edit.specs.Versions.{LevelLists, tables_of}
use Rattle.xdb_edit.proofs.PlanLaws.{hull-covers_all}
use Rattle.xdb_pick.specs.Hulls.{both, hull_of, plan_hull}
use Rattle.xdb_pick.specs.Trying.{takes_whole, is_full, IsTableOf, IsShut, AreShut}
use Rattle.xdb_pick.proofs.RangeLaws.{all_each, all_push, all_from_test, all_to_test, all_where_passing, covers-chain, covers-wider, meets-wider, meets-over, never_below, off-apart, implied, implies, whole_tells}
use Rattle.xdb_pick.proofs.GrowthLaws.{FullOver, full_each, full_test, hull_over-covers, grown-covers, grown-full, plan-all, within-spreads, before-join, before-spreads, behind-join, behind-spreads}

-- ---- plans by their hulls

abbrev plan_over : LevelLists → List Bounds → ℕ → Option Bounds → Option Planned
plan_over levels running level None = None
plan_over levels running level (Some h) = unless_running running (planned levels level h)

plan_from-over : (levels : LevelLists) (running : List Bounds) (level : ℕ) (ts : List Table) → plan_from levels running level ts ≡ plan_over levels running level (option_map (grown (both levels level) (both levels level)) (hull_of ts))
plan_from-over levels running level [] = refl
plan_from-over levels running level (t ∷ ts) = refl

plan_for-over : (levels : LevelLists) (running : List Bounds) (level : ℕ) (range : Bounds) → level < 6 → plan_for levels running level range ≡ plan_over levels running level (plan_hull levels level range)
plan_for-over levels running level range high =
    cond-false (ltb 5 level) None (plan_from levels running level (meeting range (tables_of levels level))) (le-ltb 5 level (omega arith))
    ∙ plan_from-over levels running level (meeting range (tables_of levels level))

pub plan-none : (levels : LevelLists) (running : List Bounds) (level : ℕ) (range : Bounds) → level < 6 → plan_hull levels level range ≡ None → plan_for levels running level range ≡ None
plan-none levels running level range high none = plan_for-over levels running level range high ∙ ap (plan_over levels running level) none

pub plan-met : (levels : LevelLists) (running : List Bounds) (level : ℕ) (range h : Bounds) → level < 6 → plan_hull levels level range ≡ Some h → list_any (meets h) running ≡ true → plan_for levels running level range ≡ None
plan-met levels running level range h high is met =
    plan_for-over levels running level range high ∙ ap (plan_over levels running level) is ∙ cond-true (list_any (meets h) running) None (Some (planned levels level h)) met

-- ---- the hull of the plan for a table

first-covers : (ts : List Table) (h : Bounds) → hull_of ts ≡ Some h → AllByRecursion (λ t. covers h (bounds_of t) ≡ true) ts
first-covers [] h e = absurd cc
first-covers (t ∷ ts) h e =
    let is : hull_over (bounds_of t) ts ≡ h = cc in
    subst (λ o. AllByRecursion (λ u. covers o (bounds_of u) ≡ true) (t ∷ ts)) is
    (hull_over-covers (bounds_of t) ts, all_from_test (λ u. covers (hull_over (bounds_of t) ts) (bounds_of u)) ts (hull-covers_all (bounds_of t) ts))

-- the parts of the hull of a plan
record Begun (levels : LevelLists) (level : ℕ) (range h : Bounds) : Type 0 where
  first : Bounds
  over : hull_of (meeting range (tables_of levels level)) ≡ Some first
  same : grown (both levels level) (both levels level) first ≡ h

begun : (levels : LevelLists) (level : ℕ) (range h : Bounds) → plan_hull levels level range ≡ Some h → Begun levels level range h
begun levels level range h e = by_first (hull_of (meeting range (tables_of levels level))) refl e
  where
    by_first : (o : Option Bounds) → hull_of (meeting range (tables_of levels level)) ≡ o → option_map (grown (both levels level) (both levels level)) o ≡ Some h → Begun levels level range h
    by_first None is e' = absurd cc
    by_first (Some first') is e' = record { first = first'; over = is; same = cc }

-- it contains the table
hull-has : (levels : LevelLists) (level : ℕ) (t : Table) (h : Bounds) → IsTableOf levels level t → is_below t.lo t.hi ≡ true → plan_hull levels level (bounds_of t) ≡ Some h → covers h (bounds_of t) ≡ true
hull-has levels level t h member range e =
    let b = begun levels level (bounds_of t) h e in
    let ts = tables_of levels level in
    let first = b.first in
    let each = all_where_passing (λ u. covers first (bounds_of u) ≡ true) (λ u. meets (bounds_of t) (bounds_of u)) ts (first-covers (meeting (bounds_of t) ts) first b.over) in
    let test = member (λ u. not (meets (bounds_of t) (bounds_of u)) || covers first (bounds_of u))
    (all_to_test (λ u. not (meets (bounds_of t) (bounds_of u)) || covers first (bounds_of u)) ts (all_each (λ u. implies (meets (bounds_of t) (bounds_of u)) (covers first (bounds_of u))) ts each)) in
    let inside : covers first (bounds_of t) ≡ true = implied (meets (bounds_of t) (bounds_of t)) (covers first (bounds_of t)) test (and_from _ _ range range) in
    covers-chain h first (bounds_of t) (subst (λ o. covers o first ≡ true) b.same (grown-covers (both levels level) (both levels level) first)) inside

-- and is full
hull-full : (levels : LevelLists) (level : ℕ) (range h : Bounds) → plan_hull levels level range ≡ Some h → FullOver h (both levels level)
hull-full levels level range h e =
    let b = begun levels level range h e in
    subst (λ o. FullOver o (both levels level)) b.same (grown-full (both levels level) b.first)

has_key : (h b : Bounds) → is_below b.lo b.hi ≡ true → covers h b ≡ true → is_below h.lo h.hi ≡ true
has_key h b range c =
    let parts = and_parts (is_upto h.lo b.lo) (is_upto b.hi h.hi) c in
    upto_below h.lo b.lo h.hi parts.0 (below_upto b.lo b.hi h.hi range parts.1)

any_wider : (o r : Bounds) (xs : List Bounds) → covers o r ≡ true → list_any (meets r) xs ≡ true → list_any (meets o) xs ≡ true
any_wider o r [] c h = absurd (false≢true h)
any_wider o r (x ∷ xs) c h = elim (or_cases (meets r x) (list_any (meets r) xs) h) [
  | inl here ↦ ap (λ b. b || list_any (meets o) xs) (meets-wider o r x c here)
  | inr there ↦ or_second (meets o x) (list_any (meets o) xs) (any_wider o r xs c there)
]
  where
    or_second : (a b : Bool) → b ≡ true → (a || b) ≡ true
    or_second true b e = refl
    or_second false b e = e

-- ---- no plan for a table that a running compaction meets

pub table-met : (levels : LevelLists) (running : List Bounds) (level : ℕ) (t : Table) → level < 6 → IsTableOf levels level t → is_below t.lo t.hi ≡ true → list_any (meets (bounds_of t)) running ≡ true → plan_for levels running level (bounds_of t) ≡ None
table-met levels running level t high member range met = by_hull (plan_hull levels level (bounds_of t)) refl
  where
    by_hull : (o : Option Bounds) → plan_hull levels level (bounds_of t) ≡ o → plan_for levels running level (bounds_of t) ≡ None
    by_hull None e = plan-none levels running level (bounds_of t) high e
    by_hull (Some h) e = plan-met levels running level (bounds_of t) h high e (any_wider h (bounds_of t) running (hull-has levels level t h member range e) met)

-- ---- nor for one in a hull that a running compaction meets

full_at : (c : Bounds) (levels : LevelLists) (level : ℕ) (t : Table) → IsTableOf levels level t → is_full c (both levels level) ≡ true → takes_whole c (bounds_of t) ≡ true
full_at c levels level t member full =
    member (λ u. takes_whole c (bounds_of u)) (and_parts (is_full c (tables_of levels level)) (is_full c (tables_of levels (suc level)))
    (sym (list_all-append (λ u. takes_whole c (bounds_of u)) (tables_of levels level) (tables_of levels (suc level))) ∙ full)).0

shut-one : (levels : LevelLists) (running : List Bounds) (level : ℕ) (t : Table) (f h : Bounds) → level < 6 → IsTableOf levels level t → is_below t.lo t.hi ≡ true → IsShut levels running level f → meets (bounds_of t) f ≡ true → plan_hull levels level (bounds_of t) ≡ Some h → plan_for levels running level (bounds_of t) ≡ None
shut-one levels running level t f h high member range shut met e =
    let b = bounds_of t in
    let has = hull-has levels level t h member range e in
    let inside : covers f b ≡ true = whole_tells f b (full_at f levels level t member shut.full) (meets-symmetric f b ∙ met) in
    let all = shut.whole h (has_key h b range has) (full_test h (both levels level) (hull-full levels level b h e)) (meets-over h f b range has inside) in
    plan-met levels running level b h high e (any_wider h f running all shut.met)

pub table-shut : (levels : LevelLists) (running : List Bounds) (level : ℕ) (t : Table) (fs : List Bounds) → level < 6 → IsTableOf levels level t → is_below t.lo t.hi ≡ true → AreShut levels running level fs → list_any (meets (bounds_of t)) fs ≡ true → plan_for levels running level (bounds_of t) ≡ None
table-shut levels running level t [] high member range shut met = absurd (false≢true met)
table-shut levels running level t (f ∷ fs) high member range shut met = elim (or_cases (meets (bounds_of t) f) (list_any (meets (bounds_of t)) fs) met) [
  | inl here ↦ by_hull (plan_hull levels level (bounds_of t)) refl here
  | inr there ↦ table-shut levels running level t fs high member range shut.1 there
]
  where
    by_hull : (o : Option Bounds) → plan_hull levels level (bounds_of t) ≡ o → meets (bounds_of t) f ≡ true → plan_for levels running level (bounds_of t) ≡ None
    by_hull None e here = plan-none levels running level (bounds_of t) high e
    by_hull (Some h) e here = shut-one levels running level t f h high member range shut.0 here e

-- ---- a hull that is found in vain is shut

hull-whole : (levels : LevelLists) (level : ℕ) (t : Table) (h c : Bounds) → IsTableOf levels level t → plan_hull levels level (bounds_of t) ≡ Some h → is_below c.lo c.hi ≡ true → is_full c (both levels level) ≡ true → meets c h ≡ true → covers c h ≡ true
hull-whole levels level t h c member e range full met =
    let b = bounds_of t in
    let each = full_each c (both levels level) full in
    let m = and_parts (is_below c.lo h.hi) (is_below h.lo c.hi) met in
    elim (cases_Bool (meets c b)) [
      | inl on ↦ plan-all (λ o. covers c o ≡ true) (covers-wider c) c (within-spreads c) levels level b h e each (whole_tells c b (full_at c levels level t member full) on)
      | inr off ↦ elim (off-apart c b off) [
        | inl before ↦ absurd (never_below c.lo h.hi m.0 (plan-all (λ o. is_upto o.hi c.lo ≡ true) (before-join c.lo) c (before-spreads c range) levels level b h e each before))
        | inr behind ↦ absurd (never_below h.lo c.hi m.1 (plan-all (λ o. is_upto c.hi o.lo ≡ true) (behind-join c.hi) c (behind-spreads c range) levels level b h e each behind))
      ]
    ]

pub hull-shut : (levels : LevelLists) (running : List Bounds) (level : ℕ) (t : Table) (h : Bounds) → IsTableOf levels level t → plan_hull levels level (bounds_of t) ≡ Some h → list_any (meets h) running ≡ true → IsShut levels running level h
hull-shut levels running level t h member e met = record {
  met = met;
  full = full_test h (both levels level) (hull-full levels level (bounds_of t) h e);
  whole = λ c range full m. hull-whole levels level t h c member e range full m;
}

pub shut-pushed : (levels : LevelLists) (running : List Bounds) (level : ℕ) (fs : List Bounds) (h : Bounds) → AreShut levels running level fs → IsShut levels running level h → AreShut levels running level (fs ++ h ∷ [])
shut-pushed levels running level fs h shut one = all_push (IsShut levels running level) fs h shut one
