-- The hull of a plan: the passes by start find it, and what full ranges tell of it.
use Rattle.std.proofs.Common.{◌≡◌, ℕ, suc, Bool, true, List, [], ◌∷◌, reverse, map, Option, Some, None, refl, sym, ◌∙◌, subst, inl, inr}
use Rattle.std.specs.List.{list_all, AllByRecursion}
use Rattle.std.specs.List.Sorted.{IsPermutation}
use Rattle.std.specs.Option.{option_map}
use Rattle.std.proofs.lemmas.Bool.{and_parts, and_from, cases_Bool}
use Rattle.std.proofs.lemmas.List.Folds.{list_all-map}
use Rattle.std.proofs.lemmas.List.Sums.{AllPass-from_list_all, list_all-from_AllPass}
use Rattle.std.proofs.lemmas.List.Sorted.{All-permutation, IsPermutation-sym}
use Rattle.xdb_key.specs.Bounds.{Bounds, meets, covers, lesser, greater}
use Rattle.xdb_key.specs.Order.{is_below, is_upto}
use Rattle.xdb_key.proofs.OrderLaws.{upto_below, below_upto, below_trans, upto_lesser, greater_upto}
use Rattle.xdb_meta.specs.Table.{Table, bounds_of}
use Rattle.xdb_lists.specs.Sorted.{is_sorted}
use Rattle.xdb_edit.specs.Plans.{hull_over, meeting, grown}
use Rattle.xdb_edit.specs.Versions.{LevelLists, tables_of}
use Rattle.xdb_edit.proofs.PlanLaws.{hull-covers_all, grown-is_full}
use Rattle.xdb_pick.specs.Hulls.{both, hull_of, plan_hull, wider, swept, start_cmp}
use Rattle.xdb_pick.specs.Trying.{takes_whole, is_full}
use Rattle.xdb_pick.proofs.RangeLaws.{all_each, all_front, all_from_test, all_to_test, all_passing, all_where_passing, covers-itself, covers-chain, covers-one, meets-wider, wider-first, covers-wider, upto_from, never_below, whole_tells, whole_where}
use Rattle.xdb_pick.proofs.SweepLaws.{Whole, swept_twice-whole, swept_twice-covers, swept_twice-within}

-- ---- full ranges, by their tables

abbrev pub FullOver : Bounds → List Table → Type 0
FullOver c ts = AllByRecursion (λ t. Whole c (bounds_of t)) ts

pub full_each : (c : Bounds) (ts : List Table) → is_full c ts ≡ true → FullOver c ts
full_each c ts full = all_each (λ t. whole_tells c (bounds_of t)) ts (all_from_test (λ t. takes_whole c (bounds_of t)) ts full)

pub full_test : (c : Bounds) (ts : List Table) → FullOver c ts → is_full c ts ≡ true
full_test c ts full = all_to_test (λ t. takes_whole c (bounds_of t)) ts (all_each (λ t. whole_where c (bounds_of t)) ts full)

-- the tables' bounds in another order
all_moved : {X : Type 0} (p : X → Bool) (xs ys : List X) → IsPermutation xs ys → list_all p xs ≡ true → list_all p ys ≡ true
all_moved p xs ys moved h = list_all-from_AllPass p ys (All-permutation (λ x. p x ≡ true) xs ys moved (AllPass-from_list_all p xs h))

full_moved : (c : Bounds) (ts : List Table) (rs : List Bounds) → IsPermutation (map bounds_of ts) rs → is_full c ts ≡ true → AllByRecursion (Whole c) rs
full_moved c ts rs moved full =
    all_each (whole_tells c) rs (all_from_test (takes_whole c) rs (all_moved (takes_whole c) (map bounds_of ts) rs moved (list_all-map (takes_whole c) bounds_of ts ∙ full)))

full_back : (c : Bounds) (ts : List Table) (rs : List Bounds) → IsPermutation (map bounds_of ts) rs → AllByRecursion (Whole c) rs → is_full c ts ≡ true
full_back c ts rs moved all =
    sym (list_all-map (takes_whole c) bounds_of ts)
    ∙ all_moved (takes_whole c) rs (map bounds_of ts) (IsPermutation-sym (map bounds_of ts) rs moved) (all_to_test (takes_whole c) rs (all_each (whole_where c) rs all))

-- ---- what growing keeps

hull_over-keeps : (P : Bounds → Type 0) → ((r o : Bounds) → P r → P o → P (wider r o)) → (r : Bounds) (ts : List Table) → P r → AllByRecursion (λ t. P (bounds_of t)) ts → P (hull_over r ts)
hull_over-keeps P join r [] p all = p
hull_over-keeps P join r (t ∷ ts) p all = hull_over-keeps P join (wider r (bounds_of t)) ts (join r (bounds_of t) p all.0) all.1

grown-keeps : (P : Bounds → Type 0) (tables : List Table) → ((o : Bounds) → P o → P (hull_over o (meeting o tables))) → (fuel : List Table) (h : Bounds) → P h → P (grown tables fuel h)
grown-keeps P tables next [] h p = p
grown-keeps P tables next (t ∷ fuel) h p = grown-keeps P tables next fuel (hull_over h (meeting h tables)) (next h p)

-- what holds of a range and of what each range of which it holds meets, holds of what grows
module _ (P : Bounds → Type 0) (join : (r o : Bounds) → P r → P o → P (wider r o)) (c : Bounds) (spreads : (o r : Bounds) → P o → meets o r ≡ true → Whole c r → P r) where
  met-all : (o : Bounds) (ts : List Table) → P o → FullOver c ts → AllByRecursion (λ t. P (bounds_of t)) (meeting o ts)
  met-all o ts p full = all_passing (λ t. P (bounds_of t)) (λ t. meets o (bounds_of t)) ts (all_each (λ t whole m. spreads o (bounds_of t) p m whole) ts full)

  pub grown-all : (tables fuel : List Table) (h : Bounds) → FullOver c tables → P h → P (grown tables fuel h)
  grown-all tables fuel h full p = grown-keeps P tables (λ o q. hull_over-keeps P join o (meeting o tables) q (met-all o tables q full)) fuel h p

  first-all : (ts : List Table) (h : Bounds) → hull_of ts ≡ Some h → AllByRecursion (λ t. P (bounds_of t)) ts → P h
  first-all [] h e all = absurd cc
  first-all (t ∷ ts) h e all =
      let is : hull_over (bounds_of t) ts ≡ h = cc in
      subst P is (hull_over-keeps P join (bounds_of t) ts all.0 all.1)

  -- of the plan for a range
  pub plan-all : (levels : LevelLists) (level : ℕ) (range h : Bounds) → plan_hull levels level range ≡ Some h → FullOver c (both levels level) → P range → P h
  plan-all levels level range h e full p = by_first (hull_of (meeting range (tables_of levels level))) refl e
    where
      by_first : (o : Option Bounds) → hull_of (meeting range (tables_of levels level)) ≡ o → option_map (grown (both levels level) (both levels level)) o ≡ Some h → P h
      by_first None is e' = absurd cc
      by_first (Some first) is e' =
          let same : grown (both levels level) (both levels level) first ≡ h = cc in
          subst P same (grown-all (both levels level) (both levels level) first full (first-all (meeting range (tables_of levels level)) first is (met-all range (tables_of levels level) p (all_front (λ t. Whole c (bounds_of t)) (tables_of levels level) (tables_of levels (suc level)) full))))

-- ---- within a full range, before it and behind it

pub within-spreads : (c o r : Bounds) → covers c o ≡ true → meets o r ≡ true → Whole c r → covers c r ≡ true
within-spreads c o r p m whole = whole (meets-wider c o r p m)

pub before-join : (at : List ℕ) (r o : Bounds) → is_upto r.hi at ≡ true → is_upto o.hi at ≡ true → is_upto (greater r.hi o.hi) at ≡ true
before-join at r o p q = greater_upto at r.hi o.hi p q

pub before-spreads : (c : Bounds) → is_below c.lo c.hi ≡ true → (o r : Bounds) → is_upto o.hi c.lo ≡ true → meets o r ≡ true → Whole c r → is_upto r.hi c.lo ≡ true
before-spreads c range o r p m whole =
    let parts = and_parts (is_below o.lo r.hi) (is_below r.lo o.hi) m in
    let low : is_below r.lo c.lo ≡ true = below_upto r.lo o.hi c.lo parts.1 p in
    elim (cases_Bool (is_below c.lo r.hi)) [
      | inr off ↦ upto_from c.lo r.hi off
      | inl over ↦ absurd (never_below r.lo c.lo low (and_parts (is_upto c.lo r.lo) (is_upto r.hi c.hi) (whole (and_from _ _ over (below_trans r.lo c.lo c.hi low range)))).0)
    ]

pub behind-join : (at : List ℕ) (r o : Bounds) → is_upto at r.lo ≡ true → is_upto at o.lo ≡ true → is_upto at (lesser r.lo o.lo) ≡ true
behind-join at r o p q = upto_lesser at r.lo o.lo p q

pub behind-spreads : (c : Bounds) → is_below c.lo c.hi ≡ true → (o r : Bounds) → is_upto c.hi o.lo ≡ true → meets o r ≡ true → Whole c r → is_upto c.hi r.lo ≡ true
behind-spreads c range o r p m whole =
    let parts = and_parts (is_below o.lo r.hi) (is_below r.lo o.hi) m in
    let high : is_below c.hi r.hi ≡ true = upto_below c.hi o.lo r.hi p parts.0 in
    elim (cases_Bool (is_below r.lo c.hi)) [
      | inr off ↦ upto_from r.lo c.hi off
      | inl under ↦ absurd (never_below c.hi r.hi high (and_parts (is_upto c.lo r.lo) (is_upto r.hi c.hi) (whole (and_from _ _ (below_trans c.lo c.hi r.hi range high) under))).1)
    ]

-- ---- the passes by start give the hull

pub hull_over-covers : (r : Bounds) (ts : List Table) → covers (hull_over r ts) r ≡ true
hull_over-covers r [] = covers-itself r
hull_over-covers r (t ∷ ts) = covers-chain (hull_over (wider r (bounds_of t)) ts) (wider r (bounds_of t)) r (hull_over-covers (wider r (bounds_of t)) ts) (wider-first r (bounds_of t))

pub grown-covers : (tables fuel : List Table) (h : Bounds) → covers (grown tables fuel h) h ≡ true
grown-covers tables fuel h =
    grown-keeps (λ o. covers o h ≡ true) tables (λ o p. covers-chain (hull_over o (meeting o tables)) o h (hull_over-covers o (meeting o tables)) p) fuel h (covers-itself h)

-- it has whole each table that it meets
pub grown-full : (tables : List Table) (h : Bounds) → FullOver (grown tables tables h) tables
grown-full tables h =
    let o = grown tables tables h in
    all_where_passing (λ t. covers o (bounds_of t) ≡ true) (λ t. meets o (bounds_of t)) tables
    (subst (λ p. AllByRecursion (λ t. covers p (bounds_of t) ≡ true) (meeting o tables)) (grown-is_full tables h)
    (all_from_test (λ t. covers (hull_over o (meeting o tables)) (bounds_of t)) (meeting o tables) (hull-covers_all o (meeting o tables))))

pub swept-grown : (tables : List Table) (rs : List Bounds) (h : Bounds) → IsPermutation (map bounds_of tables) rs → is_sorted start_cmp rs ≡ true → is_below h.lo h.hi ≡ true → swept (swept h rs) (reverse rs) ≡ grown tables tables h
swept-grown tables rs h moved sorted range =
    let s = swept (swept h rs) (reverse rs) in
    let g = grown tables tables h in
    let s-full : FullOver s tables = full_each s tables (full_back s tables rs moved (swept_twice-whole h rs range sorted)) in
    covers-one s g
    (grown-all (λ o. covers s o ≡ true) (covers-wider s) s (within-spreads s) tables tables h s-full (swept_twice-covers h rs))
    (swept_twice-within g h rs (full_moved g tables rs moved (full_test g tables (grown-full tables h))) (grown-covers tables tables h))
