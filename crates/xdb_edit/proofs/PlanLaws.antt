-- A plan takes in all that it meets: its hull doesn't grow any more.
use Rattle.std.proofs.Common.{◌≡◌, ℕ, suc, ◌+◌, ◌<◌, ◌≤◌, ◌⊎◌, Bool, true, false, cond, ltb, List, [], ◌∷◌, ◌++◌, length, Some, None, refl, sym, ap, subst, ◌∙◌, inl, inr, arith}
use Rattle.std.specs.List.{list_all, list_any}
use Rattle.std.proofs.lemmas.Bool.{and_parts, and_from, false≢true}
use Rattle.xdb_key.specs.Bounds.{Bounds, bounds, meets, covers, lesser, greater}
use Rattle.xdb_key.specs.Order.{is_below, is_upto}
use Rattle.xdb_key.proofs.OrderLaws.{upto-itself, upto_trans, upto_antisymm, upto_below, below_upto, lesser_upto_first, lesser_upto_second, upto_lesser, first_upto_greater, second_upto_greater, greater_upto}
use Rattle.xdb_meta.specs.Table.{Table, bounds_of}
use Rattle.xdb_edit.specs.Versions.{LevelLists, tables_of}
use Rattle.xdb_edit.specs.Plans.{Planned, hull_over, meeting, grown, planned, unless_running, plan_from, plan_for}

-- ---- ranges that contain others

abbrev wider : Bounds → Table → Bounds
wider r t = bounds (lesser r.lo t.lo) (greater r.hi t.hi)

covers-itself : (r : Bounds) → covers r r ≡ true
covers-itself r = and_from _ _ (upto-itself r.lo) (upto-itself r.hi)

covers-chain : (r o p : Bounds) → covers r o ≡ true → covers o p ≡ true → covers r p ≡ true
covers-chain r o p h g =
    let a = and_parts (is_upto r.lo o.lo) (is_upto o.hi r.hi) h in
    let b = and_parts (is_upto o.lo p.lo) (is_upto p.hi o.hi) g in
    and_from _ _ (upto_trans r.lo o.lo p.lo a.0 b.0) (upto_trans p.hi o.hi r.hi b.1 a.1)

-- what meets a range meets each one that contains it
meets-wider : (o r x : Bounds) → covers o r ≡ true → meets r x ≡ true → meets o x ≡ true
meets-wider o r x h m =
    let a = and_parts (is_upto o.lo r.lo) (is_upto r.hi o.hi) h in
    let b = and_parts (is_below r.lo x.hi) (is_below x.lo r.hi) m in
    and_from _ _ (upto_below o.lo r.lo x.hi a.0 b.0) (below_upto x.lo r.hi o.hi b.1 a.1)

-- ---- a hull over tables

hull-covers : (r : Bounds) (ts : List Table) → covers (hull_over r ts) r ≡ true
hull-covers r [] = covers-itself r
hull-covers r (t ∷ ts) =
    covers-chain (hull_over (wider r t) ts) (wider r t) r (hull-covers (wider r t) ts) (and_from _ _ (lesser_upto_first r.lo t.lo) (first_upto_greater r.hi t.hi))

all_wider : (o r : Bounds) (ts : List Table) → covers o r ≡ true → list_all (λ t. covers r (bounds_of t)) ts ≡ true → list_all (λ t. covers o (bounds_of t)) ts ≡ true
all_wider o r [] h all = refl
all_wider o r (t ∷ ts) h all =
    let p = and_parts (covers r (bounds_of t)) (list_all (λ t. covers r (bounds_of t)) ts) all in
    and_from _ _ (covers-chain o r (bounds_of t) h p.0) (all_wider o r ts h p.1)

-- it contains each of them
pub hull-covers_all : (r : Bounds) (ts : List Table) → list_all (λ t. covers (hull_over r ts) (bounds_of t)) ts ≡ true
hull-covers_all r [] = refl
hull-covers_all r (t ∷ ts) =
    let one : covers (wider r t) (bounds_of t) ≡ true = and_from _ _ (lesser_upto_second r.lo t.lo) (second_upto_greater r.hi t.hi) in
    and_from _ _ (covers-chain (hull_over (wider r t) ts) (wider r t) (bounds_of t) (hull-covers (wider r t) ts) one) (hull-covers_all (wider r t) ts)

lesser-same : (a b : List ℕ) → is_upto a b ≡ true → lesser a b ≡ a
lesser-same a b h = upto_antisymm (lesser a b) a (lesser_upto_first a b) (upto_lesser a a b (upto-itself a) h)

greater-same : (a b : List ℕ) → is_upto b a ≡ true → greater a b ≡ a
greater-same a b h = upto_antisymm (greater a b) a (greater_upto a a b (upto-itself a) h) (first_upto_greater a b)

-- over tables that it contains it stays
hull-stays : (r : Bounds) (ts : List Table) → list_all (λ t. covers r (bounds_of t)) ts ≡ true → hull_over r ts ≡ r
hull-stays r [] all = refl
hull-stays r (t ∷ ts) all =
    let p = and_parts (covers r (bounds_of t)) (list_all (λ t. covers r (bounds_of t)) ts) all in
    let c = and_parts (is_upto r.lo t.lo) (is_upto t.hi r.hi) p.0 in
    let same : wider r t ≡ r = λ i. bounds (lesser-same r.lo t.lo c.0 i) (greater-same r.hi t.hi c.1 i) in
    ap (λ o. hull_over o ts) same ∙ hull-stays r ts p.1

-- ---- growing

abbrev step : List Table → Bounds → Bounds
step tables h = hull_over h (meeting h tables)

-- a wider range meets more, or the same
meeting-wider : (o r : Bounds) (ts : List Table) → covers o r ≡ true → (length (meeting r ts) < length (meeting o ts)) ⊎ (meeting r ts ≡ meeting o ts)
meeting-wider o r [] h = inr refl
meeting-wider o r (t ∷ ts) h = by_cases (meets r (bounds_of t)) (meets o (bounds_of t)) (meets-wider o r (bounds_of t) h) (meeting-wider o r ts h)
  where
    by_cases : (a b : Bool) → (a ≡ true → b ≡ true) → (length (meeting r ts) < length (meeting o ts)) ⊎ (meeting r ts ≡ meeting o ts)
        → (length (cond a (t ∷ meeting r ts) (meeting r ts)) < length (cond b (t ∷ meeting o ts) (meeting o ts))) ⊎ (cond a (t ∷ meeting r ts) (meeting r ts) ≡ cond b (t ∷ meeting o ts) (meeting o ts))
    by_cases true true w (inl lt) = inl (omega arith)
    by_cases true true w (inr eq) = inr (ap (λ l. t ∷ l) eq)
    by_cases true false w rest = absurd (false≢true (w refl))
    by_cases false true w (inl lt) = inl (omega arith)
    by_cases false true w (inr eq) = let same = ap length eq in inl (omega arith)
    by_cases false false w rest = rest

meeting-few : (h : Bounds) (ts : List Table) → length (meeting h ts) ≤ length ts
meeting-few h [] = omega arith
meeting-few h (t ∷ ts) = by_case (meets h (bounds_of t)) (meeting-few h ts)
  where
    by_case : (b : Bool) → length (meeting h ts) ≤ length ts → length (cond b (t ∷ meeting h ts) (meeting h ts)) ≤ length (t ∷ ts)
    by_case true le = omega arith
    by_case false le = omega arith

grown-stays : (tables fuel : List Table) (h : Bounds) → step tables h ≡ h → grown tables fuel h ≡ h
grown-stays tables [] h same = refl
grown-stays tables (t ∷ fuel) h same = ap (grown tables fuel) same ∙ grown-stays tables fuel h same

-- with as much fuel as there are tables left, the hull grows as far as it can
grown-full : (tables fuel : List Table) (h : Bounds) → length tables < length fuel + length (meeting h tables) → step tables (grown tables fuel h) ≡ grown tables fuel h
grown-full tables [] h room = let few = meeting-few h tables in absurd (omega arith)
grown-full tables (t ∷ fuel) h room = elim (meeting-wider (step tables h) h tables (hull-covers h (meeting h tables))) [
  | inl more ↦ grown-full tables fuel (step tables h) (omega arith)
  | inr same ↦
      let covered = hull-covers_all h (meeting h tables) in
      let still : step tables (step tables h) ≡ step tables h = ap (hull_over (step tables h)) (sym same) ∙ hull-stays (step tables h) (meeting h tables) covered in
      let end = grown-stays tables fuel (step tables h) still in
      ap (step tables) end ∙ still ∙ sym end
]

pub grown-is_full : (tables : List Table) (h : Bounds) → step tables (grown tables tables h) ≡ grown tables tables h
grown-is_full tables h = by_count (meeting h tables) refl
  where
    by_count : (ts : List Table) → meeting h tables ≡ ts → step tables (grown tables tables h) ≡ grown tables tables h
    by_count [] none =
        let same : step tables h ≡ h = ap (hull_over h) none in
        let end = grown-stays tables tables h same in
        ap (step tables) end ∙ same ∙ sym end
    by_count (t ∷ ts) some = let count = ap length some in grown-full tables tables h (omega arith)

-- ---- plans

unless_running-tells : (running : List Bounds) (p q : Planned) → unless_running running p ≡ Some q → p ≡ q
unless_running-tells running p q h = by_test (list_any (meets p.hull) running) h
  where
    by_test : (b : Bool) → cond b None (Some p) ≡ Some q → p ≡ q
    by_test true e = absurd cc
    by_test false e = cc

abbrev IsFull : LevelLists → Planned → Type 0
IsFull levels p = list_all (λ t. covers p.hull (bounds_of t)) (meeting p.hull (tables_of levels p.level ++ tables_of levels (suc p.level))) ≡ true

from_full : (levels : LevelLists) (running : List Bounds) (level : ℕ) (ts : List Table) (p : Planned) → plan_from levels running level ts ≡ Some p → IsFull levels p
from_full levels running level [] p h = absurd cc
from_full levels running level (t ∷ ts) p h =
    let tables = tables_of levels level ++ tables_of levels (suc level) in
    let hull = grown tables tables (hull_over (bounds_of t) ts) in
    let is = unless_running-tells running (planned levels level hull) p h in
    let full : IsFull levels (planned levels level hull) =
    subst (λ o. list_all (λ u. covers o (bounds_of u)) (meeting hull tables) ≡ true) (grown-is_full tables (hull_over (bounds_of t) ts)) (hull-covers_all hull (meeting hull tables)) in
    subst (IsFull levels) is full

pub plan_for-full : (levels : LevelLists) (running : List Bounds) (level : ℕ) (range : Bounds) (p : Planned) → plan_for levels running level range ≡ Some p → IsFull levels p
plan_for-full levels running level range p h = by_level (ltb 5 level) h
  where
    by_level : (b : Bool) → cond b None (plan_from levels running level (meeting range (tables_of levels level))) ≡ Some p → IsFull levels p
    by_level true e = absurd cc
    by_level false e = from_full levels running level (meeting range (tables_of levels level)) p e
