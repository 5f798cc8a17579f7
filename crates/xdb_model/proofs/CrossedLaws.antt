-- What a span crosses is removed, and the halves that stay are apart.
use Rattle.std.proofs.Common.{◌≡◌, ℕ, zero, suc, ◌+◌, ◌<◌, ◌≤◌, Bool, true, false, cond, eqb, ◌&&◌, List, [], ◌∷◌, ◌++◌, length, map, filter, Some, refl, sym, ap, subst, ◌∙◌, inl, inr, ◌⊎◌, arith, Option, None}
use Rattle.std.proofs.lemmas.Bool.{false≢true, and_parts, and_from, or_left, or_right, or_cases, not-true, cases_Bool, eqb-true, eq-eqb}
use Rattle.std.specs.List.{list_any, AllByRecursion, flat_map, enumerate_from}
use Rattle.std.specs.declared.cmp.Ordering.{Ordering}
use Rattle.std.specs.Ordering.{is_lt}
use Rattle.xdb_rangedel.specs.Members.{Has}
use Rattle.xdb_key.specs.Bounds.{Bounds, meets}
use Rattle.xdb_key.specs.Order.{is_below, is_upto}
use Rattle.xdb_key.proofs.OrderLaws.{upto-not_below, upto_from_below, upto_trans}
use Rattle.xdb_meta.specs.Table.{Table, bounds_of}
use Rattle.xdb_edit.specs.Plans.{meeting, inputs_at, by_num, num_cmp}
use Rattle.xdb_edit.specs.Versions.{LevelLists, tables_of, put_in, put_all_in}
use Rattle.xdb_plain.specs.Edits.{is_empty, is_part, is_left, is_right, are_halves, crossed, crossed_in, removed_by, Rest, rest, behind, behind_halves}
use Rattle.xdb_model.proofs.ListLaws.{all-append, all-filtered, all-from_has, all-map, all-more, pairs-append, pairs-filtered, pairs-map, pairs-more}
use Rattle.xdb_model.proofs.EditedLaws.{all-put_all}
use Rattle.xdb_model.proofs.PairLaws.{off-turned, off-within, AtLevel, OffTable}
use Rattle.xdb_model.proofs.PartLaws.{crossed-all, behind-all, halves-all, part-tells}
use Rattle.xdb_model.specs.Apart.{Pairwise, AreApart}

-- ---- the tables that meet a range are among the inputs

kept-has : {A : Type 0} (x y : A) (rest : List A) (t : Bool) → (x ≡ y → t ≡ true) → (x ≡ y) ⊎ Has rest y → Has (cond t (x ∷ rest) rest) y
kept-has x y rest true is has = has
kept-has x y rest false is (inl same) = absurd (false≢true (is same))
kept-has x y rest false is (inr behind) = behind

pub has-filtered : {A : Type 0} (test : A → Bool) (xs : List A) (y : A) → Has xs y → test y ≡ true → Has (filter test xs) y
has-filtered test [] y has passes = has
has-filtered test (x ∷ xs) y (inl same) passes = kept-has x y (filter test xs) (test x) (λ s. ap test s ∙ passes) (inl same)
has-filtered test (x ∷ xs) y (inr behind) passes = kept-has x y (filter test xs) (test x) (λ s. ap test s ∙ passes) (inr (has-filtered test xs y behind passes))

put-has : (x t y : Table) (more ts : List Table) (b : Bool) → ((x ≡ y) ⊎ Has ts y → Has more y) → (x ≡ y) ⊎ ((t ≡ y) ⊎ Has ts y) → Has (cond b (t ∷ more) (x ∷ t ∷ ts)) y
put-has x t y more ts true behind (inl same) = inr (behind (inl same))
put-has x t y more ts true behind (inr (inl here)) = inl here
put-has x t y more ts true behind (inr (inr later)) = inr (behind (inr later))
put-has x t y more ts false behind has = has

has-put : (cmp : Table → Table → Ordering) (x : Table) (ts : List Table) (y : Table) → (x ≡ y) ⊎ Has ts y → Has (put_in cmp x ts) y
has-put cmp x [] y has = has
has-put cmp x (t ∷ ts) y has = put-has x t y (put_in cmp x ts) ts (is_lt (cmp t x)) (λ h. has-put cmp x ts y h) has

pub has-put_all : (cmp : Table → Table → Ordering) (xs ts : List Table) (y : Table) → Has xs y ⊎ Has ts y → Has (put_all_in cmp xs ts) y
has-put_all cmp [] ts y (inl has) = absurd has
has-put_all cmp [] ts y (inr has) = has
has-put_all cmp (x ∷ xs) ts y (inl (inl same)) = has-put_all cmp xs (put_in cmp x ts) y (inr (has-put cmp x ts y (inl same)))
has-put_all cmp (x ∷ xs) ts y (inl (inr behind)) = has-put_all cmp xs (put_in cmp x ts) y (inl behind)
has-put_all cmp (x ∷ xs) ts y (inr has) = has-put_all cmp xs (put_in cmp x ts) y (inr (has-put cmp x ts y (inr has)))

named-any : (level : ℕ) (ts : List Table) (t : Table) → Has ts t → list_any (λ (i : ℕ × ℕ). eqb i.0 level && eqb i.1 t.num) (map (λ u. (level, u.num)) ts) ≡ true
named-any level [] t has = absurd has
named-any level (u ∷ ts) t (inl same) =
    or_left (eqb level level && eqb u.num t.num) _ (and_from _ _ (eq-eqb level level refl) (eq-eqb u.num t.num (ap (λ (x : Table). x.num) same)))
named-any level (u ∷ ts) t (inr behind) = or_right (eqb level level && eqb u.num t.num) _ (named-any level ts t behind)

pub inputs-name : (levels : LevelLists) (level : ℕ) (span : Bounds) (t : Table) → Has (tables_of levels level) t → meets span (bounds_of t) ≡ true → list_any (λ (i : ℕ × ℕ). eqb i.0 level && eqb i.1 t.num) (inputs_at levels level span) ≡ true
inputs-name levels level span t has met =
    named-any level (by_num (meeting span (tables_of levels level))) t (has-put_all num_cmp (meeting span (tables_of levels level)) [] t (inl (has-filtered (λ u. meets span (bounds_of u)) (tables_of levels level) t has met)))

-- and those alone
pub inputs-all : (P : ℕ × ℕ → Type 0) (levels : LevelLists) (level : ℕ) (span : Bounds) → ((t : Table) → Has (tables_of levels level) t → meets span (bounds_of t) ≡ true → P (level, t.num)) → AllByRecursion P (inputs_at levels level span)
inputs-all P levels level span is =
    all-map P (λ t. (level, t.num)) (by_num (meeting span (tables_of levels level)))
    (all-put_all (λ t. P (level, t.num)) num_cmp (meeting span (tables_of levels level)) []
    (all-filtered (λ t. P (level, t.num)) (λ t. meets span (bounds_of t)) (tables_of levels level) is) tt)

removed-from : (P : ℕ × ℕ → Type 0) (levels rest : LevelLists) (span : Bounds) (base : ℕ) → ((level : ℕ) → AllByRecursion P (inputs_at levels level span)) → AllByRecursion P (flat_map (λ l. inputs_at levels l.0 span) (enumerate_from base rest))
removed-from P levels [] span base is = tt
removed-from P levels (ts ∷ rest) span base is = all-append P (inputs_at levels base span) _ (is base) (removed-from P levels rest span (base + 1) is)

-- what a span removes are tables that it meets
pub removed-all : (P : ℕ × ℕ → Type 0) (levels : LevelLists) (span : Option Bounds) → ((s : Bounds) (level : ℕ) (t : Table) → span ≡ Some s → Has (tables_of levels level) t → meets s (bounds_of t) ≡ true → P (level, t.num)) → AllByRecursion P (removed_by levels span)
removed-all P levels None is = tt
removed-all P levels (Some s) is = removed-from P levels levels s 0 (λ level. inputs-all P levels level s (λ t has met. is s level t refl has met))

pub any-front : {A : Type 0} (test : A → Bool) (xs ys : List A) → list_any test xs ≡ true → list_any test (xs ++ ys) ≡ true
any-front test [] ys some = absurd (false≢true some)
any-front test (x ∷ xs) ys some = elim (or_cases (test x) (list_any test xs) some) [
  | inl here ↦ or_left (test x) (list_any test (xs ++ ys)) here
  | inr later ↦ or_right (test x) (list_any test (xs ++ ys)) (any-front test xs ys later)
]

pub any-behind : {A : Type 0} (test : A → Bool) (xs ys : List A) → list_any test ys ≡ true → list_any test (xs ++ ys) ≡ true
any-behind test [] ys some = some
any-behind test (x ∷ xs) ys some = or_right (test x) (list_any test (xs ++ ys)) (any-behind test xs ys some)

any-flat : {A : Type 0} (test : A → Bool) (f : ℕ → List A) (base j i : ℕ) (levels : LevelLists) → i ≡ base + j → j < length levels → list_any test (f i) ≡ true → list_any test (flat_map (λ l. f l.0) (enumerate_from base levels)) ≡ true
any-flat test f base j i [] is few some = absurd (omega arith)
any-flat test f base zero i (ts ∷ levels) is few some =
    let same : i ≡ base = omega arith in
    any-front test (f base) (flat_map (λ l. f l.0) (enumerate_from (base + 1) levels)) (subst (λ k. list_any test (f k) ≡ true) same some)
any-flat test f base (suc j) i (ts ∷ levels) is few some =
    any-behind test (f base) (flat_map (λ l. f l.0) (enumerate_from (base + 1) levels)) (any-flat test f (base + 1) j i levels (omega arith) (omega arith) some)

pub has-level : (levels : LevelLists) (level : ℕ) (t : Table) → Has (tables_of levels level) t → level < length levels
has-level [] level t has = absurd has
has-level (ts ∷ levels) zero t has = omega arith
has-level (ts ∷ levels) (suc level) t has = let more = has-level levels level t has in omega arith

pub removed-name : (levels : LevelLists) (span : Bounds) (level : ℕ) (t : Table) → Has (tables_of levels level) t → meets span (bounds_of t) ≡ true → list_any (λ (r : ℕ × ℕ). eqb r.0 level && eqb r.1 t.num) (removed_by levels (Some span)) ≡ true
removed-name levels span level t has met =
    any-flat (λ (r : ℕ × ℕ). eqb r.0 level && eqb r.1 t.num) (λ k. inputs_at levels k span) 0 level level levels (omega arith) (has-level levels level t has) (inputs-name levels level span t has met)

-- ---- of the tables that a span crosses, those of one level are apart

beyond : (base : ℕ) (span : Bounds) (levels : LevelLists) → AllByRecursion (λ (y : ℕ × Table). base ≤ y.0) (flat_map (λ l. crossed_in l span) (enumerate_from base levels))
beyond base span levels = crossed-all (λ y. base ≤ y.0) span base levels (λ j i is. all-from_has _ (tables_of levels j) (λ t has met. omega arith))

crossed-apart : (level : ℕ) (span : Bounds) (base : ℕ) (levels : LevelLists) → ((j : ℕ) → level ≡ base + j → AreApart (tables_of levels j)) → Pairwise (AtLevel level) (flat_map (λ l. crossed_in l span) (enumerate_from base levels))
crossed-apart level span base [] apart = tt
crossed-apart level span base (ts ∷ levels) apart =
    let others = flat_map (λ l. crossed_in l span) (enumerate_from (base + 1) levels) in
    pairs-append (AtLevel level) (map (λ t. (base, t)) (meeting span ts)) others
    (by-level (cases_Bool (eqb base level)))
    (crossed-apart level span (base + 1) levels (λ j is. apart (suc j) (omega arith)))
    (all-map (λ x. AllByRecursion (AtLevel level x) others) (λ t. (base, t)) (meeting span ts)
    (all-from_has _ (meeting span ts) (λ t has. all-more (λ (y : ℕ × Table). base + 1 ≤ y.0) (AtLevel level (base, t)) others
    (λ y above here there. let a = eqb-true base level here in let b = eqb-true y.0 level there in absurd (omega arith)) (beyond (base + 1) span levels))))
  where
    by-level : (eqb base level ≡ true) ⊎ (eqb base level ≡ false) → Pairwise (AtLevel level) (map (λ t. (base, t)) (meeting span ts))
    by-level (inl here) =
        let same = eqb-true base level here in
        pairs-map (AtLevel level) (λ t. (base, t)) (meeting span ts)
        (pairs-more OffTable (λ t u. AtLevel level (base, t) (base, u)) (meeting span ts) (λ t u off ht hu. off)
        (pairs-filtered OffTable (λ t. meets span (bounds_of t)) ts (apart 0 (omega arith))))
    by-level (inr there) =
        pairs-map (AtLevel level) (λ t. (base, t)) (meeting span ts) (none-here (meeting span ts))
      where
        none-here : (us : List Table) → Pairwise (λ t u. AtLevel level (base, t) (base, u)) us
        none-here [] = tt
        none-here (t ∷ us) = (all-from_has _ us (λ u has ht hu. absurd (false≢true (sym there ∙ ht))), none-here us)

-- ---- halves

module _ (level : ℕ) where
  -- a part of a table is off what its table is off
  part-off : (k m : ℕ) (old x other y : ℕ × Table) → is_part k old x ≡ true → is_part m other y ≡ true → AtLevel level old other → AtLevel level x y
  part-off k m old x other y px py off hx hy =
      let a = part-tells k old x px in
      let b = part-tells m other y py in
      let ho = subst (λ n. eqb n level ≡ true) a.same_level hx in
      let hp = subst (λ n. eqb n level ≡ true) b.same_level hy in
      let first = off-within (bounds_of old.1) (bounds_of x.1) (bounds_of other.1) a.within (off ho hp) in
      off-turned (bounds_of y.1) (bounds_of x.1) (off-within (bounds_of other.1) (bounds_of y.1) (bounds_of x.1) b.within (off-turned (bounds_of x.1) (bounds_of other.1) first))

  -- a left half ends where the span begins, at the latest, and a right one begins behind it
  sides-off : (span : Bounds) (x y : ℕ × Table) → is_below span.lo span.hi ≡ true → is_upto x.1.hi span.lo ≡ true → is_upto span.hi y.1.lo ≡ true → AtLevel level x y
  sides-off span x y range left right hx hy =
      let ends : is_upto x.1.hi y.1.lo ≡ true = upto_trans x.1.hi span.lo y.1.lo left (upto_trans span.lo span.hi y.1.lo (upto_from_below span.lo span.hi range) right) in
      and_off (is_below x.1.lo y.1.hi) (is_below y.1.lo x.1.hi) (not-true (is_below y.1.lo x.1.hi) (sym (upto-not_below x.1.hi y.1.lo) ∙ ends))
    where
      and_off : (a b : Bool) → b ≡ false → (a && b) ≡ false
      and_off true b h = h
      and_off false b h = refl

  behind-pairs : (half : ℕ → ℕ × Table → Bool) (num : ℕ) (parts : List (ℕ × Table)) → ((k : ℕ) (x : ℕ × Table) → half k x ≡ true → AllByRecursion (AtLevel level x) (behind half (rest num parts)).parts)
      → Pairwise (AtLevel level) (behind half (rest num parts)).parts → Pairwise (AtLevel level) parts
  behind-pairs half num [] off pairs = tt
  behind-pairs half num (x ∷ xs) off pairs = by-test (half num x) (off num x) pairs
    where
      by-test : (t : Bool) → (t ≡ true → AllByRecursion (AtLevel level x) (cond t (rest (num + 1) xs) (rest num (x ∷ xs))).parts) → Pairwise (AtLevel level) (cond t (rest (num + 1) xs) (rest num (x ∷ xs))).parts → Pairwise (AtLevel level) (x ∷ xs)
      by-test true off pairs = (off refl, pairs)
      by-test false off pairs = pairs

  -- one part is off all those of later tables
  off-later : (span : Bounds) (k : ℕ) (old x : ℕ × Table) (olds : List (ℕ × Table)) (r : Rest) → is_part k old x ≡ true → AllByRecursion (AtLevel level old) olds → is_empty (behind_halves span olds r).parts ≡ true → AllByRecursion (AtLevel level x) r.parts
  off-later span k old x olds r part off none =
      halves-all (AtLevel level x) span olds r (all-more (AtLevel level old) _ olds (λ other off m y is. part-off k m old x other y part is off) off) none

  halves-pairs : (span : Bounds) (olds : List (ℕ × Table)) (r : Rest) → is_below span.lo span.hi ≡ true → Pairwise (AtLevel level) olds → is_empty (behind_halves span olds r).parts ≡ true → Pairwise (AtLevel level) r.parts
  halves-pairs span [] r range pairs none = empty r.parts none
    where
      empty : (xs : List (ℕ × Table)) → is_empty xs ≡ true → Pairwise (AtLevel level) xs
      empty [] none = tt
      empty (x ∷ xs) none = absurd (false≢true none)
  halves-pairs span (old ∷ olds) r range pairs none =
      let left = behind (λ k. is_left span k old) r in
      let right = behind (λ k. is_right span k old) left in
      let later : Pairwise (AtLevel level) right.parts = halves-pairs span olds right range pairs.1 none in
      let lefts : Pairwise (AtLevel level) left.parts = behind-pairs (λ k. is_right span k old) left.num left.parts
      (λ k x is. off-later span k old x olds right (and_parts (is_part k old x) (is_upto span.hi x.1.lo) is).0 pairs.0 none) later in
      behind-pairs (λ k. is_left span k old) r.num r.parts
      (λ k x is.
      let here = and_parts (is_part k old x) (is_upto x.1.hi span.lo) is in
      behind-all (AtLevel level x) (λ m. is_right span m old) left.num left.parts
      (λ m y side. sides-off span x y range here.1 (and_parts (is_part m old y) (is_upto span.hi y.1.lo) side).1)
      (off-later span k old x olds right here.0 pairs.0 none))
      lefts

-- no two halves at one level meet
pub halves-apart : (level file : ℕ) (levels : LevelLists) (span : Bounds) (parts : List (ℕ × Table)) → is_below span.lo span.hi ≡ true → AreApart (tables_of levels level) → are_halves file (Some span) (crossed levels (Some span)) parts ≡ true → Pairwise (AtLevel level) parts
halves-apart level file levels span parts range apart halves =
    halves-pairs level span (crossed levels (Some span)) (rest file parts) range (crossed-apart level span 0 levels (λ j is. let same : level ≡ j = omega arith in subst (λ k. AreApart (tables_of levels k)) same apart)) halves
