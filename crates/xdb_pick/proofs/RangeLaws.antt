-- Ranges that contain others or meet them, and lists of which something holds of each.
use Rattle.std.proofs.Common.{◌≡◌, ◌⊎◌, ℕ, Bool, true, false, not, ◌&&◌, ◌||◌, cond, List, [], ◌∷◌, ◌++◌, filter, refl, sym, ap, ◌∙◌, inl, inr}
use Rattle.std.specs.List.{list_all, AllByRecursion}
use Rattle.std.proofs.lemmas.Bool.{and_parts, and_from, cases_Bool, false≢true}
use Rattle.xdb_key.specs.Bounds.{Bounds, bounds, meets, covers}
use Rattle.xdb_key.specs.Order.{is_below, is_upto}
use Rattle.xdb_key.proofs.OrderLaws.{upto-itself, upto_trans, upto_antisymm, upto_below, below_upto, below-itself, upto-not_below, lesser_upto_first, lesser_upto_second, upto_lesser, first_upto_greater, second_upto_greater, greater_upto}
use Rattle.xdb_pick.specs.Hulls.{wider}
use Rattle.xdb_pick.specs.Trying.{takes_whole}

-- ---- of each

pub all_each : {X : Type 0} {P Q : X → Type 0} → ((x : X) → P x → Q x) → (xs : List X) → AllByRecursion P xs → AllByRecursion Q xs
all_each f [] h = h
all_each f (x ∷ xs) h = (f x h.0, all_each f xs h.1)

pub all_front : {X : Type 0} (P : X → Type 0) (xs ys : List X) → AllByRecursion P (xs ++ ys) → AllByRecursion P xs
all_front P [] ys h = tt
all_front P (x ∷ xs) ys h = (h.0, all_front P xs ys h.1)

pub all_push : {X : Type 0} (P : X → Type 0) (xs : List X) (y : X) → AllByRecursion P xs → P y → AllByRecursion P (xs ++ y ∷ [])
all_push P [] y h p = (p, tt)
all_push P (x ∷ xs) y h p = (h.0, all_push P xs y h.1 p)

pub all_from_test : {X : Type 0} (p : X → Bool) (xs : List X) → list_all p xs ≡ true → AllByRecursion (λ x. p x ≡ true) xs
all_from_test p [] h = tt
all_from_test p (x ∷ xs) h = let parts = and_parts (p x) (list_all p xs) h in (parts.0, all_from_test p xs parts.1)

pub all_to_test : {X : Type 0} (p : X → Bool) (xs : List X) → AllByRecursion (λ x. p x ≡ true) xs → list_all p xs ≡ true
all_to_test p [] h = refl
all_to_test p (x ∷ xs) h = and_from _ _ h.0 (all_to_test p xs h.1)

-- what passes the test has what each has that passes it
pub all_passing : {X : Type 0} (Q : X → Type 0) (p : X → Bool) (xs : List X) → AllByRecursion (λ x. p x ≡ true → Q x) xs → AllByRecursion Q (filter p xs)
all_passing Q p [] h = tt
all_passing Q p (x ∷ xs) h = by_case (p x) h.0 (all_passing Q p xs h.1)
  where
    by_case : (b : Bool) → (b ≡ true → Q x) → AllByRecursion Q (filter p xs) → AllByRecursion Q (cond b (x ∷ filter p xs) (filter p xs))
    by_case true q rest = (q refl, rest)
    by_case false q rest = rest

-- and back
pub all_where_passing : {X : Type 0} (Q : X → Type 0) (p : X → Bool) (xs : List X) → AllByRecursion Q (filter p xs) → AllByRecursion (λ x. p x ≡ true → Q x) xs
all_where_passing Q p [] h = tt
all_where_passing Q p (x ∷ xs) h = by_case (p x) h (all_where_passing Q p xs)
  where
    by_case : (b : Bool) → AllByRecursion Q (cond b (x ∷ filter p xs) (filter p xs)) → (AllByRecursion Q (filter p xs) → AllByRecursion (λ y. p y ≡ true → Q y) xs) → (b ≡ true → Q x) × AllByRecursion (λ y. p y ≡ true → Q y) xs
    by_case true all rest = (λ _. all.0, rest all.1)
    by_case false all rest = (λ e. absurd (false≢true e), rest all)

-- ---- ranges

pub covers-itself : (r : Bounds) → covers r r ≡ true
covers-itself r = and_from _ _ (upto-itself r.lo) (upto-itself r.hi)

pub covers-chain : (r o p : Bounds) → covers r o ≡ true → covers o p ≡ true → covers r p ≡ true
covers-chain r o p h g =
    let a = and_parts (is_upto r.lo o.lo) (is_upto o.hi r.hi) h in
    let b = and_parts (is_upto o.lo p.lo) (is_upto p.hi o.hi) g in
    and_from _ _ (upto_trans r.lo o.lo p.lo a.0 b.0) (upto_trans p.hi o.hi r.hi b.1 a.1)

pub covers-one : (r o : Bounds) → covers r o ≡ true → covers o r ≡ true → r ≡ o
covers-one r o h g =
    let a = and_parts (is_upto r.lo o.lo) (is_upto o.hi r.hi) h in
    let b = and_parts (is_upto o.lo r.lo) (is_upto r.hi o.hi) g in
    λ i. bounds (upto_antisymm r.lo o.lo a.0 b.0 i) (upto_antisymm r.hi o.hi b.1 a.1 i)

-- what meets a range meets each that contains it
pub meets-wider : (o r x : Bounds) → covers o r ≡ true → meets r x ≡ true → meets o x ≡ true
meets-wider o r x h m =
    let a = and_parts (is_upto o.lo r.lo) (is_upto r.hi o.hi) h in
    let b = and_parts (is_below r.lo x.hi) (is_below x.lo r.hi) m in
    and_from _ _ (upto_below o.lo r.lo x.hi a.0 b.0) (below_upto x.lo r.hi o.hi b.1 a.1)

-- ranges that contain one that has a key meet
pub meets-over : (r o x : Bounds) → is_below x.lo x.hi ≡ true → covers r x ≡ true → covers o x ≡ true → meets r o ≡ true
meets-over r o x range h g =
    let a = and_parts (is_upto r.lo x.lo) (is_upto x.hi r.hi) h in
    let b = and_parts (is_upto o.lo x.lo) (is_upto x.hi o.hi) g in
    and_from _ _
    (upto_below r.lo x.lo o.hi a.0 (below_upto x.lo x.hi o.hi range b.1))
    (upto_below o.lo x.lo r.hi b.0 (below_upto x.lo x.hi r.hi range a.1))

pub wider-first : (r o : Bounds) → covers (wider r o) r ≡ true
wider-first r o = and_from _ _ (lesser_upto_first r.lo o.lo) (first_upto_greater r.hi o.hi)

pub wider-second : (r o : Bounds) → covers (wider r o) o ≡ true
wider-second r o = and_from _ _ (lesser_upto_second r.lo o.lo) (second_upto_greater r.hi o.hi)

pub covers-wider : (c r o : Bounds) → covers c r ≡ true → covers c o ≡ true → covers c (wider r o) ≡ true
covers-wider c r o h g =
    let a = and_parts (is_upto c.lo r.lo) (is_upto r.hi c.hi) h in
    let b = and_parts (is_upto c.lo o.lo) (is_upto o.hi c.hi) g in
    and_from _ _ (upto_lesser c.lo r.lo o.lo a.0 b.0) (greater_upto c.hi r.hi o.hi a.1 b.1)

pub wider-has_key : (r o : Bounds) → is_below r.lo r.hi ≡ true → is_below (wider r o).lo (wider r o).hi ≡ true
wider-has_key r o range =
    upto_below (wider r o).lo r.lo (wider r o).hi (lesser_upto_first r.lo o.lo) (below_upto r.lo r.hi (wider r o).hi range (first_upto_greater r.hi o.hi))

-- ---- in order or not

pub upto_from : (a b : List ℕ) → is_below a b ≡ false → is_upto b a ≡ true
upto_from a b h = upto-not_below b a ∙ ap not h

pub never_below : (a b : List ℕ) → is_below a b ≡ true → is_upto b a ≡ true → ⊥
never_below a b h g = false≢true (sym (below-itself a) ∙ below_upto a b a h g)

-- ranges that don't meet are apart
pub off-apart : (r o : Bounds) → meets r o ≡ false → (is_upto o.hi r.lo ≡ true) ⊎ (is_upto r.hi o.lo ≡ true)
off-apart r o off = elim (cases_Bool (is_below r.lo o.hi)) [
  | inl below ↦ inr (upto_from o.lo r.hi (rest (is_below r.lo o.hi) (is_below o.lo r.hi) below off))
  | inr behind ↦ inl (upto_from r.lo o.hi behind)
]
  where
    rest : (a b : Bool) → a ≡ true → (a && b) ≡ false → b ≡ false
    rest true b h e = e
    rest false b h e = absurd (false≢true h)

-- ---- a test with a premise

pub implied : (m b : Bool) → (not m || b) ≡ true → m ≡ true → b ≡ true
implied true b h e = h
implied false b h e = absurd (false≢true e)

pub implies : (m b : Bool) → (m ≡ true → b ≡ true) → (not m || b) ≡ true
implies true b h = h refl
implies false b h = refl

pub whole_tells : (c r : Bounds) → takes_whole c r ≡ true → meets c r ≡ true → covers c r ≡ true
whole_tells c r = implied (meets c r) (covers c r)

pub whole_where : (c r : Bounds) → (meets c r ≡ true → covers c r ≡ true) → takes_whole c r ≡ true
whole_where c r = implies (meets c r) (covers c r)
