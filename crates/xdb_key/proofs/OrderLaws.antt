-- The order of keys is total, and a key's hull meets just the ranges that hold the key.
use Rattle.std.proofs.Common.{◌≡◌, ℕ, Bool, true, false, not, ◌&&◌, cond, ◌==◌, List, [], ◌∷◌, inl, inr, refl, sym, ap, ◌∙◌, arith}
use Rattle.std.proofs.lemmas.Bool.{cases_Bool, false≢true, true≢false, le-ltb}
use Rattle.std.specs.declared.cmp.Ordering.{Ordering}
use Rattle.std.specs.declared.cmp.Ordering.TheVariants.{Less, Equal, Greater}
use Rattle.std.specs.Ordering.{nat_cmp, is_lt, is_le, ordering_then, ordering_reverse}
use Rattle.std.specs.Cmp.{IsTotalOrder, tied_itself, alike_right}
use Rattle.std.specs.Cmp.Lexicographic.{nat_list_cmp_total}
use Rattle.std.specs.FinMap.{IsAntisymmetric, nat_cmp-IsAntisymmetric, slice_cmp-IsAntisymmetric}
use Rattle.xdb_key.specs.Order.{key_cmp, is_below, is_upto}
use Rattle.xdb_key.specs.Bounds.{Bounds, holds, meets, key_hull, successor, lesser, greater}

pub key_total : IsTotalOrder key_cmp
key_total = nat_list_cmp_total

-- byte strings that tie are one
pub key_exact : IsAntisymmetric key_cmp
key_exact = slice_cmp-IsAntisymmetric nat_cmp-IsAntisymmetric

lt-tells : (r : Ordering) → is_lt r ≡ true → r ≡ Less
lt-tells Less h = refl
lt-tells Equal h = absurd (false≢true h)
lt-tells Greater h = absurd (false≢true h)

le-tells : (r : Ordering) → is_lt r ≡ false → is_le r ≡ true → r ≡ Equal
le-tells Less h g = absurd (true≢false h)
le-tells Equal h g = refl
le-tells Greater h g = absurd (false≢true g)

turned : (r : Ordering) → is_le r ≡ not (is_lt (ordering_reverse r))
turned Less = refl
turned Equal = refl
turned Greater = refl

-- up to is not above
pub upto-not_below : (a b : List ℕ) → is_upto a b ≡ not (is_below b a)
upto-not_below a b = turned (key_cmp a b) ∙ ap (λ r. not (is_lt r)) (sym (key_total.antisymm b a))

pub below-itself : (a : List ℕ) → is_below a a ≡ false
below-itself a = ap is_lt (tied_itself key_total a)

pub upto-itself : (a : List ℕ) → is_upto a a ≡ true
upto-itself a = ap is_le (tied_itself key_total a)

pub below_trans : (a b c : List ℕ) → is_below a b ≡ true → is_below b c ≡ true → is_below a c ≡ true
below_trans a b c p q = ap is_lt (key_total.trans a b c (lt-tells _ p) (lt-tells _ q))

lt-le : (r : Ordering) → is_lt r ≡ true → is_le r ≡ true
lt-le Less h = refl
lt-le Equal h = refl
lt-le Greater h = absurd (false≢true h)

pub upto_from_below : (a b : List ℕ) → is_below a b ≡ true → is_upto a b ≡ true
upto_from_below a b h = lt-le (key_cmp a b) h

below_upto_by : (a b c : List ℕ) (r : Ordering) → key_cmp b c ≡ r → is_below a b ≡ true → is_le r ≡ true → is_below a c ≡ true
below_upto_by a b c Less e h g = below_trans a b c h (ap is_lt e)
below_upto_by a b c Equal e h g = sym (ap is_lt (alike_right key_total b c a e)) ∙ h
below_upto_by a b c Greater e h g = absurd (false≢true g)

pub below_upto : (a b c : List ℕ) → is_below a b ≡ true → is_upto b c ≡ true → is_below a c ≡ true
below_upto a b c h g = below_upto_by a b c (key_cmp b c) refl h g

upto_below_by : (a b c : List ℕ) (r : Ordering) → key_cmp a b ≡ r → is_le r ≡ true → is_below b c ≡ true → is_below a c ≡ true
upto_below_by a b c Less e h g = below_trans a b c (ap is_lt e) g
upto_below_by a b c Equal e h g = ap is_lt (key_total.congr a b c e) ∙ g
upto_below_by a b c Greater e h g = absurd (false≢true h)

pub upto_below : (a b c : List ℕ) → is_upto a b ≡ true → is_below b c ≡ true → is_below a c ≡ true
upto_below a b c h g = upto_below_by a b c (key_cmp a b) refl h g

upto_trans_by : (a b c : List ℕ) (r : Ordering) → key_cmp a b ≡ r → is_le r ≡ true → is_upto b c ≡ true → is_upto a c ≡ true
upto_trans_by a b c Less e h g = upto_from_below a c (below_upto a b c (ap is_lt e) g)
upto_trans_by a b c Equal e h g = ap is_le (key_total.congr a b c e) ∙ g
upto_trans_by a b c Greater e h g = absurd (false≢true h)

pub upto_trans : (a b c : List ℕ) → is_upto a b ≡ true → is_upto b c ≡ true → is_upto a c ≡ true
upto_trans a b c h g = upto_trans_by a b c (key_cmp a b) refl h g

antisymm_by : (a b : List ℕ) (r : Ordering) → key_cmp a b ≡ r → is_le r ≡ true → is_upto b a ≡ true → a ≡ b
antisymm_by a b Less e h g = absurd (false≢true (sym (upto-not_below b a ∙ ap (λ r. not (is_lt r)) e) ∙ g))
antisymm_by a b Equal e h g = key_exact a b e
antisymm_by a b Greater e h g = absurd (false≢true h)

pub upto_antisymm : (a b : List ℕ) → is_upto a b ≡ true → is_upto b a ≡ true → a ≡ b
upto_antisymm a b h g = antisymm_by a b (key_cmp a b) refl h g

then-below : (r s t : Ordering) → is_lt s ≡ is_le t → is_lt (ordering_then r s) ≡ is_le (ordering_then r t)
then-below Less s t e = refl
then-below Equal s t e = e
then-below Greater s t e = refl

level_or_more : (b : Bool) (r : Ordering) → is_lt r ≡ false → is_lt (ordering_then (cond b Equal Greater) r) ≡ false
level_or_more true r h = h
level_or_more false r h = refl

none-below-zero : (x : ℕ) (r : Ordering) → is_lt r ≡ false → is_lt (ordering_then (nat_cmp x 0) r) ≡ false
none-below-zero x r h = ap (λ b. is_lt (ordering_then (cond b Less (cond (x == 0) Equal Greater)) r)) (le-ltb x 0 (omega arith)) ∙ level_or_more (x == 0) r h

-- nothing lies between a key and its successor
pub below-successor : (a k : List ℕ) → is_below a (successor k) ≡ is_upto a k
below-successor [] [] = refl
below-successor [] (y ∷ k) = refl
below-successor (x ∷ []) [] = none-below-zero x Equal refl
below-successor (x ∷ y ∷ a) [] = none-below-zero x Greater refl
below-successor (x ∷ a) (y ∷ k) = then-below (nat_cmp x y) _ _ (below-successor a k)

pub key-below-successor : (k : List ℕ) → is_below k (successor k) ≡ true
key-below-successor k = below-successor k k ∙ upto-itself k

and-comm : (a b : Bool) → (a && b) ≡ (b && a)
and-comm true true = refl
and-comm true false = refl
and-comm false true = refl
and-comm false false = refl

-- a hull meets a range exactly where the range holds the key
pub meets-key_hull : (k : List ℕ) (r : Bounds) → meets (key_hull k) r ≡ holds r k
meets-key_hull k r = ap (λ b. is_below k r.hi && b) (below-successor r.lo k) ∙ and-comm (is_below k r.hi) (is_upto r.lo k)

pub meets-symmetric : (r o : Bounds) → meets r o ≡ meets o r
meets-symmetric r o = and-comm (is_below r.lo o.hi) (is_below o.lo r.hi)

-- ---- the lesser and the greater of two bounds

lesser-second : (a b : List ℕ) → is_below b a ≡ true → lesser a b ≡ b
lesser-second a b h = ap (λ t. cond t b a) h

lesser-first : (a b : List ℕ) → is_below b a ≡ false → lesser a b ≡ a
lesser-first a b h = ap (λ t. cond t b a) h

greater-second : (a b : List ℕ) → is_below a b ≡ true → greater a b ≡ b
greater-second a b h = ap (λ t. cond t b a) h

greater-first : (a b : List ℕ) → is_below a b ≡ false → greater a b ≡ a
greater-first a b h = ap (λ t. cond t b a) h

upto-if : (a b : List ℕ) → is_below b a ≡ false → is_upto a b ≡ true
upto-if a b h = upto-not_below a b ∙ ap not h

pub lesser_upto_first : (a b : List ℕ) → is_upto (lesser a b) a ≡ true
lesser_upto_first a b = elim (cases_Bool (is_below b a)) [
  | inl less ↦ ap (λ c. is_upto c a) (lesser-second a b less) ∙ upto_from_below b a less
  | inr not_less ↦ ap (λ c. is_upto c a) (lesser-first a b not_less) ∙ upto-itself a
]

pub lesser_upto_second : (a b : List ℕ) → is_upto (lesser a b) b ≡ true
lesser_upto_second a b = elim (cases_Bool (is_below b a)) [
  | inl less ↦ ap (λ c. is_upto c b) (lesser-second a b less) ∙ upto-itself b
  | inr not_less ↦ ap (λ c. is_upto c b) (lesser-first a b not_less) ∙ upto-if a b not_less
]

pub first_upto_greater : (a b : List ℕ) → is_upto a (greater a b) ≡ true
first_upto_greater a b = elim (cases_Bool (is_below a b)) [
  | inl less ↦ ap (is_upto a) (greater-second a b less) ∙ upto_from_below a b less
  | inr not_less ↦ ap (is_upto a) (greater-first a b not_less) ∙ upto-itself a
]

pub second_upto_greater : (a b : List ℕ) → is_upto b (greater a b) ≡ true
second_upto_greater a b = elim (cases_Bool (is_below a b)) [
  | inl less ↦ ap (is_upto b) (greater-second a b less) ∙ upto-itself b
  | inr not_less ↦ ap (is_upto b) (greater-first a b not_less) ∙ upto-if b a not_less
]

-- what is up to both is up to the lesser
pub upto_lesser : (c a b : List ℕ) → is_upto c a ≡ true → is_upto c b ≡ true → is_upto c (lesser a b) ≡ true
upto_lesser c a b h g = elim (cases_Bool (is_below b a)) [
  | inl less ↦ ap (is_upto c) (lesser-second a b less) ∙ g
  | inr not_less ↦ ap (is_upto c) (lesser-first a b not_less) ∙ h
]

pub greater_upto : (c a b : List ℕ) → is_upto a c ≡ true → is_upto b c ≡ true → is_upto (greater a b) c ≡ true
greater_upto c a b h g = elim (cases_Bool (is_below a b)) [
  | inl less ↦ ap (λ d. is_upto d c) (greater-second a b less) ∙ g
  | inr not_less ↦ ap (λ d. is_upto d c) (greater-first a b not_less) ∙ h
]

pub lesser_turned : (a b : List ℕ) → lesser a b ≡ lesser b a
lesser_turned a b = upto_antisymm (lesser a b) (lesser b a)
    (upto_lesser (lesser a b) b a (lesser_upto_second a b) (lesser_upto_first a b))
    (upto_lesser (lesser b a) a b (lesser_upto_second b a) (lesser_upto_first b a))

pub greater_turned : (a b : List ℕ) → greater a b ≡ greater b a
greater_turned a b = upto_antisymm (greater a b) (greater b a)
    (greater_upto (greater b a) a b (second_upto_greater b a) (first_upto_greater b a))
    (greater_upto (greater a b) b a (second_upto_greater a b) (first_upto_greater a b))
