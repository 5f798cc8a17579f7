-- The extent of one thing more.
use Rattle.std.proofs.Common.{◌≡◌, ℕ, min, max, Bool, true, false, cond, List, [], ◌∷◌, ◌++◌, Option, Some, None, refl, sym, ap, ◌∙◌, subst, arith, inl, inr, ◌⊎◌, length, get_or, map, take, ◌+◌, ◌<◌, append_assoc}
use Rattle.std.proofs.lemmas.List.{map-append, take_more}
use Rattle.std.proofs.lemmas.Bool.{cases_order}
use Rattle.xdb_key.proofs.OrderLaws.{upto-itself, upto_trans, below_upto, upto_below, lesser_upto_first, lesser_upto_second, first_upto_greater, second_upto_greater}
use Rattle.xdb_key.specs.Bounds.{lesser, greater}
use Rattle.xdb_key.specs.Entries.{Reach, IsReach}
use Rattle.xdb_key.specs.Order.{is_below}
use Rattle.xdb_rangedel.specs.Members.{Has, SameMembers}
use Rattle.xdb_rangedel.proofs.MemberLaws.{Has-append_left, Has-append_right, Has-append_cases}
use Rattle.xdb_table_r.specs.Reaches.{IsInside, IsExtentOf, joined, widened}

pub joined_is_reach : (a b : Reach) → IsReach a → IsReach b → IsReach (joined a b)
joined_is_reach a b p q = record {
  ordered = below_upto (lesser a.lo b.lo) a.hi (greater a.hi b.hi) (upto_below (lesser a.lo b.lo) a.lo a.hi (lesser_upto_first a.lo b.lo) p.ordered) (first_upto_greater a.hi b.hi);
  numbers = omega (arith, p.numbers, q.numbers);
  small = omega (arith, p.small, q.small);
}

-- ---- least

from_first : (a b h : Reach) → IsInside h a → IsInside h (joined a b)
from_first a b h i = record {
  lo = upto_trans (lesser a.lo b.lo) a.lo h.lo (lesser_upto_first a.lo b.lo) i.lo;
  hi = upto_trans h.hi a.hi (greater a.hi b.hi) i.hi (first_upto_greater a.hi b.hi);
  seq_lo = omega (arith, i.seq_lo);
  seq_hi = omega (arith, i.seq_hi);
}

second_inside : (a b : Reach) → IsInside b (joined a b)
second_inside a b = record {
  lo = lesser_upto_second a.lo b.lo;
  hi = second_upto_greater a.hi b.hi;
  seq_lo = omega arith;
  seq_hi = omega arith;
}

abbrev Of : (Reach → Type 0) → List Reach → Type 0
Of P hs = (h : Reach) × Has hs h × P h

old_of : (P : Reach → Type 0) (hs : List Reach) (b : Reach) → Of P hs → Of P (hs ++ b ∷ [])
old_of P hs b w = (w.0, Has-append_left hs (b ∷ []) w.0 w.1, w.2)

new_of : (P : Reach → Type 0) (hs : List Reach) (b : Reach) → P b → Of P (hs ++ b ∷ [])
new_of P hs b p = (b, Has-append_right hs (b ∷ []) b (inl refl), p)

picked : {A : Type 0} (f : Reach → A) (t : Bool) (x y : A) (hs : List Reach) (b : Reach) → f b ≡ x → Of (λ h. f h ≡ y) hs → Of (λ h. f h ≡ cond t x y) (hs ++ b ∷ [])
picked f true x y hs b e w = new_of (λ h. f h ≡ x) hs b e
picked f false x y hs b e w = old_of (λ h. f h ≡ y) hs b w

min_picked : (a b : ℕ) → (min a b ≡ a) ⊎ (min a b ≡ b)
min_picked a b = elim (cases_order a b) [
  | inl e ↦ inl (omega arith)
  | inr (inl l) ↦ inl (omega arith)
  | inr (inr m) ↦ inr (omega arith)
]

max_picked : (a b : ℕ) → (max a b ≡ a) ⊎ (max a b ≡ b)
max_picked a b = elim (cases_order a b) [
  | inl e ↦ inl (omega arith)
  | inr (inl l) ↦ inr (omega arith)
  | inr (inr m) ↦ inl (omega arith)
]

pub extent_more : (hs : List Reach) (o : Option Reach) (b : Reach) → IsExtentOf hs o → IsExtentOf (hs ++ b ∷ []) (Some (widened o b))
extent_more hs None b h = record {
  each = λ x has. elim (Has-append_cases hs (b ∷ []) x has) [
    | inl old ↦ absurd (h x old)
    | inr (inl e) ↦ subst (λ y. IsInside y b) e (record { lo = upto-itself b.lo; hi = upto-itself b.hi; seq_lo = omega arith; seq_hi = omega arith })
    | inr (inr never) ↦ absurd never
  ];
  lo = new_of (λ y. y.lo ≡ b.lo) hs b refl;
  hi = new_of (λ y. y.hi ≡ b.hi) hs b refl;
  seq_lo = new_of (λ y. y.seq_lo ≡ b.seq_lo) hs b refl;
  seq_hi = new_of (λ y. y.seq_hi ≡ b.seq_hi) hs b refl;
}
extent_more hs (Some a) b h = record {
  each = λ x has. elim (Has-append_cases hs (b ∷ []) x has) [
    | inl old ↦ from_first a b x (h.each x old)
    | inr (inl e) ↦ subst (λ y. IsInside y (joined a b)) e (second_inside a b)
    | inr (inr never) ↦ absurd never
  ];
  lo = picked (λ y. y.lo) (is_below b.lo a.lo) b.lo a.lo hs b refl h.lo;
  hi = picked (λ y. y.hi) (is_below a.hi b.hi) b.hi a.hi hs b refl h.hi;
  seq_lo = elim (min_picked a.seq_lo b.seq_lo) [
    | inl e ↦ old_of (λ y. y.seq_lo ≡ min a.seq_lo b.seq_lo) hs b (h.seq_lo.0, h.seq_lo.1, h.seq_lo.2 ∙ sym e)
    | inr e ↦ new_of (λ y. y.seq_lo ≡ min a.seq_lo b.seq_lo) hs b (sym e)
  ];
  seq_hi = elim (max_picked a.seq_hi b.seq_hi) [
    | inl e ↦ old_of (λ y. y.seq_hi ≡ max a.seq_hi b.seq_hi) hs b (h.seq_hi.0, h.seq_hi.1, h.seq_hi.2 ∙ sym e)
    | inr e ↦ new_of (λ y. y.seq_hi ≡ max a.seq_hi b.seq_hi) hs b (sym e)
  ];
}

-- whatever the order of the things, and however often they stand
pub extent_same : (xs ys : List Reach) (o : Option Reach) → SameMembers xs ys → IsExtentOf xs o → IsExtentOf ys o
extent_same xs ys None same h = λ x has. h x ((same x).1 has)
extent_same xs ys (Some e) same h = record {
  each = λ x has. h.each x ((same x).1 has);
  lo = (h.lo.0, (same h.lo.0).0 h.lo.1, h.lo.2);
  hi = (h.hi.0, (same h.hi.0).0 h.hi.1, h.hi.2);
  seq_lo = (h.seq_lo.0, (same h.seq_lo.0).0 h.seq_lo.1, h.seq_lo.2);
  seq_hi = (h.seq_hi.0, (same h.seq_hi.0).0 h.seq_hi.1, h.seq_hi.2);
}

-- ---- one more of a list

pub mapped_more : {A : Type 0} (f : A → Reach) (xs : List A) (i : ℕ) (x : A) → i < length xs → get_or xs i x ≡ x → map f (take (i + 1) xs) ≡ map f (take i xs) ++ f x ∷ []
mapped_more f xs i x inside is = ap (map f) (take_more xs i x inside ∙ ap (λ y. take i xs ++ y ∷ []) is) ∙ map-append f (take i xs) (x ∷ [])

pub extent_pushed : {A : Type 0} (f : A → Reach) (xs : List A) (i : ℕ) (x : A) (before : List Reach) (o : Option Reach) (b w : Reach) → i < length xs → get_or xs i x ≡ x → b ≡ f x → w ≡ widened o b → IsExtentOf (before ++ map f (take i xs)) o
    → IsExtentOf (before ++ map f (take (i + 1) xs)) (Some w)
extent_pushed f xs i x before o b w inside is b_is w_is h =
    let list : (before ++ map f (take i xs)) ++ f x ∷ [] ≡ before ++ map f (take (i + 1) xs) = append_assoc before (map f (take i xs)) (f x ∷ []) ∙ ap (λ l. before ++ l) (sym (mapped_more f xs i x inside is)) in
    subst (λ l. IsExtentOf l (Some w)) list (subst (λ y. IsExtentOf ((before ++ map f (take i xs)) ++ f x ∷ []) (Some y)) (sym (w_is ∙ ap (widened o) b_is)) (extent_more (before ++ map f (take i xs)) o (f x) h))
