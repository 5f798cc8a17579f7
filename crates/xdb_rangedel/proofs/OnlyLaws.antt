-- Fragments are their own pieces, and one list of fragments alone has given members.
use Rattle.std.proofs.Common.{◌≡◌, ℕ, true, false, not, List, [], ◌∷◌, get_or, inl, inr, ◌⊎◌, IsTrue, refl, sym, ap, ◌∙◌, subst, arith}
use Rattle.std.proofs.lemmas.Bool.{cases_Bool, cases_order, and_parts, and_from, and_left, and_right, false≢true, false_from_ne_true}
use Rattle.std.proofs.lemmas.List.{get_or_default}
use Rattle.xdb_key.specs.Order.{is_below, is_upto}
use Rattle.xdb_key.specs.Entries.{Tombstone}
use Rattle.xdb_key.proofs.OrderLaws.{upto-itself, below-itself, upto-not_below, upto_from_below, upto_trans, upto_antisymm, below_upto, upto_below}
use Rattle.xdb_rangedel.specs.Members.{Has, SameMembers}
use Rattle.xdb_rangedel.specs.Pieces.{ends, splits, pieces, precedes, is_ordered, AreFragments, IsPiece}
use Rattle.xdb_rangedel.proofs.MemberLaws.{Contains-from_Has}
use Rattle.xdb_rangedel.proofs.PartLaws.{precedes_tells}
use Rattle.xdb_rangedel.proofs.FragmentLaws.{All-at_Has, AllPairs-head, AreFragments-tail}
use Rattle.xdb_rangedel.proofs.PieceLaws.{ends-has_lo, ends-has_hi, pieces-tell, pieces-has}

-- a bound is that of a span
ends_from : (ts : List Tombstone) (at : List ℕ) → Has (ends ts) at → (r : Tombstone) × Has ts r × ((r.range.lo ≡ at) ⊎ (r.range.hi ≡ at))
ends_from [] at h = absurd h
ends_from (t ∷ ts) at (inl e) = (t, inl refl, inl e)
ends_from (t ∷ ts) at (inr (inl e)) = (t, inl refl, inr e)
ends_from (t ∷ ts) at (inr (inr h)) = let from = ends_from ts at h in (from.0, inr from.1, from.2)

ordered_at : (ts : List Tombstone) (t : Tombstone) → AreFragments ts → Has ts t → is_ordered t ≡ true
ordered_at ts t f h = All-at_Has (λ x. IsTrue (is_ordered x)) ts t f.ordered h

-- two fragments have equal bounds, or one ends where the other starts or before
related : (ts : List Tombstone) (s r : Tombstone) → AreFragments ts → Has ts s → Has ts r → (s.range ≡ r.range) ⊎ ((is_upto s.range.hi r.range.lo ≡ true) ⊎ (is_upto r.range.hi s.range.lo ≡ true))
related ts s r f a b =
    let (i, at_i, e) = Contains-from_Has ts s a in
    let (j, at_j, g) = Contains-from_Has ts r b in
    let er : get_or ts i r ≡ s = get_or_default ts i r s at_i ∙ e in
    let gs : get_or ts j s ≡ r = get_or_default ts j s r at_j ∙ g in
    elim (cases_order i j) [
      | inl same ↦ inl (ap (λ x. x.range) (sym e ∙ ap (λ n. get_or ts n s) same ∙ gs))
      | inr (inl less) ↦ elim (precedes_tells s r (sym (λ x. precedes (er x) (g x)) ∙ f.apart i j r less at_j)) [
        | inl (ranges, number) ↦ inl ranges
        | inr apart ↦ inr (inl apart)
      ]
      | inr (inr more) ↦ elim (precedes_tells r s (sym (λ x. precedes (gs x) (e x)) ∙ f.apart j i s more at_i)) [
        | inl (ranges, number) ↦ inl (sym ranges)
        | inr apart ↦ inr (inr apart)
      ]
    ]

-- what lies behind a span or before it doesn't lie inside
behind_splits_not : (at : List ℕ) (s : Tombstone) → is_upto s.range.hi at ≡ true → splits at s ≡ false
behind_splits_not at s h = and_right (is_below s.range.lo at) (is_below at s.range.hi) (elim (cases_Bool (is_below at s.range.hi)) [
  | inl g ↦ absurd (false≢true (sym (below-itself at) ∙ below_upto at s.range.hi at g h))
  | inr g ↦ g
])

before_splits_not : (at : List ℕ) (s : Tombstone) → is_upto at s.range.lo ≡ true → splits at s ≡ false
before_splits_not at s h = and_left (is_below s.range.lo at) (is_below at s.range.hi) (elim (cases_Bool (is_below s.range.lo at)) [
  | inl g ↦ absurd (false≢true (sym (below-itself s.range.lo) ∙ below_upto s.range.lo at s.range.lo g h))
  | inr g ↦ g
])

-- no bound of a fragment lies inside another
fragment_whole : (ts : List Tombstone) (s : Tombstone) → AreFragments ts → Has ts s → (at : List ℕ) → Has (ends ts) at → splits at s ≡ false
fragment_whole ts s f has at h =
    let (r, there, end) = ends_from ts at h in
    let o = ordered_at ts r f there in
    elim (related ts s r f has there) [
      | inl ranges ↦ elim end [
        | inl e ↦ before_splits_not at s (sym (ap (λ x. is_upto x s.range.lo) (ap (λ x. x.lo) ranges ∙ e)) ∙ upto-itself s.range.lo)
        | inr e ↦ behind_splits_not at s (sym (ap (λ x. is_upto s.range.hi x) (ap (λ x. x.hi) ranges ∙ e)) ∙ upto-itself s.range.hi)
      ]
      | inr (inl behind) ↦ elim end [
        | inl e ↦ behind_splits_not at s (subst (λ x. is_upto s.range.hi x ≡ true) e behind)
        | inr e ↦ behind_splits_not at s (subst (λ x. is_upto s.range.hi x ≡ true) e (upto_trans s.range.hi r.range.lo r.range.hi behind (upto_from_below r.range.lo r.range.hi o)))
      ]
      | inr (inr before) ↦ elim end [
        | inl e ↦ before_splits_not at s (subst (λ x. is_upto x s.range.lo ≡ true) e (upto_trans r.range.lo r.range.hi s.range.lo (upto_from_below r.range.lo r.range.hi o) before))
        | inr e ↦ before_splits_not at s (subst (λ x. is_upto x s.range.lo ≡ true) e before)
      ]
    ]

fragment_piece : (ts : List Tombstone) (s : Tombstone) → AreFragments ts → Has ts s → IsPiece ts s
fragment_piece ts s f has = record {
  source = (s, has, and_from (is_upto s.range.lo s.range.lo) (is_upto s.range.hi s.range.hi) (upto-itself s.range.lo) (upto-itself s.range.hi), refl);
  ordered = ordered_at ts s f has;
  start = ends-has_lo ts s has;
  end = ends-has_hi ts s has;
  whole = fragment_whole ts s f has;
}

upto-from_not_below : (a b : List ℕ) → is_below a b ≡ false → is_upto b a ≡ true
upto-from_not_below a b h = upto-not_below b a ∙ ap not h

-- a piece of a span that no bound splits is the span
piece_fragment : (ts : List Tombstone) (t : Tombstone) → AreFragments ts → IsPiece ts t → Has ts t
piece_fragment ts t f p =
    let (s, has, cover, seqs) = p.source in
    let (lo, hi) = and_parts (is_upto s.range.lo t.range.lo) (is_upto t.range.hi s.range.hi) cover in
    let inner : is_below t.range.lo s.range.hi ≡ true = below_upto t.range.lo t.range.hi s.range.hi p.ordered hi in
    let outer : is_below s.range.lo t.range.hi ≡ true = upto_below s.range.lo t.range.lo t.range.hi lo p.ordered in
    let start : is_below s.range.lo t.range.lo ≡ false = false_from_ne_true (is_below s.range.lo t.range.lo) (λ h. false≢true (sym (fragment_whole ts s f has t.range.lo p.start) ∙ and_from (is_below s.range.lo t.range.lo) (is_below t.range.lo s.range.hi) h inner)) in
    let end : is_below t.range.hi s.range.hi ≡ false = false_from_ne_true (is_below t.range.hi s.range.hi) (λ h. false≢true (sym (fragment_whole ts s f has t.range.hi p.end) ∙ and_from (is_below s.range.lo t.range.hi) (is_below t.range.hi s.range.hi) outer h)) in
    let los : s.range.lo ≡ t.range.lo = upto_antisymm s.range.lo t.range.lo lo (upto-from_not_below s.range.lo t.range.lo start) in
    let his : s.range.hi ≡ t.range.hi = upto_antisymm s.range.hi t.range.hi (upto-from_not_below t.range.hi s.range.hi end) hi in
    subst (λ x. Has ts x) (λ i. record { range = record { lo = los i; hi = his i }; seq = seqs i }) has

pub fragments_themselves : (ts : List Tombstone) → AreFragments ts → SameMembers (pieces ts) ts
fragments_themselves ts f = λ t.
    ((λ h. piece_fragment ts t f (pieces-tell ts t (λ s g. ordered_at ts s f g) h)), (λ h. pieces-has ts t (fragment_piece ts t f h)))

-- one order

not_both : (s t : Tombstone) → is_ordered s ≡ true → is_ordered t ≡ true → precedes s t ≡ true → precedes t s ≡ true → ⊥
not_both s t os ot p q =
    let cycle : (a b : List ℕ) → is_below a b ≡ true → is_upto b a ≡ true → ⊥ = λ a b h g. false≢true (sym (below-itself a) ∙ below_upto a b a h g) in
    elim (precedes_tells s t p) [
      | inl (same, less) ↦ elim (precedes_tells t s q) [
        | inl (same2, more) ↦ omega arith
        | inr apart ↦ cycle t.range.lo t.range.hi ot (ap (λ r. is_upto t.range.hi r.lo) (sym same) ∙ apart)
      ]
      | inr apart ↦ elim (precedes_tells t s q) [
        | inl (same2, more) ↦ cycle s.range.lo s.range.hi os (ap (λ r. is_upto s.range.hi r.lo) (sym same2) ∙ apart)
        | inr apart2 ↦ cycle s.range.lo s.range.hi os (upto_trans s.range.hi t.range.lo s.range.lo apart (upto_trans t.range.lo t.range.hi s.range.lo (upto_from_below t.range.lo t.range.hi ot) apart2))
      ]
    ]

behind_head : (x y : Tombstone) (xs : List Tombstone) → AreFragments (x ∷ xs) → Has xs y → precedes x y ≡ true
behind_head x y xs f h = All-at_Has (λ z. IsTrue (precedes x z)) xs y (AllPairs-head (λ a b. IsTrue (precedes a b)) x xs f.apart) h

same_head : (x y : Tombstone) (xs ys : List Tombstone) → AreFragments (x ∷ xs) → AreFragments (y ∷ ys) → SameMembers (x ∷ xs) (y ∷ ys) → x ≡ y
same_head x y xs ys f g same = elim ((same x).0 (inl refl)) [
  | inl e ↦ sym e
  | inr h ↦ elim ((same y).1 (inl refl)) [
    | inl e ↦ e
    | inr k ↦ absurd (not_both x y (ordered_at (x ∷ xs) x f (inl refl)) (ordered_at (y ∷ ys) y g (inl refl)) (behind_head x y xs f k) (behind_head y x ys g h))
  ]
]

-- an element behind the head isn't the head
tail_along : (x y : Tombstone) (xs ys : List Tombstone) → AreFragments (x ∷ xs) → x ≡ y → SameMembers (x ∷ xs) (y ∷ ys) → (z : Tombstone) → Has xs z → Has ys z
tail_along x y xs ys f e same z h = elim ((same z).0 (inr h)) [
  | inl g ↦
      let itself : precedes x x ≡ true = ap (precedes x) (e ∙ g) ∙ behind_head x z xs f h in
      absurd (not_both x x (ordered_at (x ∷ xs) x f (inl refl)) (ordered_at (x ∷ xs) x f (inl refl)) itself itself)
  | inr g ↦ g
]

pub fragments_are_one : (xs ys : List Tombstone) → AreFragments xs → AreFragments ys → SameMembers xs ys → xs ≡ ys
fragments_are_one [] [] f g same = refl
fragments_are_one [] (y ∷ ys) f g same = absurd ((same y).1 (inl refl))
fragments_are_one (x ∷ xs) [] f g same = absurd ((same x).0 (inl refl))
fragments_are_one (x ∷ xs) (y ∷ ys) f g same =
    let e = same_head x y xs ys f g same in
    let back : SameMembers (y ∷ ys) (x ∷ xs) = λ z. ((same z).1, (same z).0) in
    let rest = fragments_are_one xs ys (AreFragments-tail x xs f) (AreFragments-tail y ys g) (λ z. (tail_along x y xs ys f e same z, tail_along y x ys xs g (sym e) back z)) in
    λ i. e i ∷ rest i
