-- Pieces: each lies in a span of its number, between two bounds, and no bound lies inside it.
use Rattle.std.proofs.Common.{◌≡◌, ℕ, Bool, true, false, not, ◌&&◌, cond, List, [], ◌∷◌, inl, inr, ◌⊎◌, refl, sym, ap, ◌∙◌, subst}
use Rattle.std.proofs.lemmas.Bool.{and_parts, and_from, and_left, and_right, and_cases, false≢true, false_from_ne_true}
use Rattle.xdb_key.specs.Order.{is_below, is_upto}
use Rattle.xdb_key.specs.Bounds.{bounds}
use Rattle.xdb_key.specs.Entries.{Tombstone, tombstone}
use Rattle.xdb_key.proofs.OrderLaws.{upto-itself, below-itself, upto-not_below, upto_from_below, upto_trans, upto_antisymm, below_upto, upto_below}
use Rattle.xdb_rangedel.specs.Members.{Has}
use Rattle.xdb_rangedel.specs.Pieces.{ends, splits, cut_span, cut_spans, cut_all, pieces, is_ordered, IsPiece}
use Rattle.xdb_rangedel.proofs.MemberLaws.{Has-append_cases, Has-append_left, Has-append_right}

-- t lies inside s and has its number
pub record LiesIn (s t : Tombstone) : Type 0 where
  pub lo : is_upto s.range.lo t.range.lo ≡ true
  pub hi : is_upto t.range.hi s.range.hi ≡ true
  pub seq : s.seq ≡ t.seq

lies_itself : (s t : Tombstone) → s ≡ t → LiesIn s t
lies_itself s t e = subst (λ x. LiesIn s x) e (record { lo = upto-itself s.range.lo; hi = upto-itself s.range.hi; seq = refl })

lies_trans : (s t u : Tombstone) → LiesIn s t → LiesIn t u → LiesIn s u
lies_trans s t u a b = record {
  lo = upto_trans s.range.lo t.range.lo u.range.lo a.lo b.lo;
  hi = upto_trans u.range.hi t.range.hi s.range.hi b.hi a.hi;
  seq = a.seq ∙ b.seq;
}

cut_inside : (at : List ℕ) (s t : Tombstone) (b : Bool) → splits at s ≡ b → Has (cond b (tombstone (bounds s.range.lo at) s.seq ∷ tombstone (bounds at s.range.hi) s.seq ∷ []) (s ∷ [])) t → LiesIn s t
cut_inside at s t true e (inl h) =
    let left = tombstone (bounds s.range.lo at) s.seq in
    lies_trans s left t (record { lo = upto-itself s.range.lo; hi = upto_from_below at s.range.hi (and_parts (is_below s.range.lo at) (is_below at s.range.hi) e).1; seq = refl }) (lies_itself left t h)
cut_inside at s t true e (inr (inl h)) =
    let right = tombstone (bounds at s.range.hi) s.seq in
    lies_trans s right t (record { lo = upto_from_below s.range.lo at (and_parts (is_below s.range.lo at) (is_below at s.range.hi) e).0; hi = upto-itself s.range.hi; seq = refl }) (lies_itself right t h)
cut_inside at s t true e (inr (inr h)) = absurd h
cut_inside at s t false e (inl h) = lies_itself s t h
cut_inside at s t false e (inr h) = absurd h

cut_spans_from : (at : List ℕ) (ts : List Tombstone) (u : Tombstone) → Has (cut_spans at ts) u → (s : Tombstone) × Has ts s × Has (cut_span at s) u
cut_spans_from at [] u h = absurd h
cut_spans_from at (t ∷ ts) u h = elim (Has-append_cases (cut_span at t) (cut_spans at ts) u h) [
  | inl g ↦ (t, inl refl, g)
  | inr g ↦ let from = cut_spans_from at ts u g in (from.0, inr from.1, from.2)
]

cut_all_inside : (ats : List (List ℕ)) (ts : List Tombstone) (t : Tombstone) → Has (cut_all ats ts) t → (s : Tombstone) × Has ts s × LiesIn s t
cut_all_inside [] ts t h = (t, h, lies_itself t t refl)
cut_all_inside (at ∷ ats) ts t h =
    let later = cut_all_inside ats (cut_spans at ts) t h in
    let from = cut_spans_from at ts later.0 later.1 in
    (from.0, from.1, lies_trans from.0 later.0 t (cut_inside at from.0 later.0 (splits at from.0) refl from.2) later.2)

-- a piece lies in a span of its number
pub piece_inside : (ts : List Tombstone) (t : Tombstone) → Has (pieces ts) t → (s : Tombstone) × Has ts s × (is_upto s.range.lo t.range.lo ≡ true) × (is_upto t.range.hi s.range.hi ≡ true) × (s.seq ≡ t.seq)
piece_inside ts t h =
    let from = cut_all_inside (ends ts) ts t h in
    (from.0, from.1, from.2.lo, from.2.hi, from.2.seq)

-- what a piece is

-- t lies in s, starts and ends with it or at one of the bounds, and none of these lies inside t
record Cut (ats : List (List ℕ)) (s t : Tombstone) : Type 0 where
  inside : LiesIn s t
  start : (s.range.lo ≡ t.range.lo) ⊎ Has ats t.range.lo
  end : (s.range.hi ≡ t.range.hi) ⊎ Has ats t.range.hi
  whole : (at : List ℕ) → Has ats at → splits at t ≡ false

-- u is what s is cut into at one bound
record CutOnce (at : List ℕ) (s u : Tombstone) : Type 0 where
  inside : LiesIn s u
  start : (s.range.lo ≡ u.range.lo) ⊎ (at ≡ u.range.lo)
  end : (s.range.hi ≡ u.range.hi) ⊎ (at ≡ u.range.hi)
  whole : splits at u ≡ false
  ordered : is_ordered u ≡ true

cut_once : (at : List ℕ) (s t u : Tombstone) → t ≡ u → CutOnce at s t → CutOnce at s u
cut_once at s t u e c = subst (λ x. CutOnce at s x) e c

below-not_itself : (a : List ℕ) (b : Bool) → (b && is_below a a) ≡ false
below-not_itself a b = and_right b (is_below a a) (below-itself a)

cut_tells : (at : List ℕ) (s u : Tombstone) (b : Bool) → splits at s ≡ b → is_ordered s ≡ true → Has (cond b (tombstone (bounds s.range.lo at) s.seq ∷ tombstone (bounds at s.range.hi) s.seq ∷ []) (s ∷ [])) u → CutOnce at s u
cut_tells at s u true e o (inl h) =
    let (after, before) = and_parts (is_below s.range.lo at) (is_below at s.range.hi) e in
    cut_once at s (tombstone (bounds s.range.lo at) s.seq) u h (record {
      inside = record { lo = upto-itself s.range.lo; hi = upto_from_below at s.range.hi before; seq = refl };
      start = inl refl;
      end = inr refl;
      whole = below-not_itself at (is_below s.range.lo at);
      ordered = after;
    })
cut_tells at s u true e o (inr (inl h)) =
    let (after, before) = and_parts (is_below s.range.lo at) (is_below at s.range.hi) e in
    cut_once at s (tombstone (bounds at s.range.hi) s.seq) u h (record {
      inside = record { lo = upto_from_below s.range.lo at after; hi = upto-itself s.range.hi; seq = refl };
      start = inr refl;
      end = inl refl;
      whole = and_left (is_below at at) (is_below at s.range.hi) (below-itself at);
      ordered = before;
    })
cut_tells at s u true e o (inr (inr h)) = absurd h
cut_tells at s u false e o (inl h) =
    cut_once at s s u h (record { inside = record { lo = upto-itself s.range.lo; hi = upto-itself s.range.hi; seq = refl }; start = inl refl; end = inl refl; whole = e; ordered = o })
cut_tells at s u false e o (inr h) = absurd h

-- what lies inside a part lies inside the whole
splits_inside : (at : List ℕ) (u t : Tombstone) → LiesIn u t → splits at u ≡ false → splits at t ≡ false
splits_inside at u t l free = false_from_ne_true (splits at t) (λ h.
    let (after, before) = and_parts (is_below t.range.lo at) (is_below at t.range.hi) h in
    false≢true (sym free ∙ and_from (is_below u.range.lo at) (is_below at u.range.hi) (upto_below u.range.lo t.range.lo at l.lo after) (below_upto at t.range.hi u.range.hi before l.hi)))

cut_more : (at : List ℕ) (ats : List (List ℕ)) (s u t : Tombstone) → CutOnce at s u → Cut ats u t → Cut (at ∷ ats) s t
cut_more at ats s u t a b = record {
  inside = lies_trans s u t a.inside b.inside;
  start = elim b.start [
    | inl e ↦ elim a.start [ inl f ↦ inl (f ∙ e) | inr f ↦ inr (inl (f ∙ e)) ]
    | inr h ↦ inr (inr h)
  ];
  end = elim b.end [
    | inl e ↦ elim a.end [ inl f ↦ inl (f ∙ e) | inr f ↦ inr (inl (f ∙ e)) ]
    | inr h ↦ inr (inr h)
  ];
  whole = λ x h. elim h [
    | inl e ↦ ap (λ y. splits y t) (sym e) ∙ splits_inside at u t b.inside a.whole
    | inr g ↦ b.whole x g
  ];
}

cut_all_tells : (ats : List (List ℕ)) (ts : List Tombstone) (t : Tombstone) → ((s : Tombstone) → Has ts s → is_ordered s ≡ true) → Has (cut_all ats ts) t → (s : Tombstone) × Has ts s × Cut ats s t × (is_ordered t ≡ true)
cut_all_tells [] ts t ordered h =
    (t, h, record { inside = record { lo = upto-itself t.range.lo; hi = upto-itself t.range.hi; seq = refl }; start = inl refl; end = inl refl; whole = λ at g. absurd g }, ordered t h)
cut_all_tells (at ∷ ats) ts t ordered h =
    let once = λ (u : Tombstone) (g : Has (cut_spans at ts) u).
    let from = cut_spans_from at ts u g in
    cut_tells at from.0 u (splits at from.0) refl (ordered from.0 from.1) from.2 in
    let later = cut_all_tells ats (cut_spans at ts) t (λ u g. (once u g).ordered) h in
    let from = cut_spans_from at ts later.0 later.1 in
    (from.0, from.1, cut_more at ats from.0 later.0 t (cut_tells at from.0 later.0 (splits at from.0) refl (ordered from.0 from.1) from.2) later.2, later.3)

-- and what has that is there

cut_spans_has : (at : List ℕ) (ts : List Tombstone) (s u : Tombstone) → Has ts s → Has (cut_span at s) u → Has (cut_spans at ts) u
cut_spans_has at [] s u h g = absurd h
cut_spans_has at (t ∷ ts) s u (inl e) g = Has-append_left (cut_span at t) (cut_spans at ts) u (subst (λ x. Has (cut_span at x) u) (sym e) g)
cut_spans_has at (t ∷ ts) s u (inr h) g = Has-append_right (cut_span at t) (cut_spans at ts) u (cut_spans_has at ts s u h g)

not_below_both : (a b : List ℕ) → is_below a b ≡ true → is_upto b a ≡ true → ⊥
not_below_both a b h g = false≢true (sym (below-itself a) ∙ below_upto a b a h g)

upto-from_not_below : (a b : List ℕ) → is_below a b ≡ false → is_upto b a ≡ true
upto-from_not_below a b h = upto-not_below b a ∙ ap not h

-- where the bound doesn't lie inside s, s is the part that t lies in
cut_unsplit : (at : List ℕ) (ats : List (List ℕ)) (s t : Tombstone) → splits at s ≡ false → is_ordered t ≡ true → Cut (at ∷ ats) s t → Cut ats s t
cut_unsplit at ats s t free o c = record {
  inside = c.inside;
  start = elim c.start [
    | inl e ↦ inl e
    | inr (inl e) ↦ inl (
        let inner : is_below at s.range.hi ≡ true = ap (λ x. is_below x s.range.hi) e ∙ below_upto t.range.lo t.range.hi s.range.hi o c.inside.hi in
        let outer : is_below s.range.lo at ≡ false = false_from_ne_true (is_below s.range.lo at) (λ h. false≢true (sym free ∙ and_from (is_below s.range.lo at) (is_below at s.range.hi) h inner)) in
        upto_antisymm s.range.lo t.range.lo c.inside.lo (ap (λ x. is_upto x s.range.lo) (sym e) ∙ upto-from_not_below s.range.lo at outer))
    | inr (inr h) ↦ inr h
  ];
  end = elim c.end [
    | inl e ↦ inl e
    | inr (inl e) ↦ inl (
        let inner : is_below s.range.lo at ≡ true = ap (λ x. is_below s.range.lo x) e ∙ upto_below s.range.lo t.range.lo t.range.hi c.inside.lo o in
        let outer : is_below at s.range.hi ≡ false = false_from_ne_true (is_below at s.range.hi) (λ h. false≢true (sym free ∙ and_from (is_below s.range.lo at) (is_below at s.range.hi) inner h)) in
        upto_antisymm s.range.hi t.range.hi (ap (λ x. is_upto s.range.hi x) (sym e) ∙ upto-from_not_below at s.range.hi outer) c.inside.hi)
    | inr (inr h) ↦ inr h
  ];
  whole = λ x h. c.whole x (inr h);
}

cut_left : (at : List ℕ) (ats : List (List ℕ)) (s t : Tombstone) → splits at s ≡ true → is_ordered t ≡ true → is_upto t.range.hi at ≡ true → Cut (at ∷ ats) s t → Cut ats (tombstone (bounds s.range.lo at) s.seq) t
cut_left at ats s t split o left c = record {
  inside = record { lo = c.inside.lo; hi = left; seq = c.inside.seq };
  start = elim c.start [
    | inl e ↦ inl e
    | inr (inl e) ↦ absurd (not_below_both t.range.lo t.range.hi o (ap (λ x. is_upto t.range.hi x) (sym e) ∙ left))
    | inr (inr h) ↦ inr h
  ];
  end = elim c.end [
    | inl e ↦ absurd (not_below_both at s.range.hi (and_parts (is_below s.range.lo at) (is_below at s.range.hi) split).1 (ap (λ x. is_upto x at) e ∙ left))
    | inr (inl e) ↦ inl e
    | inr (inr h) ↦ inr h
  ];
  whole = λ x h. c.whole x (inr h);
}

cut_right : (at : List ℕ) (ats : List (List ℕ)) (s t : Tombstone) → splits at s ≡ true → is_ordered t ≡ true → is_upto at t.range.lo ≡ true → Cut (at ∷ ats) s t → Cut ats (tombstone (bounds at s.range.hi) s.seq) t
cut_right at ats s t split o right c = record {
  inside = record { lo = right; hi = c.inside.hi; seq = c.inside.seq };
  start = elim c.start [
    | inl e ↦ absurd (not_below_both s.range.lo at (and_parts (is_below s.range.lo at) (is_below at s.range.hi) split).0 (ap (λ x. is_upto at x) e ∙ right))
    | inr (inl e) ↦ inl e
    | inr (inr h) ↦ inr h
  ];
  end = elim c.end [
    | inl e ↦ inl e
    | inr (inl e) ↦ absurd (not_below_both t.range.lo t.range.hi o (ap (λ x. is_upto x t.range.lo) (sym e) ∙ right))
    | inr (inr h) ↦ inr h
  ];
  whole = λ x h. c.whole x (inr h);
}

-- the part of s, cut at one bound, that t lies in
cut_source : (at : List ℕ) (ats : List (List ℕ)) (s t : Tombstone) (b : Bool) → splits at s ≡ b → is_ordered t ≡ true → Cut (at ∷ ats) s t → (u : Tombstone) × Has (cond b (tombstone (bounds s.range.lo at) s.seq ∷ tombstone (bounds at s.range.hi) s.seq ∷ []) (s ∷ [])) u × Cut ats u t
cut_source at ats s t false e o c = (s, inl refl, cut_unsplit at ats s t e o c)
cut_source at ats s t true e o c = elim (and_cases (is_below t.range.lo at) (is_below at t.range.hi) (c.whole at (inl refl))) [
  | inl after ↦ (tombstone (bounds at s.range.hi) s.seq, inr (inl refl), cut_right at ats s t e o (upto-from_not_below t.range.lo at after) c)
  | inr before ↦ (tombstone (bounds s.range.lo at) s.seq, inl refl, cut_left at ats s t e o (upto-from_not_below at t.range.hi before) c)
]

same_span : (s t : Tombstone) → s.range.lo ≡ t.range.lo → s.range.hi ≡ t.range.hi → s.seq ≡ t.seq → s ≡ t
same_span s t e f g = λ i. record { range = record { lo = e i; hi = f i }; seq = g i }

-- one or the other, and the other can't be
sure : {P : Type 0} → P ⊎ ⊥ → P
sure (inl p) = p
sure (inr h) = absurd h

cut_all_has : (ats : List (List ℕ)) (ts : List Tombstone) (s t : Tombstone) → Has ts s → is_ordered t ≡ true → Cut ats s t → Has (cut_all ats ts) t
cut_all_has [] ts s t h o c = subst (λ x. Has ts x) (same_span s t (sure c.start) (sure c.end) c.inside.seq) h
cut_all_has (at ∷ ats) ts s t h o c =
    let source = cut_source at ats s t (splits at s) refl o c in
    cut_all_has ats (cut_spans at ts) source.0 t (cut_spans_has at ts s source.0 h source.1) o source.2

pub ends-has_lo : (ts : List Tombstone) (s : Tombstone) → Has ts s → Has (ends ts) s.range.lo
ends-has_lo [] s h = absurd h
ends-has_lo (t ∷ ts) s (inl e) = inl (ap (λ x. x.range.lo) e)
ends-has_lo (t ∷ ts) s (inr h) = inr (inr (ends-has_lo ts s h))

pub ends-has_hi : (ts : List Tombstone) (s : Tombstone) → Has ts s → Has (ends ts) s.range.hi
ends-has_hi [] s h = absurd h
ends-has_hi (t ∷ ts) s (inl e) = inr (inl (ap (λ x. x.range.hi) e))
ends-has_hi (t ∷ ts) s (inr h) = inr (inr (ends-has_hi ts s h))

-- a bound of the span, or one of the bounds
among : {x y : List ℕ} (ats : List (List ℕ)) → Has ats x → (x ≡ y) ⊎ Has ats y → Has ats y
among ats h (inl e) = subst (λ z. Has ats z) e h
among ats h (inr g) = g

pub pieces-tell : (ts : List Tombstone) (t : Tombstone) → ((s : Tombstone) → Has ts s → is_ordered s ≡ true) → Has (pieces ts) t → IsPiece ts t
pieces-tell ts t ordered h =
    let (s, has, cut, o) = cut_all_tells (ends ts) ts t ordered h in
    record {
      source = (s, has, and_from (is_upto s.range.lo t.range.lo) (is_upto t.range.hi s.range.hi) cut.inside.lo cut.inside.hi, cut.inside.seq);
      ordered = o;
      start = among (ends ts) (ends-has_lo ts s has) cut.start;
      end = among (ends ts) (ends-has_hi ts s has) cut.end;
      whole = cut.whole;
    }

pub pieces-has : (ts : List Tombstone) (t : Tombstone) → IsPiece ts t → Has (pieces ts) t
pieces-has ts t p =
    let (s, has, cover, seqs) = p.source in
    let (lo, hi) = and_parts (is_upto s.range.lo t.range.lo) (is_upto t.range.hi s.range.hi) cover in
    cut_all_has (ends ts) ts s t has p.ordered (record { inside = record { lo = lo; hi = hi; seq = seqs }; start = inr p.start; end = inr p.end; whole = p.whole })
