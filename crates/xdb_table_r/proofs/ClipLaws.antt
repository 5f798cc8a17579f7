-- The spans of a view: within its range, and their own pieces.
use Rattle.std.proofs.Common.{◌≡◌, ℕ, Bool, true, false, not, ◌&&◌, cond, List, [], ◌∷◌, ◌++◌, map, Option, Some, None, IfSome, Ok, IsOkAnd, IsTrue, refl, sym, ap, ◌∙◌, subst, inl, inr}
use Rattle.std.proofs.lemmas.Bool.{and_from, and_parts}
use Rattle.xdb_key.proofs.OrderLaws.{upto-not_below, below-successor, lesser_upto_second, second_upto_greater}
use Rattle.xdb_key.specs.Bounds.{Bounds, bounds, holds, meets, covers, successor}
use Rattle.xdb_key.specs.Entries.{Point, Tombstone, tombstone, Reach}
use Rattle.xdb_key.specs.Order.{is_below, is_upto}
use Rattle.xdb_rangedel.specs.Clip.{starting_from, ending_by, part_in, parts_in}
use Rattle.xdb_rangedel.specs.Members.{Has, SameMembers}
use Rattle.xdb_rangedel.specs.Pieces.{ends, splits, cut_span, cut_spans, cut_all, pieces, is_ordered, AreFragments}
use Rattle.xdb_rangedel.proofs.FragmentLaws.{All-at_Has}
use Rattle.xdb_rangedel.proofs.MemberLaws.{Has-append_left, Has-append_right, Has-map, Has-from_map, Has-from_filter_map, Has-append_cases}
use Rattle.xdb_rangedel.proofs.OnlyLaws.{fragments_themselves}
use Rattle.xdb_rangedel.proofs.PieceLaws.{pieces-tell}
use Rattle.xdb_table_r.specs.Reaches.{point_reach, span_reach, reaches, IsLeast, IsExtentOf, LiesWithin, part_at, Reaches}
use Rattle.xdb_table_r.specs.Views.{span_for, spans_in, seen_at, AreSeen}
use Rattle.xdb_block.specs.Rows.{Row}
use Rattle.xdb_table_r.proofs.ReachLaws.{extent_same}

-- ---- spans that no bound of theirs splits are their own pieces

cut_same : (at : List ℕ) (ts : List Tombstone) → ((t : Tombstone) → Has ts t → splits at t ≡ false) → cut_spans at ts ≡ ts
cut_same at [] h = refl
cut_same at (t ∷ ts) h =
    let one : cut_span at t ≡ t ∷ [] = ap (λ b. cond b (tombstone (bounds t.range.lo at) t.seq ∷ tombstone (bounds at t.range.hi) t.seq ∷ []) (t ∷ [])) (h t (inl refl)) in
    ap (λ x. x ++ cut_spans at ts) one ∙ ap (λ x. t ∷ x) (cut_same at ts (λ u g. h u (inr g)))

all_same : (ats : List (List ℕ)) (ts : List Tombstone) → ((at : List ℕ) → Has ats at → (t : Tombstone) → Has ts t → splits at t ≡ false) → cut_all ats ts ≡ ts
all_same [] ts h = refl
all_same (at ∷ ats) ts h = ap (cut_all ats) (cut_same at ts (h at (inl refl))) ∙ all_same ats ts (λ a g. h a (inr g))

ends_same : (s : ℕ) (ts : List Tombstone) → ends (map (span_for s) ts) ≡ ends ts
ends_same s [] = refl
ends_same s (t ∷ ts) = ap (λ x. t.range.lo ∷ t.range.hi ∷ x) (ends_same s ts)

whole : (ts : List Tombstone) → AreFragments ts → (at : List ℕ) → Has (ends ts) at → (t : Tombstone) → Has ts t → splits at t ≡ false
whole ts f at a t h =
    let piece = pieces-tell ts t (λ u g. All-at_Has (λ x. IsTrue (is_ordered x)) ts u f.ordered g) ((fragments_themselves ts f t).1 h) in
    piece.whole at a

pub renumbered_pieces : (s : ℕ) (ts : List Tombstone) → AreFragments ts → pieces (map (span_for s) ts) ≡ map (span_for s) ts
renumbered_pieces s ts f = all_same (ends (map (span_for s) ts)) (map (span_for s) ts) (λ at a t h.
    let from = Has-from_map (span_for s) ts t h in
    subst (λ u. splits at u ≡ false) from.2 (whole ts f at (subst (λ x. Has x at) (ends_same s ts) a) from.0 from.1))

-- ---- within the range

kept_if : {B : Type 0} (b : Bool) (y z : B) → cond b (Some y) None ≡ Some z → y ≡ z
kept_if true y z e = cc
kept_if false y z e = absurd (cc)

part_within : (r : Bounds) (x t : Tombstone) → part_in r x ≡ Some t → covers r t.range ≡ true
part_within r x t e =
    let is : starting_from r.lo (ending_by r.hi x) ≡ t = kept_if (meets x.range r) (starting_from r.lo (ending_by r.hi x)) t e in
    subst (λ u. covers r u.range ≡ true) is (and_from _ _ (second_upto_greater x.range.lo r.lo) (lesser_upto_second x.range.hi r.hi))

spans_by : (b : Bool) (r : Bounds) (s : ℕ) (ts : List Tombstone) (t : Tombstone) → Has (cond b (map (span_for s) (parts_in r ts)) []) t → covers r t.range ≡ true
spans_by false r s ts t h = absurd h
spans_by true r s ts t h =
    let from = Has-from_map (span_for s) (parts_in r ts) t h in
    let part = Has-from_filter_map (part_in r) ts from.0 from.1 in
    subst (λ u. covers r u.range ≡ true) from.2 (part_within r part.0 from.0 part.2)

pub spans_within : (r : Bounds) (s : ℕ) (ts : List Tombstone) (t : Tombstone) → Has (spans_in r s ts) t → covers r t.range ≡ true
spans_within r s ts t h = spans_by (is_below r.lo r.hi) r s ts t h

hull_within : (r : Bounds) (k : List ℕ) → holds r k ≡ true → covers r (bounds k (successor k)) ≡ true
hull_within r k h =
    let parts = and_parts _ _ h in
    let end : is_upto (successor k) r.hi ≡ true = upto-not_below (successor k) r.hi ∙ ap not (below-successor r.hi k ∙ upto-not_below r.hi k ∙ ap not parts.1) in
    and_from _ _ parts.0 end

pub all_within : (r : Bounds) (s : ℕ) (ps : List Point) (ts made : List Tombstone) → AreSeen r s ps → ((t : Tombstone) → Has made t → Has (spans_in r s ts) t) → (h : Reach) → Has (reaches ps made) h → covers r (bounds h.lo h.hi) ≡ true
all_within r s ps ts made seen sub h has = elim (Has-append_cases (map point_reach ps) (map span_reach made) h has) [
  | inl a ↦ let from = Has-from_map point_reach ps h a in subst (λ (x : Reach). covers r (bounds x.lo x.hi) ≡ true) from.2 (hull_within r from.0.key (All-at_Has (λ p. IsTrue (holds r p.key)) ps from.0 seen.within from.1))
  | inr b ↦ let from = Has-from_map span_reach made h b in subst (λ (x : Reach). covers r (bounds x.lo x.hi) ≡ true) from.2 (spans_within r s ts from.0 (sub from.0 from.1))
]

pub least_within : (r : Bounds) (hs : List Reach) (e : Reach) → ((h : Reach) → Has hs h → covers r (bounds h.lo h.hi) ≡ true) → IsLeast hs e → LiesWithin r e
least_within r hs e all least =
    let lo = and_parts _ _ (all least.lo.0 least.lo.1) in
    let hi = and_parts _ _ (all least.hi.0 least.hi.1) in
    and_from _ _ (ap (is_upto r.lo) (sym least.lo.2) ∙ lo.0) (ap (λ x. is_upto x r.hi) (sym least.hi.2) ∙ hi.1)

pub extent_within : (r : Bounds) (s : ℕ) (ps : List Point) (ts made : List Tombstone) (o : Option Reach) → AreSeen r s ps → SameMembers made (spans_in r s ts) → IsExtentOf (reaches ps made) o → IfSome o (LiesWithin r)
extent_within r s ps ts made None seen same h = tt
extent_within r s ps ts made (Some e) seen same h = least_within r (reaches ps made) e (all_within r s ps ts made seen (λ t g. (same t).0 g)) h

-- ---- what a file tells of an extent

along : (ps : List Point) (xs ys : List Tombstone) → ((t : Tombstone) → Has xs t → Has ys t) → (h : Reach) → Has (reaches ps xs) h → Has (reaches ps ys) h
along ps xs ys sub h has = elim (Has-append_cases (map point_reach ps) (map span_reach xs) h has) [
  | inl a ↦ Has-append_left (map point_reach ps) (map span_reach ys) h a
  | inr b ↦ let from = Has-from_map span_reach xs h b in Has-append_right (map point_reach ps) (map span_reach ys) h (subst (λ x. Has (map span_reach ys) x) from.2 (Has-map span_reach ys from.0 (sub from.0 from.1)))
]

pub told_reach : (known : Option (List ℕ)) (r : Bounds) (s : ℕ) (index : List Row) (ps : List Point) (ts made : List Tombstone) (o : Option Reach) → is_below r.lo r.hi ≡ true → IfSome known (λ b. seen_at r s index b ≡ Ok ps)
    → SameMembers made (spans_in r s ts) → IsExtentOf (reaches ps made) o → IfSome known (λ b. IsOkAnd (part_at r s index b) (Reaches r s ts o))
told_reach None r s index ps ts made o some told same h = tt
told_reach (Some b) r s index ps ts made o some told same h =
    let is : part_at r s index b ≡ Ok ps = ap (λ x. cond x (seen_at r s index b) (Ok [])) some ∙ told in
    subst (λ p. IsOkAnd p (Reaches r s ts o)) (sym is) (extent_same (reaches ps made) (reaches ps (spans_in r s ts)) o (λ x. (along ps made (spans_in r s ts) (λ t g. (same t).0 g) x, along ps (spans_in r s ts) made (λ t g. (same t).1 g) x)) h)
