-- The extent of rows in order comes from the first and the last of them.
use Rattle.std.proofs.Common.{◌≡◌, ℕ, ◌+◌, ◌≤◌, Bool, true, false, ◌&&◌, ◌||◌, cond, List, [], ◌∷◌, ◌++◌, length, map, Option, Some, None, IsTrue, refl, sym, subst, arith, inl, inr}
use Rattle.std.specs.List.{AllByRecursion}
use Rattle.std.specs.Option.{option_map}
use Rattle.std.specs.declared.cmp.Ordering.{Ordering}
use Rattle.std.specs.declared.cmp.Ordering.TheVariants.{Less, Equal, Greater}
use Rattle.std.specs.Ordering.{nat_cmp, is_lt, is_le, is_eq, ordering_then}
use Rattle.std.proofs.lemmas.Bool.{and_parts, false≢true, and_from}
use Rattle.std.specs.Cmp.{Equal-is}
use Rattle.xdb_key.proofs.OrderLaws.{key_exact, upto_trans, upto_below, below_upto, upto_from_below, upto-itself, key-below-successor, lesser_upto_first, lesser_upto_second, first_upto_greater, second_upto_greater}
use Rattle.xdb_key.specs.Bounds.{bounds, holds, covers, successor}
use Rattle.xdb_key.specs.Entries.{Reach, reach}
use Rattle.xdb_key.specs.Order.{key_cmp, is_below, is_upto}
use Rattle.xdb_block.specs.declared.kind.BlockKind.TheVariants.{Point, Spans}
use Rattle.xdb_block.specs.Kept.{last_key}
use Rattle.xdb_block.specs.Rows.{Row, user_part, trailer_part, precedes, is_apart, suits, follows, Follow}
use Rattle.xdb_rangedel.proofs.MemberLaws.{Has-append_left, Has-append_right}
use Rattle.xdb_rangedel.specs.Members.{Has}
use Rattle.xdb_table_w.specs.declared.seqs.Seqs.{Seqs}
use Rattle.xdb_table_w.specs.Content.{content, last_of}
use Rattle.xdb_table_w.specs.Extents.{user, end, numbers, IsExtent, Spread, lesser, greater, hull_end}
use Rattle.xdb_table_w.specs.Halves.{first_of}

-- ---- neighbours

then_le : (r s : Ordering) → is_lt (ordering_then r s) ≡ true → is_le r ≡ true
then_le Less s h = refl
then_le Equal s h = refl
then_le Greater s h = absurd (false≢true h)

user_rises : (a b : Row) → precedes a.key b.key ≡ true → is_upto (user a) (user b) ≡ true
user_rises a b h = then_le (key_cmp (user a) (user b)) (nat_cmp (trailer_part b.key) (trailer_part a.key)) h

point_step : (a b : Row) → follows Point (Some a) b ≡ true → is_upto (user a) (user b) ≡ true
point_step a b h = user_rises a b (and_parts (suits Point b) (precedes a.key b.key) (and_parts _ _ h).0).1

span_step : (a b : Row) → follows Spans (Some a) b ≡ true → is_upto (user a) (user b) ≡ true
span_step a b h = user_rises a b (and_parts (suits Spans b) (precedes a.key b.key) (and_parts _ _ h).0).1

pub span_some : (r : Row) → suits Spans r ≡ true → is_below (user r) (end r) ≡ true
span_some r h = (and_parts _ _ h).1

end_by : (a b : Row) (same after : Bool) → (same || after) ≡ true → (same ≡ true → is_upto (end a) (end b) ≡ true) → (after ≡ true → is_upto (end a) (end b) ≡ true) → is_upto (end a) (end b) ≡ true
end_by a b true after h f g = f refl
end_by a b false after h f g = g h

end_step : (a b : Row) → follows Spans (Some a) b ≡ true → is_upto (end a) (end b) ≡ true
end_step a b h =
    let parts = and_parts (suits Spans b && precedes a.key b.key) (is_apart a b) h in
    let some = span_some b (and_parts (suits Spans b) (precedes a.key b.key) parts.0).0 in
    end_by a b (is_eq (key_cmp (user a) (user b)) && is_eq (key_cmp (end a) (end b))) (is_upto (end a) (user b)) parts.1
    (λ e. let same = (and_parts (is_eq (key_cmp (user a) (user b))) (is_eq (key_cmp (end a) (end b))) e).1 in
    subst (λ x. is_upto (end a) x ≡ true) (key_exact (end a) (end b) ((Equal-is (key_cmp (end a) (end b))).0 same)) (upto-itself (end a)))
    (λ e. upto_trans (end a) (user b) (end b) e (upto_from_below (user b) (end b) some))

-- ---- the last row

last_row : Row → List Row → Row
last_row q [] = q
last_row q (r ∷ rs) = last_row r rs

last_is : (q : Row) (rs : List Row) → last_of (Some q) rs ≡ Some (last_row q rs)
unfolding last_row
last_is q [] = refl
last_is q (r ∷ rs) = last_is r rs

last_key_is : (q : Row) (rs : List Row) → last_key q.key rs ≡ (last_row q rs).key
unfolding last_row
last_key_is q [] = refl
last_key_is q (r ∷ rs) = last_key_is r rs

point_last : (q : Row) (rs : List Row) → Follow Point (Some q) rs → is_upto (user q) (user (last_row q rs)) ≡ true
unfolding last_row
point_last q [] h = upto-itself (user q)
point_last q (r ∷ rs) h = upto_trans (user q) (user r) (user (last_row r rs)) (point_step q r h.0) (point_last r rs h.1)

end_last : (q : Row) (rs : List Row) → Follow Spans (Some q) rs → is_upto (end q) (end (last_row q rs)) ≡ true
unfolding last_row
end_last q [] h = upto-itself (end q)
end_last q (r ∷ rs) h = upto_trans (end q) (end r) (end (last_row r rs)) (end_step q r h.0) (end_last r rs h.1)

has_user : (q : Row) (rs : List Row) → Has (map (λ r. successor (user r)) (q ∷ rs)) (successor (user (last_row q rs)))
unfolding last_row
has_user q [] = inl refl
has_user q (r ∷ rs) = inr (has_user r rs)

has_end : (q : Row) (rs : List Row) → Has (map end (q ∷ rs)) (end (last_row q rs))
unfolding last_row
has_end q [] = inl refl
has_end q (r ∷ rs) = inr (has_end r rs)

-- ---- inside

points_inside : (lo hi : List ℕ) (q : Row) (rs : List Row) → is_upto lo (user q) ≡ true → is_upto (successor (user (last_row q rs))) hi ≡ true → Follow Point (Some q) rs → AllByRecursion (λ r. IsTrue (holds (bounds lo hi) (user r))) (q ∷ rs)
unfolding last_row
points_inside lo hi q [] low high h =
    let below = below_upto (user q) (successor (user q)) hi (key-below-successor (user q)) high in
    (and_from (is_upto lo (user q)) (is_below (user q) hi) low below, tt)
points_inside lo hi q (r ∷ rs) low high h =
    let top = user (last_row r rs) in
    let upto = upto_trans (user q) (user r) top (point_step q r h.0) (point_last r rs h.1) in
    let below = below_upto (user q) (successor top) hi (upto_below (user q) top (successor top) upto (key-below-successor top)) high in
    (and_from (is_upto lo (user q)) (is_below (user q) hi) low below, points_inside lo hi r rs (upto_trans lo (user q) (user r) low (point_step q r h.0)) high h.1)

spans_inside : (lo hi : List ℕ) (q : Row) (rs : List Row) → is_upto lo (user q) ≡ true → is_upto (end (last_row q rs)) hi ≡ true → Follow Spans (Some q) rs → AllByRecursion (λ r. IsTrue (covers (bounds lo hi) (bounds (user r) (end r)))) (q ∷ rs)
unfolding last_row
spans_inside lo hi q [] low high h = (and_from (is_upto lo (user q)) (is_upto (end q) hi) low high, tt)
spans_inside lo hi q (r ∷ rs) low high h =
    let top = end (last_row r rs) in
    let upto = upto_trans (end q) (end r) top (end_step q r h.0) (end_last r rs h.1) in
    (and_from (is_upto lo (user q)) (is_upto (end q) hi) low (upto_trans (end q) top hi upto high), spans_inside lo hi r rs (upto_trans lo (user q) (user r) low (span_step q r h.0)) high h.1)

one_of : (xs : List (List ℕ)) (t : Bool) (a b : List ℕ) → Has xs a → Has xs b → Has xs (cond t a b)
one_of xs true a b h g = h
one_of xs false a b h g = g

-- ---- the extent

abbrev pub range_lo : List Row → List Row → List ℕ
range_lo points spans = lesser (option_map user (first_of points)) (option_map user (first_of spans))

abbrev pub range_hi : List Row → List Row → List ℕ
range_hi points spans = greater (hull_end points) (option_map end (last_of None spans))

abbrev pub extent_of : List Row → List Row → Seqs → Reach
extent_of points spans s = reach (bounds (range_lo points spans) (range_hi points spans)) s.lo s.hi

spans_alone : (q : Row) (rs : List Row) (s : Seqs) → Follow Spans None (q ∷ rs) → Spread (numbers [] ++ numbers (q ∷ rs)) (Some s) → IsExtent (content [] (q ∷ rs)) (extent_of [] (q ∷ rs) s)
spans_alone q rs s h n =
    subst (λ (o : Option Row). IsExtent (content [] (q ∷ rs)) (reach (bounds (user q) (greater None (option_map end o))) s.lo s.hi)) (sym (last_is q rs)) (record {
      hulls = tt;
      spans = spans_inside (user q) (end (last_row q rs)) q rs (upto-itself (user q)) (upto-itself (end (last_row q rs))) h.1;
      lo = inl refl;
      hi = has_end q rs;
      between = n.0;
      seq_lo = n.1;
      seq_hi = n.2;
    })

points_alone : (p : Row) (ps : List Row) (s : Seqs) → Follow Point None (p ∷ ps) → Spread (numbers (p ∷ ps) ++ numbers []) (Some s) → IsExtent (content (p ∷ ps) []) (extent_of (p ∷ ps) [] s)
points_alone p ps s h n =
    let top = successor (user (last_row p ps)) in
    subst (λ (k : List ℕ). IsExtent (content (p ∷ ps) []) (reach (bounds (user p) (successor (user_part k))) s.lo s.hi)) (sym (last_key_is p ps)) (record {
      hulls = points_inside (user p) top p ps (upto-itself (user p)) (upto-itself top) h.1;
      spans = tt;
      lo = inl refl;
      hi = Has-append_left (map (λ r. successor (user r)) (p ∷ ps)) [] top (has_user p ps);
      between = n.0;
      seq_lo = n.1;
      seq_hi = n.2;
    })

points_and_spans : (p : Row) (ps : List Row) (q : Row) (rs : List Row) (s : Seqs) → Follow Point None (p ∷ ps) → Follow Spans None (q ∷ rs) → Spread (numbers (p ∷ ps) ++ numbers (q ∷ rs)) (Some s) → IsExtent (content (p ∷ ps) (q ∷ rs)) (extent_of (p ∷ ps) (q ∷ rs) s)
points_and_spans p ps q rs s h g n =
    let top = successor (user (last_row p ps)) in
    let last = end (last_row q rs) in
    let lo = cond (is_below (user p) (user q)) (user p) (user q) in
    let hi = cond (is_below top last) last top in
    let points = p ∷ ps in
    let spans = q ∷ rs in
    let made : IsExtent (content points spans) (reach (bounds lo hi) s.lo s.hi) = record {
      hulls = points_inside lo hi p ps (lesser_upto_second (user q) (user p)) (first_upto_greater top last) h.1;
      spans = spans_inside lo hi q rs (lesser_upto_first (user q) (user p)) (second_upto_greater top last) g.1;
      lo = one_of (map user points ++ map user spans) (is_below (user p) (user q)) (user p) (user q) (inl refl) (Has-append_right (map user points) (map user spans) (user q) (inl refl));
      hi = one_of (map (λ r. successor (user r)) points ++ map end spans) (is_below top last) last top (Has-append_right (map (λ r. successor (user r)) points) (map end spans) last (has_end q rs)) (Has-append_left (map (λ r. successor (user r)) points) (map end spans) top (has_user p ps));
      between = n.0;
      seq_lo = n.1;
      seq_hi = n.2;
    } in
    subst (λ (o : Option Row). IsExtent (content points spans) (reach (bounds lo (greater (hull_end points) (option_map end o))) s.lo s.hi)) (sym (last_is q rs))
    (subst (λ (k : List ℕ). IsExtent (content points spans) (reach (bounds lo (greater (Some (successor (user_part k))) (Some last))) s.lo s.hi)) (sym (last_key_is p ps)) made)

pub is_extent : (points spans : List Row) (s : Seqs) → Follow Point None points → Follow Spans None spans → 1 ≤ length points + length spans → Spread (numbers points ++ numbers spans) (Some s) → IsExtent (content points spans) (extent_of points spans s)
is_extent [] [] s h g some n = absurd (omega arith)
is_extent [] (q ∷ rs) s h g some n = spans_alone q rs s g n
is_extent (p ∷ ps) [] s h g some n = points_alone p ps s h n
is_extent (p ∷ ps) (q ∷ rs) s h g some n = points_and_spans p ps q rs s h g n

-- its start stands before its end
pub extent_ordered : (points spans : List Row) (e : Reach) → Follow Spans None spans → 1 ≤ length points + length spans → IsExtent (content points spans) e → is_below e.lo e.hi ≡ true
extent_ordered [] [] e g some x = absurd (omega arith)
extent_ordered (p ∷ ps) spans e g some x =
    let held = and_parts (is_upto e.lo (user p)) (is_below (user p) e.hi) x.hulls.0 in
    upto_below e.lo (user p) e.hi held.0 held.1
extent_ordered [] (q ∷ rs) e g some x =
    let held = and_parts (is_upto e.lo (user q)) (is_upto (end q) e.hi) x.spans.0 in
    below_upto e.lo (end q) e.hi (upto_below e.lo (user q) (end q) held.0 (span_some q g.0)) held.1
