-- Fragments as rows stand in the order of spans.
use Rattle.std.proofs.Common.{◌≡◌, suc, ◌^◌, ◌<◌, true, ◌&&◌, ◌||◌, ltb, List, [], ◌∷◌, ◌++◌, map, All, Some, None, IsTrue, refl, ap, ◌∙◌, arith, inl, inr, sym}
use Rattle.std.specs.declared.cmp.Ordering.TheVariants.{Less}
use Rattle.std.specs.Ordering.{nat_cmp, is_lt, is_eq, eq_by_cmp, ordering_then}
use Rattle.std.specs.List.{AllPairs}
use Rattle.std.proofs.lemmas.Bool.{and_parts, ltb-true, and_from, or_cases, or_left, or_right}
use Rattle.std.specs.Cmp.{Equal-is, nat_cmp_is}
use Rattle.xdb_key.proofs.OrderLaws.{below_upto}
use Rattle.xdb_key.specs.Entries.{Tombstone}
use Rattle.xdb_key.specs.Kinds.{trailer}
use Rattle.xdb_key.specs.Order.{key_cmp, is_upto}
use Rattle.xdb_key.specs.declared.op.Kind.TheVariants as kinds
use Rattle.xdb_block.proofs.SeekLaws.{lt-tells}
use Rattle.xdb_block.specs.Rows.{precedes, is_apart}
use Rattle.xdb_rangedel.specs.Pieces.{precedes as span_precedes, is_ordered, AreFragments}
use Rattle.xdb_table_w.specs.Content.{span_row, last_of, lies_behind}
use Rattle.xdb_table_w.proofs.KeyRows.{internal-user, internal-trailer}

last_span : Tombstone → List Tombstone → Tombstone
last_span s [] = s
last_span s (t ∷ ts) = last_span t ts

last_row_is : (s : Tombstone) (ts : List Tombstone) → last_of (Some (span_row s)) (map span_row ts) ≡ Some (span_row (last_span s ts))
unfolding last_span
last_row_is s [] = refl
last_row_is s (t ∷ ts) = last_row_is t ts

neighbours : (s : Tombstone) (bs : List Tombstone) (t : Tombstone) (after : List Tombstone) → AllPairs (λ a b. IsTrue (span_precedes a b)) (s ∷ bs ++ t ∷ after) → span_precedes (last_span s bs) t ≡ true
unfolding last_span
neighbours s [] t after h = h 0 1 s (omega arith) (omega arith)
neighbours s (b ∷ bs) t after h = neighbours b bs t after (λ i j d order less. h (suc i) (suc j) d (omega arith) (omega arith))

of_last : (P : Tombstone → Type 0) (s : Tombstone) (bs : List Tombstone) (t : Tombstone) (after : List Tombstone) → All P (s ∷ bs ++ t ∷ after) → P (last_span s bs) × P t
unfolding last_span
of_last P s [] t after h = (h 0 s (omega arith), h 1 s (omega arith))
of_last P s (b ∷ bs) t after h = of_last P b bs t after (λ k d less. h (suc k) d (omega arith))

-- the tests on rows, on spans
row_precedes : (s t : Tombstone) → s.seq < 2 ^ 56 → t.seq < 2 ^ 56 → precedes (span_row s).key (span_row t).key ≡ is_lt (ordering_then (key_cmp s.range.lo t.range.lo) (nat_cmp (trailer t.seq kinds.SpanDel) (trailer s.seq kinds.SpanDel)))
row_precedes s t small_s small_t =
    λ i. is_lt (ordering_then (key_cmp (internal-user s.range.lo s.seq kinds.SpanDel i) (internal-user t.range.lo t.seq kinds.SpanDel i)) (nat_cmp (internal-trailer t.range.lo t.seq kinds.SpanDel small_t i) (internal-trailer s.range.lo s.seq kinds.SpanDel small_s i)))

row_apart : (s t : Tombstone) → is_apart (span_row s) (span_row t) ≡ ((is_eq (key_cmp s.range.lo t.range.lo) && is_eq (key_cmp s.range.hi t.range.hi)) || is_upto s.range.hi t.range.lo)
row_apart s t =
    λ i. (is_eq (key_cmp (internal-user s.range.lo s.seq kinds.SpanDel i) (internal-user t.range.lo t.seq kinds.SpanDel i)) && is_eq (key_cmp s.range.hi t.range.hi)) || is_upto s.range.hi (internal-user t.range.lo t.seq kinds.SpanDel i)

behind : (s t : Tombstone) → s.seq < 2 ^ 56 → t.seq < 2 ^ 56 → is_ordered s ≡ true → span_precedes s t ≡ true → lies_behind (Some (span_row s)) (span_row t) ≡ true
behind s t small_s small_t some h = elim (or_cases _ (is_upto s.range.hi t.range.lo) h) [
  | inl e ↦
      let parts = and_parts (eq_by_cmp key_cmp s.range.lo t.range.lo && eq_by_cmp key_cmp s.range.hi t.range.hi) (ltb t.seq s.seq) e in
      let same = and_parts (eq_by_cmp key_cmp s.range.lo t.range.lo) (eq_by_cmp key_cmp s.range.hi t.range.hi) parts.0 in
      let less : t.seq < s.seq = ltb-true t.seq s.seq parts.1 in
      let smaller : trailer t.seq kinds.SpanDel < trailer s.seq kinds.SpanDel = omega arith in
      let order = row_precedes s t small_s small_t ∙ ap (λ o. is_lt (ordering_then o (nat_cmp (trailer t.seq kinds.SpanDel) (trailer s.seq kinds.SpanDel)))) ((Equal-is (key_cmp s.range.lo t.range.lo)).0 same.0) ∙ ap is_lt (sym (nat_cmp_is (trailer t.seq kinds.SpanDel) (trailer s.seq kinds.SpanDel) Less smaller)) in
      and_from _ _ order (row_apart s t ∙ or_left _ _ (and_from _ _ same.0 same.1))
  | inr e ↦
      let starts = below_upto s.range.lo s.range.hi t.range.lo some e in
      let order = row_precedes s t small_s small_t ∙ ap (λ o. is_lt (ordering_then o (nat_cmp (trailer t.seq kinds.SpanDel) (trailer s.seq kinds.SpanDel)))) (lt-tells (key_cmp s.range.lo t.range.lo) starts) in
      and_from _ _ order (row_apart s t ∙ or_right _ _ e)
]

pub in_order : (before : List Tombstone) (t : Tombstone) (after : List Tombstone) → AreFragments (before ++ t ∷ after) → All (λ s. s.seq < 2 ^ 56) (before ++ t ∷ after) → IsTrue (lies_behind (last_of None (map span_row before)) (span_row t))
in_order [] t after h small = refl
in_order (s ∷ bs) t after h small =
    let numbers = of_last (λ x. x.seq < 2 ^ 56) s bs t after small in
    let ordered = of_last (λ x. IsTrue (is_ordered x)) s bs t after h.ordered in
    ap (λ o. lies_behind o (span_row t)) (last_row_is s bs) ∙ behind (last_span s bs) t numbers.0 numbers.1 ordered.0 (neighbours s bs t after h.apart)
