-- Entries as rows of a table's point blocks: entries in internal order are rows in order, and a row tells the entry.
use Rattle.std.proofs.Common.{◌≡◌, ℕ, suc, ◌+◌, ◌%◌, ◌^◌, ◌<◌, true, List, [], ◌∷◌, ◌++◌, length, get_or, take, drop, map, All, Some, None, IsTrue, refl, sym, ap, ◌∙◌, subst, arith, take-append-drop}
use Rattle.std.proofs.lemmas.List.{take_more, drop_more, map-append}
use Rattle.std.specs.List.{AllPairs}
use Rattle.std.specs.Ordering.{nat_cmp, is_lt, ordering_then}
use Rattle.xdb_key.specs.Entries.{Point, point, Tombstone, IsPoint}
use Rattle.xdb_key.specs.InOrder.{comes_before, AreInOrder}
use Rattle.xdb_key.specs.Kinds.{kind_code, trailer}
use Rattle.xdb_key.specs.Order.{key_cmp}
use Rattle.xdb_key.specs.declared.op.Kind.{Kind}
use Rattle.xdb_key.specs.declared.op.Kind.TheVariants as kinds
use Rattle.xdb_block.specs.Rows.{precedes, trailer_part}
use Rattle.xdb_table_w.proofs.KeyRows.{internal-user, internal-trailer, point_user, point_number, span_user, span_number}
use Rattle.xdb_table_w.specs.Content.{Content, content, point_row, span_row, last_of, goes_behind}
use Rattle.xdb_table_r.specs.Opening.{tombstones}
use Rattle.xdb_table_r.specs.Views.{point_of, kind_of}

-- ---- order

last_point : Point → List Point → Point
last_point p [] = p
last_point p (q ∷ qs) = last_point q qs

last_row_is : (p : Point) (ps : List Point) → last_of (Some (point_row p)) (map point_row ps) ≡ Some (point_row (last_point p ps))
unfolding last_point
last_row_is p [] = refl
last_row_is p (q ∷ qs) = last_row_is q qs

neighbours : (p : Point) (bs : List Point) (q : Point) (after : List Point) → AllPairs (λ a b. IsTrue (comes_before a b)) (p ∷ bs ++ q ∷ after) → comes_before (last_point p bs) q ≡ true
unfolding last_point
neighbours p [] q after h = h 0 1 p (omega arith) (omega arith)
neighbours p (b ∷ bs) q after h = neighbours b bs q after (λ i j d order less. h (suc i) (suc j) d (omega arith) (omega arith))

of_last : (P : Point → Type 0) (p : Point) (bs : List Point) (q : Point) (after : List Point) → All P (p ∷ bs ++ q ∷ after) → P (last_point p bs) × P q
unfolding last_point
of_last P p [] q after h = (h 0 p (omega arith), h 1 p (omega arith))
of_last P p (b ∷ bs) q after h = of_last P b bs q after (λ k d less. h (suc k) d (omega arith))

row_precedes : (p q : Point) → p.seq < 2 ^ 56 → q.seq < 2 ^ 56 → precedes (point_row p).key (point_row q).key ≡ comes_before p q
row_precedes p q small_p small_q =
    λ i. is_lt (ordering_then (key_cmp (internal-user p.key p.seq p.kind i) (internal-user q.key q.seq q.kind i)) (nat_cmp (internal-trailer q.key q.seq q.kind small_q i) (internal-trailer p.key p.seq p.kind small_p i)))

behind : (before : List Point) (q : Point) (after : List Point) → AreInOrder (before ++ q ∷ after) → All IsPoint (before ++ q ∷ after) → goes_behind (last_of None (map point_row before)) (point_row q) ≡ true
behind [] q after order points = refl
behind (p ∷ bs) q after order points =
    let both = of_last IsPoint p bs q after points in
    ap (λ r. goes_behind r (point_row q)) (last_row_is p bs) ∙ row_precedes (last_point p bs) q both.0.0 both.1.0 ∙ neighbours p bs q after order

split : (ps : List Point) (i : ℕ) (p : Point) → i < length ps → p ≡ get_or ps i p → ps ≡ take i ps ++ p ∷ drop (i + 1) ps
split ps i p inside e = sym (take-append-drop i ps) ∙ ap (λ r. take i ps ++ r) (drop_more ps i p inside ∙ ap (λ s. s ∷ drop (i + 1) ps) (sym e))

pub entry_behind : (ps : List Point) (i : ℕ) (p : Point) → i < length ps → p ≡ get_or ps i p → AreInOrder ps → All IsPoint ps → goes_behind (last_of None (map point_row (take i ps))) (point_row p) ≡ true
entry_behind ps i p inside e order points =
    behind (take i ps) p (drop (i + 1) ps) (subst AreInOrder (split ps i p inside e) order) (subst (All IsPoint) (split ps i p inside e) points)

pub entry_written : (ps : List Point) (i : ℕ) (p : Point) (old new : Content) → i < length ps → p ≡ get_or ps i p → old ≡ content (map point_row (take i ps)) [] → new ≡ content (old.points ++ point_row p ∷ []) old.spans
    → new ≡ content (map point_row (take (i + 1) ps)) []
entry_written ps i p old new inside e was made =
    made
    ∙ ap (λ c. content (c.points ++ point_row p ∷ []) c.spans) was
    ∙ ap (λ rows. content rows []) (sym (ap (map point_row) (take_more ps i p inside ∙ ap (λ s. take i ps ++ s ∷ []) (sym e)) ∙ map-append point_row (take i ps) (p ∷ [])))

-- ---- a row tells what it is of

code_of : (p : Point) → p.seq < 2 ^ 56 → kind_code p.kind < 256 → trailer_part (point_row p).key % 256 ≡ kind_code p.kind
code_of p small less =
    let code : trailer p.seq p.kind % 256 ≡ kind_code p.kind = omega arith in
    ap (λ n. n % 256) (internal-trailer p.key p.seq p.kind small) ∙ code

kind_back : (key value : List ℕ) (seq : ℕ) (kind : Kind) → IsPoint (point key seq kind value) → kind_of (trailer_part (point_row (point key seq kind value)).key % 256) ≡ kind
kind_back key value seq kinds.Del h = ap kind_of (code_of (point key seq kinds.Del value) h.0 (omega arith))
kind_back key value seq kinds.Set h = ap kind_of (code_of (point key seq kinds.Set value) h.0 (omega arith))
kind_back key value seq kinds.SpanDel h = absurd h.1

point_back : (p : Point) → IsPoint p → point_of (point_row p) ≡ p
point_back p h = λ i. point (point_user p i) (point_number p h.0 i) (kind_back p.key p.value p.seq p.kind h i) p.value

pub points_back : (ps : List Point) → All IsPoint ps → map point_of (map point_row ps) ≡ ps
points_back [] all = refl
points_back (p ∷ ps) all = λ i. point_back p (all 0 p (omega arith)) i ∷ points_back ps (λ k d less. all (suc k) d (omega arith)) i

pub spans_back : (ts : List Tombstone) → All (λ t. t.seq < 2 ^ 56) ts → tombstones (map span_row ts) ≡ ts
spans_back [] all = refl
spans_back (t ∷ ts) all = λ i. record { range = record { lo = span_user t i; hi = t.range.hi }; seq = span_number t (all 0 t (omega arith)) i } ∷ spans_back ts (λ k d less. all (suc k) d (omega arith)) i

-- ---- both are written

pub both_written : (ps : List Point) (ts : List Tombstone) (first second : Content) → first ≡ content (map point_row ps) [] → second ≡ content first.points (map span_row ts) → second ≡ content (map point_row ps) (map span_row ts)
both_written ps ts first second first_is second_is = second_is ∙ ap (λ c. content c.points (map span_row ts)) first_is
