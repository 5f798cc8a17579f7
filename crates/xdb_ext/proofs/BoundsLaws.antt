-- The extent of a table of operations: its bounds are theirs, and its numbers are 0.
use Rattle.std.proofs.Common.{◌≡◌, ℕ, ◌+◌, ◌≤◌, true, not, ltb, List, [], ◌∷◌, ◌++◌, length, map, Option, Some, None, IsTrue, inl, inr, refl, sym, ap, ◌∙◌, subst, arith}
use Rattle.std.proofs.lemmas.Bool.{and_parts, false≢true, lt-ltb, and_from, false_from_ne_true}
use Rattle.std.proofs.lemmas.List.{length-map}
use Rattle.std.specs.List.{All, AllByRecursion}
use Rattle.std.proofs.lemmas.Option.{same_Some}
use Rattle.std.proofs.lemmas.List.Elements.{All-from_recursion}
use Rattle.xdb_key.proofs.OrderLaws.{upto-not_below, below-itself, upto-itself, upto_from_below, below_upto, upto_trans, upto_antisymm, below-successor}
use Rattle.xdb_key.specs.Bounds.{Bounds, bounds, holds, covers, successor, key_hull}
use Rattle.xdb_key.specs.Entries.{Point, point, Tombstone, tombstone, Reach}
use Rattle.xdb_key.specs.Ops.{op_hull, is_table}
use Rattle.xdb_key.specs.Order.{is_below, is_upto}
use Rattle.xdb_key.specs.declared.op.Kind.TheVariants as kinds
use Rattle.xdb_key.specs.declared.op.Op.{Op}
use Rattle.xdb_key.specs.declared.op.Op.TheVariants.{Set, Del, DelSpan}
use Rattle.xdb_block.specs.Rows.{Row}
use Rattle.xdb_rangedel.proofs.CoverLaws.{cover_of_unordered, cover_of-pieces, cover_of-None, cover_of-Some}
use Rattle.xdb_rangedel.proofs.FragmentLaws.{All-at_Has}
use Rattle.xdb_rangedel.proofs.MemberLaws.{Has-append_cases, Has-map, Has-from_map, Has-from_filter_map}
use Rattle.xdb_rangedel.proofs.PieceLaws.{pieces-tell}
use Rattle.xdb_rangedel.specs.Cover.{cover_of}
use Rattle.xdb_rangedel.specs.Members.{Has, SameMembers}
use Rattle.xdb_rangedel.specs.Pieces.{pieces, is_ordered}
use Rattle.xdb_table_w.proofs.KeyRows.{point_user, point_number, span_user, span_number}
use Rattle.xdb_table_w.specs.Content.{Content, content, point_row, span_row}
use Rattle.xdb_table_w.specs.Extents.{IsExtent, user, end, number, numbers}
use Rattle.xdb_ext.proofs.OpLaws.{Has-filter_map}
use Rattle.xdb_ext.specs.Operations.{point_of, span_of, points_of, spans_of, rows_of}
use Rattle.xdb_ext.specs.TableBounds.{IsExtentOf}

at_member : {A : Type 0} (P : A → Type 0) (xs : List A) (x : A) → AllByRecursion P xs → Has xs x → P x
at_member P xs x all has = All-at_Has P xs x (All-from_recursion P xs all) has

-- ---- range deletes and their fragments

-- what fragments tell of the range deletes that they are pieces of
pub record Cut (fs ts : List Tombstone) : Type 0 where
  pub source : (t : Tombstone) → Has fs t → (s : Tombstone) × Has ts s × (covers s.range t.range ≡ true) × (s.seq ≡ t.seq)
  pub covered : (s : Tombstone) (k : List ℕ) → Has ts s → holds s.range k ≡ true → (t : Tombstone) × Has fs t × (holds t.range k ≡ true)

covered_by : (fs ts : List Tombstone) (s : Tombstone) (k : List ℕ) (o : Option ℕ) → ((l : ℕ) → cover_of fs k l ≡ cover_of ts k l) → Has ts s → holds s.range k ≡ true → cover_of fs k (s.seq + 1) ≡ o → (t : Tombstone) × Has fs t × (holds t.range k ≡ true)
covered_by fs ts s k None same has h e =
    absurd (cover_of-None ts k (s.seq + 1) (sym (same (s.seq + 1)) ∙ e) s has (and_from (holds s.range k) (ltb s.seq (s.seq + 1)) h (lt-ltb s.seq (s.seq + 1) (omega arith))))
covered_by fs ts s k (Some n) same has h e =
    let found = (cover_of-Some fs k (s.seq + 1) n e).0 in
    (found.0, found.1, (and_parts (holds found.0.range k) (ltb found.0.seq (s.seq + 1)) found.2).0)

pub cut : (fs ts : List Tombstone) → All (λ t. IsTrue (is_ordered t)) ts → SameMembers fs (pieces ts) → Cut fs ts
cut fs ts ordered same =
    let cover : (k : List ℕ) (l : ℕ) → cover_of fs k l ≡ cover_of ts k l = λ k l. cover_of_unordered fs (pieces ts) same k l ∙ cover_of-pieces ts k l in
    record {
      source = λ t has. let piece = pieces-tell ts t (λ s g. All-at_Has (λ x. IsTrue (is_ordered x)) ts s ordered g) ((same t).0 has) in piece.source;
      covered = λ s k has h. covered_by fs ts s k (cover_of fs k (s.seq + 1)) (λ l. cover k l) has h refl;
    }

-- fragments of the operations' range deletes, each of which has keys
pub record Pieced (ops : List Op) (fs : List Tombstone) : Type 0 where
  pub ordered : All (λ t. IsTrue (is_ordered t)) (spans_of ops)
  pub same : SameMembers fs (pieces (spans_of ops))

-- ---- what a range around the rows covers

record Around (e : Reach) (ops : List Op) (fs : List Tombstone) : Type 0 where
  pub key : (p : Point) → Has (points_of ops) p → holds (bounds e.lo e.hi) p.key ≡ true
  pub span : (t : Tombstone) → Has fs t → covers (bounds e.lo e.hi) t.range ≡ true

around : (ops : List Op) (fs : List Tombstone) (e : Reach) → IsExtent (rows_of ops fs) e → Around e ops fs
around ops fs e h = record {
  key = λ p has. subst (λ k. holds (bounds e.lo e.hi) k ≡ true) (point_user p)
      (at_member (λ r. IsTrue (holds (bounds e.lo e.hi) (user r))) (map point_row (points_of ops)) (point_row p) h.hulls (Has-map point_row (points_of ops) p has));
  span = λ t has. subst (λ lo. covers (bounds e.lo e.hi) (bounds lo t.range.hi) ≡ true) (span_user t)
      (at_member (λ r. IsTrue (covers (bounds e.lo e.hi) (bounds (user r) (end r)))) (map span_row fs) (span_row t) h.spans (Has-map span_row fs t has));
}

lo_below : (e : Reach) (ops : List Op) (fs ts : List Tombstone) (s : Tombstone) → Around e ops fs → Cut fs ts → Has ts s → is_ordered s ≡ true → is_upto e.lo s.range.lo ≡ true
lo_below e ops fs ts s a c has ordered =
    let over = c.covered s s.range.lo has (and_from _ _ (upto-itself s.range.lo) ordered) in
    let starts = (and_parts _ (is_below s.range.lo over.0.range.hi) over.2).0 in
    upto_trans e.lo over.0.range.lo s.range.lo (and_parts _ (is_upto over.0.range.hi e.hi) (a.span over.0 over.1)).0 starts

-- where the range ended inside the span, a fragment would reach over its end
not_inside : (e : Reach) (ops : List Op) (fs ts : List Tombstone) (s : Tombstone) → Around e ops fs → Cut fs ts → Has ts s → is_ordered s ≡ true → is_below e.hi s.range.hi ≡ true → ⊥
not_inside e ops fs ts s a c has ordered inside =
    let first = c.covered s s.range.lo has (and_from _ _ (upto-itself s.range.lo) ordered) in
    let ends = (and_parts (is_upto e.lo first.0.range.lo) (is_upto first.0.range.hi e.hi) (a.span first.0 first.1)).1 in
    let before = upto_from_below s.range.lo e.hi (below_upto s.range.lo first.0.range.hi e.hi (and_parts (is_upto first.0.range.lo s.range.lo) _ first.2).1 ends) in
    let over = c.covered s e.hi has (and_from _ _ before inside) in
    let past = (and_parts (is_upto over.0.range.lo e.hi) (is_below e.hi over.0.range.hi) over.2).1 in
    let upto = (and_parts (is_upto e.lo over.0.range.lo) (is_upto over.0.range.hi e.hi) (a.span over.0 over.1)).1 in
    false≢true (sym (below-itself e.hi) ∙ below_upto e.hi over.0.range.hi e.hi past upto)

hi_above : (e : Reach) (ops : List Op) (fs ts : List Tombstone) (s : Tombstone) → Around e ops fs → Cut fs ts → Has ts s → is_ordered s ≡ true → is_upto s.range.hi e.hi ≡ true
hi_above e ops fs ts s a c has ordered = upto-not_below s.range.hi e.hi ∙ ap not (false_from_ne_true (is_below e.hi s.range.hi) (not_inside e ops fs ts s a c has ordered))

-- a range that holds a key covers its hull
hull_covered : (b : Bounds) (k : List ℕ) → holds b k ≡ true → covers b (key_hull k) ≡ true
hull_covered b k h =
    let parts = and_parts (is_upto b.lo k) (is_below k b.hi) h in
    and_from _ _ parts.0 (upto-not_below (successor k) b.hi ∙ ap not (below-successor b.hi k ∙ upto-not_below b.hi k ∙ ap not parts.1))

point_hull : (op : Op) (p : Point) → point_of op ≡ Some p → op_hull op ≡ key_hull p.key
point_hull (Set key value) p e = ap (λ q. key_hull q.key) (same_Some _ _ e)
point_hull (Del key) p e = ap (λ q. key_hull q.key) (same_Some _ _ e)
point_hull (DelSpan range) p e = absurd (cc)

pub span_hull : (op : Op) (s : Tombstone) → span_of op ≡ Some s → (op_hull op ≡ s.range) × (s.seq ≡ 0)
span_hull (Set key value) s e = absurd (cc)
span_hull (Del key) s e = absurd (cc)
span_hull (DelSpan range) s e = (ap (λ t. t.range) (same_Some _ _ e), ap (λ t. t.seq) (sym (same_Some _ _ e)))

covers_op : (e : Reach) (ops : List Op) (fs : List Tombstone) (op : Op) → Around e ops fs → Cut fs (spans_of ops) → All (λ t. IsTrue (is_ordered t)) (spans_of ops) → Has ops op → covers (bounds e.lo e.hi) (op_hull op) ≡ true
covers_op e ops fs (Set key value) a c ordered has = hull_covered (bounds e.lo e.hi) key (a.key (point key 0 kinds.Set value) (Has-filter_map point_of ops (Set key value) _ has refl))
covers_op e ops fs (Del key) a c ordered has = hull_covered (bounds e.lo e.hi) key (a.key (point key 0 kinds.Del []) (Has-filter_map point_of ops (Del key) _ has refl))
covers_op e ops fs (DelSpan range) a c ordered has =
    let s = tombstone range 0 in
    let there = Has-filter_map span_of ops (DelSpan range) s has refl in
    let is = All-at_Has (λ t. IsTrue (is_ordered t)) (spans_of ops) s ordered there in
    and_from _ _ (lo_below e ops fs (spans_of ops) s a c there is) (hi_above e ops fs (spans_of ops) s a c there is)

-- ---- the ends are those of operations

pub point_zero : (op : Op) (p : Point) → point_of op ≡ Some p → p.seq ≡ 0
point_zero (Set key value) p e = ap (λ q. q.seq) (sym (same_Some _ _ e))
point_zero (Del key) p e = ap (λ q. q.seq) (sym (same_Some _ _ e))
point_zero (DelSpan range) p e = absurd (cc)

from_point : (ops : List Op) (r : Row) → Has (map point_row (points_of ops)) r → (op : Op) × Has ops op × (op_hull op ≡ key_hull (user r)) × (number r ≡ 0)
from_point ops r has =
    let p = Has-from_map point_row (points_of ops) r has in
    let op = Has-from_filter_map point_of ops p.0 p.1 in
    let key : p.0.key ≡ user r = sym (point_user p.0) ∙ ap user p.2 in
    let zero_seq = point_zero op.0 p.0 op.2 in
    (op.0, op.1, point_hull op.0 p.0 op.2 ∙ ap key_hull key, ap number (sym p.2) ∙ point_number p.0 (omega (arith, zero_seq)) ∙ zero_seq)

-- a row of a fragment: the operation that it is a piece of reaches around it
record FromSpan (ops : List Op) (fs : List Tombstone) (r : Row) : Type 0 where
  pub s : Tombstone
  pub has : Has (spans_of ops) s
  pub op : Op
  pub there : Has ops op
  pub hull : op_hull op ≡ s.range
  pub starts : is_upto s.range.lo (user r) ≡ true
  pub ends : is_upto (end r) s.range.hi ≡ true
  pub zero_number : number r ≡ 0

from_span : (ops : List Op) (fs : List Tombstone) (r : Row) → Cut fs (spans_of ops) → Has (map span_row fs) r → FromSpan ops fs r
from_span ops fs r c has =
    let t = Has-from_map span_row fs r has in
    let s = c.source t.0 t.1 in
    let op = Has-from_filter_map span_of ops s.0 s.1 in
    let hull = span_hull op.0 s.0 op.2 in
    let within = and_parts (is_upto s.0.range.lo t.0.range.lo) (is_upto t.0.range.hi s.0.range.hi) s.2 in
    let seq : t.0.seq ≡ 0 = sym s.3 ∙ hull.1 in
    record {
      s = s.0;
      has = s.1;
      op = op.0;
      there = op.1;
      hull = hull.0;
      starts = subst (λ k. is_upto s.0.range.lo k ≡ true) (sym (span_user t.0) ∙ ap user t.2) within.0;
      ends = subst (λ k. is_upto k s.0.range.hi ≡ true) (ap end t.2) within.1;
      zero_number = ap number (sym t.2) ∙ span_number t.0 (omega (arith, seq)) ∙ seq;
    }

first_op : (e : Reach) (ops : List Op) (fs : List Tombstone) → Around e ops fs → Cut fs (spans_of ops) → All (λ t. IsTrue (is_ordered t)) (spans_of ops) → Has (map user (map point_row (points_of ops)) ++ map user (map span_row fs)) e.lo → (op : Op) × Has ops op × ((op_hull op).lo ≡ e.lo)
first_op e ops fs a c ordered has = elim (Has-append_cases (map user (map point_row (points_of ops))) (map user (map span_row fs)) e.lo has) [
  | inl h ↦
      let r = Has-from_map user (map point_row (points_of ops)) e.lo h in
      let from = from_point ops r.0 r.1 in
      (from.0, from.1, ap (λ b. b.lo) from.2 ∙ r.2)
  | inr h ↦
      let r = Has-from_map user (map span_row fs) e.lo h in
      let from = from_span ops fs r.0 c r.1 in
      let is = All-at_Has (λ t. IsTrue (is_ordered t)) (spans_of ops) from.s ordered from.has in
      let low = subst (λ k. is_upto from.s.range.lo k ≡ true) r.2 from.starts in
      (from.op, from.there, ap (λ b. b.lo) from.hull ∙ upto_antisymm from.s.range.lo e.lo low (lo_below e ops fs (spans_of ops) from.s a c from.has is))
]

last_op : (e : Reach) (ops : List Op) (fs : List Tombstone) → Around e ops fs → Cut fs (spans_of ops) → All (λ t. IsTrue (is_ordered t)) (spans_of ops) → Has (map (λ r. successor (user r)) (map point_row (points_of ops)) ++ map end (map span_row fs)) e.hi → (op : Op) × Has ops op × ((op_hull op).hi ≡ e.hi)
last_op e ops fs a c ordered has = elim (Has-append_cases (map (λ r. successor (user r)) (map point_row (points_of ops))) (map end (map span_row fs)) e.hi has) [
  | inl h ↦
      let r = Has-from_map (λ (x : Row). successor (user x)) (map point_row (points_of ops)) e.hi h in
      let from = from_point ops r.0 r.1 in
      (from.0, from.1, ap (λ b. b.hi) from.2 ∙ r.2)
  | inr h ↦
      let r = Has-from_map end (map span_row fs) e.hi h in
      let from = from_span ops fs r.0 c r.1 in
      let is = All-at_Has (λ t. IsTrue (is_ordered t)) (spans_of ops) from.s ordered from.has in
      let high = subst (λ k. is_upto k from.s.range.hi ≡ true) r.2 from.ends in
      (from.op, from.there, ap (λ b. b.hi) from.hull ∙ upto_antisymm from.s.range.hi e.hi (hi_above e ops fs (spans_of ops) from.s a c from.has is) high)
]

zero_of : (ops : List Op) (fs : List Tombstone) (n : ℕ) → Cut fs (spans_of ops) → Has (numbers (map point_row (points_of ops)) ++ numbers (map span_row fs)) n → n ≡ 0
zero_of ops fs n c has = elim (Has-append_cases (numbers (map point_row (points_of ops))) (numbers (map span_row fs)) n has) [
  | inl h ↦ let r = Has-from_map number (map point_row (points_of ops)) n h in sym r.2 ∙ (from_point ops r.0 r.1).3
  | inr h ↦ let r = Has-from_map number (map span_row fs) n h in sym r.2 ∙ (from_span ops fs r.0 c r.1).zero_number
]

pub extent_of_ops : (ops : List Op) (fs : List Tombstone) (e : Reach) → Pieced ops fs → IsExtent (rows_of ops fs) e → IsExtentOf ops e
extent_of_ops ops fs e p h =
    let ordered = p.ordered in
    let c = cut fs (spans_of ops) ordered p.same in
    let a = around ops fs e h in
    record {
      keys = record {
        around = λ op has. covers_op e ops fs op a c ordered has;
        first = first_op e ops fs a c ordered h.lo;
        last = last_op e ops fs a c ordered h.hi;
      };
      seq_lo = zero_of ops fs e.seq_lo c h.seq_lo;
      seq_hi = zero_of ops fs e.seq_hi c h.seq_hi;
    }

-- ---- some rows are there

some_there : {A : Type 0} (xs : List A) (x : A) → Has xs x → 1 ≤ length xs
some_there [] x has = absurd has
some_there (y ∷ ys) x has = omega arith

some_of : (ops : List Op) (fs : List Tombstone) (op : Op) → All (λ t. IsTrue (is_ordered t)) (spans_of ops) → SameMembers fs (pieces (spans_of ops)) → Has ops op → 1 ≤ length (map point_row (points_of ops)) + length (map span_row fs)
some_of ops fs (Set key value) ordered same has =
    omega (arith, length-map (points_of ops) point_row, some_there (points_of ops) (point key 0 kinds.Set value) (Has-filter_map point_of ops (Set key value) _ has refl))
some_of ops fs (Del key) ordered same has =
    omega (arith, length-map (points_of ops) point_row, some_there (points_of ops) (point key 0 kinds.Del []) (Has-filter_map point_of ops (Del key) _ has refl))
some_of ops fs (DelSpan range) ordered same has =
    let s = tombstone range 0 in
    let there = Has-filter_map span_of ops (DelSpan range) s has refl in
    let is = All-at_Has (λ t. IsTrue (is_ordered t)) (spans_of ops) s ordered there in
    let over = (cut fs (spans_of ops) ordered same).covered s range.lo there (and_from _ _ (upto-itself range.lo) is) in
    omega (arith, length-map fs span_row, some_there fs over.0 over.1)

pub some_rows : (ops : List Op) (fs : List Tombstone) → is_table ops ≡ true → Pieced ops fs → 1 ≤ length (map point_row (points_of ops)) + length (map span_row fs)
some_rows [] fs table p = absurd (false≢true table)
some_rows (op ∷ ops) fs table p = some_of (op ∷ ops) fs op p.ordered p.same (inl refl)

-- ---- fragments of the operations' range deletes, and what is written of both

pub pieced : (ops : List Op) (made seen fs : List Tombstone) → made ≡ spans_of ops → seen ≡ made → All (λ t. IsTrue (is_ordered t)) made → SameMembers fs (pieces seen) → Pieced ops fs
pieced ops made seen fs made_is seen_is ordered same = record {
  ordered = subst (All (λ t. IsTrue (is_ordered t))) made_is ordered;
  same = subst (λ ts. SameMembers fs (pieces ts)) (seen_is ∙ made_is) same;
}

pub is_written : (ops : List Op) (fs : List Tombstone) (first second : Content) → first ≡ content (map point_row (points_of ops)) [] → second ≡ content first.points (map span_row fs) → second ≡ rows_of ops fs
is_written ops fs first second first_is second_is = second_is ∙ ap (λ c. content c.points (map span_row fs)) first_is
