-- What an external table says of keys, and that its bounds and its refusal are one.
use Rattle.std.proofs.Common.{◌≡◌, ℕ, ◌+◌, ◌≤◌, Bool, true, false, ◌&&◌, not, cond, ltb, leb, List, [], ◌∷◌, ◌++◌, length, map, Option, Some, None, is_none, ◌↔◌, ◌==◌, inl, inr, refl, sym, ap, ◌∙◌, subst, arith}
use Rattle.std.proofs.lemmas.Bool.{and_parts, false≢true, cases_lt, lt-ltb, le-ltb, eq-eqb, ne_eqb, and_from}
use Rattle.std.specs.Option.{option_map}
use Rattle.xdb_key.proofs.OrderLaws.{below-itself, below_trans, upto_antisymm}
use Rattle.xdb_key.specs.Bounds.{Bounds, bounds}
use Rattle.xdb_key.specs.Entries.{Point, point, Tombstone}
use Rattle.xdb_key.specs.Ops.{op_hull, keeps_order, disorder_after, disorder, is_table}
use Rattle.xdb_key.specs.Order.{is_below, is_upto}
use Rattle.xdb_key.specs.declared.op.Kind.TheVariants as kinds
use Rattle.xdb_key.specs.declared.op.Op.{Op}
use Rattle.xdb_key.specs.declared.op.Op.TheVariants.{Set, Del, DelSpan}
use Rattle.xdb_rangedel.proofs.MemberLaws.{Has-append_left, Has-append_right, Has-append_cases, Has-map, Has-from_map, Has-from_filter_map}
use Rattle.xdb_rangedel.proofs.NewestLaws.{newest-greatest, same_key-itself}
use Rattle.xdb_rangedel.proofs.SpanLaws.{entries_in-content_of, spans_in-content_of}
use Rattle.xdb_rangedel.proofs.StripLaws.{leb-not}
use Rattle.xdb_rangedel.specs.Content.{Item, entry, span, seq_of, same_key, rank, said_by, verdict, verdict_by, value_at, entry_of, content_of, IsClear, in_pieces}
use Rattle.xdb_rangedel.specs.Members.{Has, SameMembers}
use Rattle.xdb_rangedel.specs.Pieces.{pieces}
use Rattle.xdb_ext.proofs.BoundsLaws.{point_zero, span_hull}
use Rattle.xdb_ext.proofs.OpLaws.{in_order, kept}
use Rattle.xdb_ext.specs.declared.error.ExtNo.TheVariants.{EmptyTable, TooMany, OutOfOrder}
use Rattle.xdb_ext.specs.Refusing.{refusal_of}
use Rattle.xdb_ext.specs.Operations.{point_of, span_of, points_of, spans_of, ops_content}
use Rattle.xdb_ext.specs.TableBounds.{AreBounds}

-- ---- a key has one point

behind_last : (last : List ℕ) (at : ℕ) (ops : List Op) (p : Point) → disorder_after (Some last) at ops ≡ None → Has (points_of ops) p → is_below last p.key ≡ true
behind_last last at [] p order has = absurd has
behind_last last at (Set key value ∷ ops) p order (inl e) = subst (λ q. is_below last q.key ≡ true) e (kept (keeps_order (Some last) (Set key value)) _ at order).0
behind_last last at (Set key value ∷ ops) p order (inr has) =
    let now = kept (keeps_order (Some last) (Set key value)) _ at order in
    below_trans last key p.key now.0 (behind_last key (at + 1) ops p now.1 has)
behind_last last at (Del key ∷ ops) p order (inl e) = subst (λ q. is_below last q.key ≡ true) e (kept (keeps_order (Some last) (Del key)) _ at order).0
behind_last last at (Del key ∷ ops) p order (inr has) =
    let now = kept (keeps_order (Some last) (Del key)) _ at order in
    below_trans last key p.key now.0 (behind_last key (at + 1) ops p now.1 has)
behind_last last at (DelSpan range ∷ ops) p order has = behind_last last (at + 1) ops p order has

-- a key that stands before all others is the key of no other
other : (k : List ℕ) (p : Point) → p.key ≡ k → is_below k p.key ≡ true → ⊥
other k p same below = false≢true (sym (below-itself k) ∙ subst (λ x. is_below k x ≡ true) same below)

one_of : (first : Point) (rest : List Point) (p q : Point) → ((r : Point) → Has rest r → is_below first.key r.key ≡ true) → ((p q : Point) → Has rest p → Has rest q → p.key ≡ q.key → p ≡ q) → Has (first ∷ rest) p → Has (first ∷ rest) q → p.key ≡ q.key → p ≡ q
one_of first rest p q behind one (inl e) (inl f) same = sym e ∙ f
one_of first rest p q behind one (inl e) (inr g) same = absurd (other first.key q (sym same ∙ ap (λ x. x.key) (sym e)) (behind q g))
one_of first rest p q behind one (inr h) (inl f) same = absurd (other first.key p (same ∙ ap (λ x. x.key) (sym f)) (behind p h))
one_of first rest p q behind one (inr h) (inr g) same = one p q h g same

one_point : (last : Option (List ℕ)) (at : ℕ) (ops : List Op) (p q : Point) → disorder_after last at ops ≡ None → Has (points_of ops) p → Has (points_of ops) q → p.key ≡ q.key → p ≡ q
one_point last at [] p q order h g same = absurd h
one_point last at (Set key value ∷ ops) p q order h g same =
    let rest = (kept (keeps_order last (Set key value)) _ at order).1 in
    one_of (point key 0 kinds.Set value) (points_of ops) p q (λ r has. behind_last key (at + 1) ops r rest has) (λ a b x y e. one_point (Some key) (at + 1) ops a b rest x y e) h g same
one_point last at (Del key ∷ ops) p q order h g same =
    let rest = (kept (keeps_order last (Del key)) _ at order).1 in
    one_of (point key 0 kinds.Del []) (points_of ops) p q (λ r has. behind_last key (at + 1) ops r rest has) (λ a b x y e. one_point (Some key) (at + 1) ops a b rest x y e) h g same
one_point last at (DelSpan range ∷ ops) p q order h g same = one_point last (at + 1) ops p q order h g same

-- ---- the content

same_entry : (a b : List ℕ) (s t : ℕ) (v w : Option (List ℕ)) → entry a s v ≡ entry b t w → (a ≡ b) × (v ≡ w)
same_entry a b s t v w e = (cc, cc)

entry_from : (ops : List Op) (key : List ℕ) (seq : ℕ) (v : Option (List ℕ)) → Has (ops_content ops) (entry key seq v) → (p : Point) × Has (points_of ops) p × (p.key ≡ key) × (value_at p.kind p.value ≡ v)
entry_from ops key seq v has = elim (Has-append_cases (map entry_of (points_of ops)) (map span (spans_of ops)) (entry key seq v) has) [
  | inl h ↦
      let p = Has-from_map entry_of (points_of ops) (entry key seq v) h in
      let same = same_entry p.0.key key p.0.seq seq (value_at p.0.kind p.0.value) v p.2 in
      (p.0, p.1, same.0, same.1)
  | inr h ↦ let t = Has-from_map span (spans_of ops) (entry key seq v) h in absurd (no_entry t.0 key seq v t.2)
]
  where
    no_entry : (t : Tombstone) (key : List ℕ) (seq : ℕ) (v : Option (List ℕ)) → span t ≡ entry key seq v → ⊥
    no_entry t key seq v e = cc

pub is_clear : (ops : List Op) → is_table ops ≡ true → IsClear (ops_content ops)
is_clear ops table = λ key seq v w h g.
    let p = entry_from ops key seq v h in
    let q = entry_from ops key seq w g in
    let same = one_point None 0 ops p.0 q.0 (in_order ops table) p.1 q.1 (p.2 ∙ sym q.2) in
    sym p.3 ∙ ap (λ x. value_at x.kind x.value) same ∙ q.3

all_zero : (ops : List Op) (i : Item) → Has (ops_content ops) i → seq_of i ≡ 0
all_zero ops i has = elim (Has-append_cases (map entry_of (points_of ops)) (map span (spans_of ops)) i has) [
  | inl h ↦
      let p = Has-from_map entry_of (points_of ops) i h in
      let op = Has-from_filter_map point_of ops p.0 p.1 in
      ap seq_of (sym p.2) ∙ point_zero op.0 p.0 op.2
  | inr h ↦
      let t = Has-from_map span (spans_of ops) i h in
      let op = Has-from_filter_map span_of ops t.0 t.1 in
      ap seq_of (sym t.2) ∙ (span_hull op.0 t.0 op.2).1
]

low_rank : (i : Item) → seq_of i ≡ 0 → rank i ≤ 1
low_rank (entry key seq value) e = omega arith
low_rank (span t) e = omega arith

pub point_stays : (ops : List Op) (p : Point) (limit : ℕ) → is_table ops ≡ true → Has (points_of ops) p → 1 ≤ limit → verdict (ops_content ops) limit p.key ≡ verdict_by (value_at p.kind p.value)
point_stays ops p limit table has above =
    let member = Has-append_left (map entry_of (points_of ops)) (map span (spans_of ops)) (entry_of p) (Has-map entry_of (points_of ops) p has) in
    let none : p.seq ≡ 0 = all_zero ops (entry_of p) member in
    ap said_by (newest-greatest (ops_content ops) limit p.key (entry_of p) (is_clear ops table) (record {
      member = member;
      seen = and_from (same_key p.key p.key) (ltb p.seq limit) (same_key-itself p.key) (lt-ltb p.seq limit (omega arith));
      highest = λ j h s. let low = low_rank j (all_zero ops j h) in omega arith;
    }))

-- ---- the content of a file

same_join : (xs : List Item) (fs gs : List Tombstone) → SameMembers fs gs → (i : Item) → Has (xs ++ map span fs) i → Has (xs ++ map span gs) i
same_join xs fs gs same i has = elim (Has-append_cases xs (map span fs) i has) [
  | inl h ↦ Has-append_left xs (map span gs) i h
  | inr h ↦
      let t = Has-from_map span fs i h in
      Has-append_right xs (map span gs) i (subst (λ j. Has (map span gs) j) t.2 (Has-map span gs t.0 ((same t.0).0 t.1)))
]

pub file_pieces : (ops : List Op) (fs : List Tombstone) → SameMembers fs (pieces (spans_of ops)) → SameMembers (content_of (points_of ops) fs) (in_pieces (ops_content ops))
file_pieces ops fs same =
    let ps = points_of ops in
    let ts = spans_of ops in
    let turned : SameMembers (pieces ts) fs = λ t. ((same t).1, (same t).0) in
    let is : in_pieces (content_of ps ts) ≡ map entry_of ps ++ map span (pieces ts) = λ i. entries_in-content_of ps ts i ++ map span (pieces (spans_in-content_of ps ts i)) in
    subst (SameMembers (content_of ps fs)) (sym is) (λ i. (same_join (map entry_of ps) fs (pieces ts) same i, same_join (map entry_of ps) (pieces ts) fs turned i))

-- ---- one refusal, and one range

least : (ops : List Op) (a b : Bounds) → AreBounds ops a → AreBounds ops b → is_upto a.lo b.lo ≡ true
least ops a b h g = subst (λ k. is_upto a.lo k ≡ true) g.first.2 (and_parts (is_upto a.lo (op_hull g.first.0).lo) (is_upto (op_hull g.first.0).hi a.hi) (h.around g.first.0 g.first.1)).0

greatest : (ops : List Op) (a b : Bounds) → AreBounds ops a → AreBounds ops b → is_upto b.hi a.hi ≡ true
greatest ops a b h g = subst (λ k. is_upto k a.hi ≡ true) g.last.2 (and_parts (is_upto a.lo (op_hull g.last.0).lo) (is_upto (op_hull g.last.0).hi a.hi) (h.around g.last.0 g.last.1)).1

pub bounds_one : (ops : List Op) (a b : Bounds) → AreBounds ops a → AreBounds ops b → a ≡ b
bounds_one ops a b h g =
    let lo = upto_antisymm a.lo b.lo (least ops a b h g) (least ops b a g h) in
    let hi = upto_antisymm a.hi b.hi (greatest ops b a g h) (greatest ops a b h g) in
    λ i. bounds (lo i) (hi i)

some-not : (n : ℕ) → leb 1 n ≡ not (n == 0)
some-not n = leb-not 1 n ∙ ap not (elim (cases_lt n 1) [
  | inl h ↦ lt-ltb n 1 h ∙ sym (eq-eqb n 0 (omega arith))
  | inr h ↦ le-ltb n 1 h ∙ sym (ne_eqb n 0 (λ e. omega arith))
])

refused_by : (none many : Bool) (d : Option ℕ) → (cond none (Some EmptyTable) (cond many (Some TooMany) (option_map OutOfOrder d)) ≡ None) ↔ ((not none && not many && is_none d) ≡ true)
refused_by true many d = (λ e. absurd (cc), λ e. absurd (false≢true e))
refused_by false true d = (λ e. absurd (cc), λ e. absurd (false≢true e))
refused_by false false None = (λ e. refl, λ e. refl)
refused_by false false (Some at) = (λ e. absurd (cc), λ e. absurd (false≢true e))

pub no_refusal : (ops : List Op) → (refusal_of ops ≡ None) ↔ (is_table ops ≡ true)
no_refusal ops =
    let n = length ops in
    let is : is_table ops ≡ (not (n == 0) && not (ltb 4096 n) && is_none (disorder ops)) = λ i. some-not n i && leb-not n 4096 i && is_none (disorder ops) in
    subst (λ b. (refusal_of ops ≡ None) ↔ (b ≡ true)) (sym is) (refused_by (n == 0) (ltb 4096 n) (disorder ops))
