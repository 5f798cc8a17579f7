-- The extent of a table that was written, as the extent of its content.
use Rattle.std.proofs.Common.{◌≡◌, ℕ, ◌^◌, ◌<◌, ◌≤◌, true, List, ◌++◌, map, All, Option, Some, None, IsTrue, inl, inr, sym, ap, ◌∙◌, subst, not}
use Rattle.std.proofs.lemmas.Bool.{and_parts}
use Rattle.std.proofs.lemmas.List.Elements.{All-from_recursion}
use Rattle.std.specs.List.{AllByRecursion}
use Rattle.xdb_halves.specs.Beside.{item_reach, IsExtent}
use Rattle.xdb_key.proofs.OrderLaws.{upto-not_below, below-successor}
use Rattle.xdb_key.specs.Bounds.{bounds, holds, covers, successor, key_hull}
use Rattle.xdb_key.specs.Entries.{Point, Tombstone, Reach, reach, IsPoint}
use Rattle.xdb_key.specs.Order.{is_below, is_upto}
use Rattle.xdb_block.specs.Rows.{Row}
use Rattle.xdb_rangedel.proofs.FragmentLaws.{All-at_Has}
use Rattle.xdb_rangedel.proofs.MemberLaws.{Has-append_left, Has-append_right, Has-append_cases, Has-map, Has-from_map}
use Rattle.xdb_rangedel.specs.Content.{Item, span, entry_of, content_of}
use Rattle.xdb_rangedel.specs.Members.{Has, SameMembers}
use Rattle.xdb_table_w.proofs.KeyRows.{point_user, point_number, span_user, span_number}
use Rattle.xdb_table_w.specs.Content.{content, point_row, span_row}
use Rattle.xdb_table_w.specs.Extents.{IsExtent as IsRowExtent, user, end, number, numbers}
use Rattle.xdb_table_r.specs.Reaches.{IsInside, IsLeast}

at_member : {A : Type 0} (P : A → Type 0) (xs : List A) (x : A) → AllByRecursion P xs → Has xs x → P x
at_member P xs x all has = All-at_Has P xs x (All-from_recursion P xs all) has

pub hull_end : (hi k : List ℕ) → is_below k hi ≡ true → is_upto (successor k) hi ≡ true
hull_end hi k h = upto-not_below (successor k) hi ∙ ap not (below-successor hi k ∙ upto-not_below hi k ∙ ap not h)

-- numbers that are small, so that rows tell them
record AreSmall (ps : List Point) (ts : List Tombstone) : Type 0 where
  pub points : (p : Point) → Has ps p → p.seq < 2 ^ 56
  pub spans : (t : Tombstone) → Has ts t → t.seq < 2 ^ 56

in_points : (ps : List Point) (ts : List Tombstone) (p : Point) → Has ps p → Has (map item_reach (content_of ps ts)) (reach (key_hull p.key) p.seq p.seq)
in_points ps ts p has = Has-map item_reach (content_of ps ts) (entry_of p) (Has-append_left (map entry_of ps) (map span ts) (entry_of p) (Has-map entry_of ps p has))

in_spans : (ps : List Point) (ts : List Tombstone) (t : Tombstone) → Has ts t → Has (map item_reach (content_of ps ts)) (reach t.range t.seq t.seq)
in_spans ps ts t has = Has-map item_reach (content_of ps ts) (span t) (Has-append_right (map entry_of ps) (map span ts) (span t) (Has-map span ts t has))

-- what each reach is of
of_item : (ps : List Point) (ts : List Tombstone) (h : Reach) (R : Type 0) → Has (map item_reach (content_of ps ts)) h
    → ((p : Point) → Has ps p → reach (key_hull p.key) p.seq p.seq ≡ h → R) → ((t : Tombstone) → Has ts t → reach t.range t.seq t.seq ≡ h → R) → R
of_item ps ts h R has of_point of_span =
    let i = Has-from_map item_reach (content_of ps ts) h has in
    elim (Has-append_cases (map entry_of ps) (map span ts) i.0 i.1) [
      | inl g ↦ let p = Has-from_map entry_of ps i.0 g in of_point p.0 p.1 (ap item_reach p.2 ∙ i.2)
      | inr g ↦ let t = Has-from_map span ts i.0 g in of_span t.0 t.1 (ap item_reach t.2 ∙ i.2)
    ]

module _ (ps : List Point) (ts : List Tombstone) (e : Reach) (small : AreSmall ps ts) (x : IsRowExtent (content (map point_row ps) (map span_row ts)) e) where
  between : (n : ℕ) → Has (numbers (map point_row ps) ++ numbers (map span_row ts)) n → (e.seq_lo ≤ n) × (n ≤ e.seq_hi)
  between n has = at_member (λ m. (e.seq_lo ≤ m) × (m ≤ e.seq_hi)) (numbers (map point_row ps) ++ numbers (map span_row ts)) n x.between has

  point_inside : (p : Point) → Has ps p → IsInside (reach (key_hull p.key) p.seq p.seq) e
  point_inside p has =
      let row = Has-map point_row ps p has in
      let held = subst (λ k. holds (bounds e.lo e.hi) k ≡ true) (point_user p) (at_member (λ r. IsTrue (holds (bounds e.lo e.hi) (user r))) (map point_row ps) (point_row p) x.hulls row) in
      let parts = and_parts (is_upto e.lo p.key) (is_below p.key e.hi) held in
      let seqs = subst (λ n. (e.seq_lo ≤ n) × (n ≤ e.seq_hi)) (point_number p (small.points p has)) (between (number (point_row p)) (Has-append_left (numbers (map point_row ps)) (numbers (map span_row ts)) _ (Has-map number (map point_row ps) (point_row p) row))) in
      record { lo = parts.0; hi = hull_end e.hi p.key parts.1; seq_lo = seqs.0; seq_hi = seqs.1 }

  span_inside : (t : Tombstone) → Has ts t → IsInside (reach t.range t.seq t.seq) e
  span_inside t has =
      let row = Has-map span_row ts t has in
      let held = subst (λ lo. covers (bounds e.lo e.hi) (bounds lo t.range.hi) ≡ true) (span_user t) (at_member (λ r. IsTrue (covers (bounds e.lo e.hi) (bounds (user r) (end r)))) (map span_row ts) (span_row t) x.spans row) in
      let parts = and_parts (is_upto e.lo t.range.lo) (is_upto t.range.hi e.hi) held in
      let seqs = subst (λ n. (e.seq_lo ≤ n) × (n ≤ e.seq_hi)) (span_number t (small.spans t has)) (between (number (span_row t)) (Has-append_right (numbers (map point_row ps)) (numbers (map span_row ts)) _ (Has-map number (map span_row ts) (span_row t) row))) in
      record { lo = parts.0; hi = parts.1; seq_lo = seqs.0; seq_hi = seqs.1 }

  each : (h : Reach) → Has (map item_reach (content_of ps ts)) h → IsInside h e
  each h has = of_item ps ts h (IsInside h e) has
      (λ p g is. subst (λ r. IsInside r e) is (point_inside p g))
      (λ t g is. subst (λ r. IsInside r e) is (span_inside t g))

  -- the reach that has a bound or a number
  lo_is : (h : Reach) × Has (map item_reach (content_of ps ts)) h × (h.lo ≡ e.lo)
  lo_is = elim (Has-append_cases (map user (map point_row ps)) (map user (map span_row ts)) e.lo x.lo) [
    | inl g ↦
        let r = Has-from_map user (map point_row ps) e.lo g in
        let p = Has-from_map point_row ps r.0 r.1 in
        (reach (key_hull p.0.key) p.0.seq p.0.seq, in_points ps ts p.0 p.1, sym (point_user p.0) ∙ ap user p.2 ∙ r.2)
    | inr g ↦
        let r = Has-from_map user (map span_row ts) e.lo g in
        let t = Has-from_map span_row ts r.0 r.1 in
        (reach t.0.range t.0.seq t.0.seq, in_spans ps ts t.0 t.1, sym (span_user t.0) ∙ ap user t.2 ∙ r.2)
  ]

  hi_is : (h : Reach) × Has (map item_reach (content_of ps ts)) h × (h.hi ≡ e.hi)
  hi_is = elim (Has-append_cases (map (λ r. successor (user r)) (map point_row ps)) (map end (map span_row ts)) e.hi x.hi) [
    | inl g ↦
        let r = Has-from_map (λ (y : Row). successor (user y)) (map point_row ps) e.hi g in
        let p = Has-from_map point_row ps r.0 r.1 in
        (reach (key_hull p.0.key) p.0.seq p.0.seq, in_points ps ts p.0 p.1, ap successor (sym (point_user p.0) ∙ ap user p.2) ∙ r.2)
    | inr g ↦
        let r = Has-from_map end (map span_row ts) e.hi g in
        let t = Has-from_map span_row ts r.0 r.1 in
        (reach t.0.range t.0.seq t.0.seq, in_spans ps ts t.0 t.1, ap end t.2 ∙ r.2)
  ]

  number_is : (n : ℕ) → Has (numbers (map point_row ps) ++ numbers (map span_row ts)) n → (h : Reach) × Has (map item_reach (content_of ps ts)) h × (h.seq_lo ≡ n) × (h.seq_hi ≡ n)
  number_is n has = elim (Has-append_cases (numbers (map point_row ps)) (numbers (map span_row ts)) n has) [
    | inl g ↦
        let r = Has-from_map number (map point_row ps) n g in
        let p = Has-from_map point_row ps r.0 r.1 in
        let same = sym (point_number p.0 (small.points p.0 p.1)) ∙ ap number p.2 ∙ r.2 in
        (reach (key_hull p.0.key) p.0.seq p.0.seq, in_points ps ts p.0 p.1, same, same)
    | inr g ↦
        let r = Has-from_map number (map span_row ts) n g in
        let t = Has-from_map span_row ts r.0 r.1 in
        let same = sym (span_number t.0 (small.spans t.0 t.1)) ∙ ap number t.2 ∙ r.2 in
        (reach t.0.range t.0.seq t.0.seq, in_spans ps ts t.0 t.1, same, same)
  ]

  least : IsLeast (map item_reach (content_of ps ts)) e
  least =
      let first = number_is e.seq_lo x.seq_lo in
      let last = number_is e.seq_hi x.seq_hi in
      record {
        each = each;
        lo = lo_is;
        hi = hi_is;
        seq_lo = (first.0, first.1, first.2);
        seq_hi = (last.0, last.1, last.3);
      }

pub extent_of_rows : (ps : List Point) (ts : List Tombstone) (e : Reach) → All IsPoint ps → All (λ t. t.seq < 2 ^ 56) ts → IsRowExtent (content (map point_row ps) (map span_row ts)) e → IsExtent (content_of ps ts) (Some e)
extent_of_rows ps ts e points spans x = least ps ts e (record { points = λ p has. (All-at_Has IsPoint ps p points has).0; spans = λ t has. All-at_Has (λ s. s.seq < 2 ^ 56) ts t spans has }) x

-- ---- a content is known by its members

reach_same : (c d : List Item) (h : Reach) → SameMembers c d → Has (map item_reach c) h → Has (map item_reach d) h
reach_same c d h same has =
    let i = Has-from_map item_reach c h has in
    subst (λ r. Has (map item_reach d) r) i.2 (Has-map item_reach d i.0 ((same i.0).0 i.1))

pub turned : (c d : List Item) → SameMembers c d → SameMembers d c
turned c d same = λ i. ((same i).1, (same i).0)

pub extent_same : (c d : List Item) (o : Option Reach) → SameMembers c d → IsExtent c o → IsExtent d o
extent_same c d None same h = λ r has. h r (reach_same d c r (turned c d same) has)
extent_same c d (Some e) same h = record {
  each = λ r has. h.each r (reach_same d c r (turned c d same) has);
  lo = (h.lo.0, reach_same c d h.lo.0 same h.lo.1, h.lo.2);
  hi = (h.hi.0, reach_same c d h.hi.0 same h.hi.1, h.hi.2);
  seq_lo = (h.seq_lo.0, reach_same c d h.seq_lo.0 same h.seq_lo.1, h.seq_lo.2);
  seq_hi = (h.seq_hi.0, reach_same c d h.seq_hi.0 same h.seq_hi.1, h.seq_hi.2);
}
