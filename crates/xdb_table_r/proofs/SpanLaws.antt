-- The spans of a block are fragments.
use Rattle.std.proofs.Common.{◌≡◌, ℕ, ◌/◌, ◌%◌, ◌<◌, true, List, [], ◌∷◌, Option, Some, None, IsTrue, sym, ap, ◌∙◌, arith, inl, inr}
use Rattle.std.specs.List.{AllByRecursion, AllPairs}
use Rattle.std.proofs.lemmas.Bool.{and_parts, or_cases, eqb-true}
use Rattle.std.proofs.lemmas.Bool.Decides.{nat_tests}
use Rattle.std.proofs.lemmas.List.Elements.{All-from_recursion}
use Rattle.std.proofs.lemmas.List.Kept.{AllPairs-cons}
use Rattle.std.specs.Cmp.{Equal-is}
use Rattle.std.specs.Ordering.{nat_cmp, is_lt, ordering_then}
use Rattle.xdb_key.proofs.OrderLaws.{upto_trans, upto_from_below}
use Rattle.xdb_key.specs.Bounds.{bounds}
use Rattle.xdb_key.specs.Entries.{Tombstone}
use Rattle.xdb_key.specs.Order.{is_upto}
use Rattle.xdb_rangedel.specs.Members.{SameMembers}
use Rattle.xdb_rangedel.specs.Pieces.{precedes as span_precedes, is_ordered, pieces, AreFragments}
use Rattle.xdb_rangedel.proofs.FragmentLaws.{precedes_same, precedes_apart, AreFragments-nil}
use Rattle.xdb_rangedel.proofs.OnlyLaws.{fragments_themselves, fragments_are_one}
use Rattle.xdb_rangedel.proofs.PartLaws.{precedes_tells}
use Rattle.xdb_block.specs.declared.kind.BlockKind.TheVariants.{Spans}
use Rattle.xdb_block.specs.Rows.{Row, user_part, trailer_part, suits, follows, Follow}
use Rattle.xdb_table_r.specs.Opening.{tombstone_of, tombstones}
use Rattle.xdb_table_r.proofs.RowLaws.{same-tells, follows_suits, all_suit}

span_trans : (s t u : Tombstone) → is_ordered t ≡ true → span_precedes s t ≡ true → span_precedes t u ≡ true → span_precedes s u ≡ true
span_trans s t u some a b = elim (precedes_tells s t a) [
  | inl (same, less) ↦ elim (precedes_tells t u b) [
    | inl (same2, less2) ↦ precedes_same s u (same ∙ same2) (omega arith)
    | inr apart ↦ precedes_apart s u (ap (λ r. is_upto r.hi u.range.lo) same ∙ apart)
  ]
  | inr apart ↦ elim (precedes_tells t u b) [
    | inl (same2, less2) ↦ precedes_apart s u (ap (λ r. is_upto s.range.hi r.lo) (sym same2) ∙ apart)
    | inr apart2 ↦ precedes_apart s u (upto_trans s.range.hi t.range.lo u.range.lo apart (upto_trans t.range.lo t.range.hi u.range.lo (upto_from_below t.range.lo t.range.hi some) apart2))
  ]
]

less_tells : (x y : ℕ) → is_lt (nat_cmp x y) ≡ true → x < y
less_tells x y h = grind (arith, nat_tests)

ordered : (r : Row) → suits Spans r ≡ true → is_ordered (tombstone_of r) ≡ true
ordered r h = (and_parts _ _ h).1

-- two numbers of one kind
smaller : (m n : ℕ) → m < n → m % 256 ≡ 15 → n % 256 ≡ 15 → m / 256 < n / 256
smaller m n less a b = omega arith

code : (r : Row) → suits Spans r ≡ true → trailer_part r.key % 256 ≡ 15
code r h = eqb-true _ 15 (and_parts _ _ (and_parts _ _ (and_parts _ _ h).0).0).1

neighbours : (last r : Row) → suits Spans last ≡ true → follows Spans (Some last) r ≡ true → span_precedes (tombstone_of last) (tombstone_of r) ≡ true
neighbours last r fits h =
    let fits2 = follows_suits Spans (Some last) r h in
    let before = (and_parts _ _ (and_parts _ _ h).0).1 in
    elim (or_cases _ (is_upto last.value (user_part r.key)) (and_parts _ _ h).1) [
      | inl e ↦
          let parts = and_parts _ _ e in
          let lo : user_part last.key ≡ user_part r.key = same-tells _ _ parts.0 in
          let hi : last.value ≡ r.value = same-tells _ _ parts.1 in
          let order = ap (λ o. is_lt (ordering_then o (nat_cmp (trailer_part r.key) (trailer_part last.key)))) (sym ((Equal-is _).0 parts.0)) ∙ before in
          precedes_same (tombstone_of last) (tombstone_of r) (λ i. bounds (lo i) (hi i)) (smaller (trailer_part r.key) (trailer_part last.key) (less_tells _ _ order) (code r fits2) (code last fits))
      | inr e ↦ precedes_apart (tombstone_of last) (tombstone_of r) e
    ]

abbrev Before : Row → Tombstone → Type 0
Before last t = IsTrue (span_precedes (tombstone_of last) t)

all_behind : (last : Row) (rows : List Row) → suits Spans last ≡ true → Follow Spans (Some last) rows → AllByRecursion (λ t. IsTrue (span_precedes (tombstone_of last) t)) (tombstones rows)
all_behind last [] fits h = tt
all_behind last (r ∷ rs) fits h =
    let near = neighbours last r fits h.0 in
    let fits2 = follows_suits Spans (Some last) r h.0 in
    (near, through (tombstones rs) (all_behind r rs fits2 h.1)) where
      through : (ts : List Tombstone) → AllByRecursion (λ t. IsTrue (span_precedes (tombstone_of r) t)) ts → AllByRecursion (λ t. IsTrue (span_precedes (tombstone_of last) t)) ts
      through [] g = tt
      through (t ∷ ts) g = (span_trans (tombstone_of last) (tombstone_of r) t (ordered r (follows_suits Spans (Some last) r h.0)) (neighbours last r fits h.0) g.0, through ts g.1)

all_ordered : (rows : List Row) → AllByRecursion (λ r. suits Spans r ≡ true) rows → AllByRecursion (λ t. IsTrue (is_ordered t)) (tombstones rows)
all_ordered [] h = tt
all_ordered (r ∷ rs) h = (ordered r h.0, all_ordered rs h.1)

pairs : (last : Option Row) (rows : List Row) → Follow Spans last rows → AllPairs (λ s t. IsTrue (span_precedes s t)) (tombstones rows)
pairs last [] h = AreFragments-nil.apart
pairs last (r ∷ rs) h =
    AllPairs-cons (λ s t. IsTrue (span_precedes s t)) (tombstone_of r) (tombstones rs) (All-from_recursion (λ t. IsTrue (span_precedes (tombstone_of r) t)) (tombstones rs) (all_behind r rs (follows_suits Spans last r h.0) h.1)) (pairs (Some r) rs h.1)

pub rows_are_fragments : (rows : List Row) → Follow Spans None rows → AreFragments (tombstones rows)
rows_are_fragments rows h = record {
  ordered = All-from_recursion (λ t. IsTrue (is_ordered t)) (tombstones rows) (all_ordered rows (all_suit Spans None rows h));
  apart = pairs None rows h;
}

-- fragments made of the pieces of fragments are these
pub made_again : (made ts : List Tombstone) → AreFragments ts → AreFragments made → SameMembers made (pieces ts) → made ≡ ts
made_again made ts f g same =
    let own = fragments_themselves ts f in
    fragments_are_one made ts g f (λ t. ((λ h. (own t).0 ((same t).0 h)), (λ h. (same t).1 ((own t).1 h))))
