-- The points that a window shows of rows.
use Rattle.std.proofs.Common.{◌≡◌, ℕ, zero, suc, ◌+◌, ◌*◌, ◌/◌, ◌%◌, ◌<◌, ◌≤◌, Bool, true, false, cond, eqb, List, [], ◌∷◌, ◌++◌, length, take, Option, Some, None, IsTrue, refl, ap, ◌∙◌, arith, inl, inr}
use Rattle.std.specs.List.{AllByRecursion, AllPairs, cons_option}
use Rattle.std.proofs.lemmas.Bool.{and_parts, leb-true, eqb-true, cases_Bool, false≢true, eq-eqb}
use Rattle.std.proofs.lemmas.List.Elements.{All-from_recursion}
use Rattle.std.proofs.lemmas.List.Kept.{AllPairs-cons}
use Rattle.std.specs.declared.cmp.Ordering.{Ordering}
use Rattle.std.specs.declared.cmp.Ordering.TheVariants.{Less, Equal, Greater}
use Rattle.std.specs.Ordering.{nat_cmp, is_lt, is_le, ordering_then}
use Rattle.xdb_key.specs.Bounds.{Bounds, holds}
use Rattle.xdb_key.specs.Entries.{Point}
use Rattle.xdb_key.specs.Kinds.{internal_cmp, kind_code, trailer}
use Rattle.xdb_key.specs.Order.{key_cmp, is_upto}
use Rattle.xdb_block.proofs.SeekLaws.{before_trans}
use Rattle.xdb_block.specs.declared.kind.BlockKind.TheVariants as kinds
use Rattle.xdb_block.specs.Rows.{Row, nth, user_part, trailer_part, suits, precedes, Follow}
use Rattle.xdb_table_r.specs.Views.{kind_of, point_of, renumbered, point_in, points_in, comes_before, AreSeen}
use Rattle.xdb_table_r.proofs.RowLaws.{follows_suits, all_suit}

-- ---- one row more, and more rows

cons_append : {B : Type 0} (o : Option B) (xs ys : List B) → cons_option o (xs ++ ys) ≡ cons_option o xs ++ ys
cons_append None xs ys = refl
cons_append (Some x) xs ys = refl

pub points_append : (r : Bounds) (s : ℕ) (xs ys : List Row) → points_in r s (xs ++ ys) ≡ points_in r s xs ++ points_in r s ys
points_append r s [] ys = refl
points_append r s (x ∷ xs) ys = ap (cons_option (point_in r s x)) (points_append r s xs ys) ∙ cons_append (point_in r s x) (points_in r s xs) (points_in r s ys)

take_one_more : (rows : List Row) (n : ℕ) → n < length rows → take (suc n) rows ≡ take n rows ++ nth rows n ∷ []
take_one_more [] n h = absurd (omega arith)
take_one_more (r ∷ rs) zero h = refl
take_one_more (r ∷ rs) (suc n) h = ap (λ (x : List Row). r ∷ x) (take_one_more rs n (omega arith))

pub points_more : (r : Bounds) (s : ℕ) (rows : List Row) (n : ℕ) → n < length rows → points_in r s (take (n + 1) rows) ≡ points_in r s (take n rows) ++ cons_option (point_in r s (nth rows n)) []
points_more r s rows n h =
    let next : n + 1 ≡ suc n = omega arith in
    ap (λ m. points_in r s (take m rows)) next ∙ ap (points_in r s) (take_one_more rows n h) ∙ points_append r s (take n rows) (nth rows n ∷ [])

-- ---- all of them

shown_all : (r : Bounds) (s : ℕ) (P : Row → Type 0) (Q : Point → Type 0) → ((i : Row) → P i → holds r (user_part i.key) ≡ true → Q (renumbered s (point_of i))) → (rows : List Row) → AllByRecursion P rows → AllByRecursion Q (points_in r s rows)
shown_all r s P Q f [] h = tt
shown_all r s P Q f (i ∷ is) h = by (holds r (user_part i.key)) refl (shown_all r s P Q f is h.1) where
  by : (b : Bool) → holds r (user_part i.key) ≡ b → AllByRecursion Q (points_in r s is) → AllByRecursion Q (cons_option (cond b (Some (renumbered s (point_of i))) None) (points_in r s is))
  by true e rest = (f i h.0 e, rest)
  by false e rest = rest

any_row : (rows : List Row) → AllByRecursion (λ i. Unit {0}) rows
any_row [] = tt
any_row (i ∷ is) = (tt, any_row is)

-- ---- order of rows

upto_by : (o p : Ordering) → is_lt (ordering_then o p) ≡ true → is_le o ≡ true
upto_by Less p h = refl
upto_by Equal p h = refl
upto_by Greater p h = absurd (false≢true h)

upto_from_precedes : (a b : List ℕ) → precedes a b ≡ true → is_upto (user_part a) (user_part b) ≡ true
upto_from_precedes a b h = upto_by (key_cmp (user_part a) (user_part b)) (nat_cmp (trailer_part b) (trailer_part a)) h

rows_behind : (last : Row) (rows : List Row) → Follow kinds.Point (Some last) rows → AllByRecursion (λ i. precedes last.key i.key ≡ true) rows
rows_behind last [] h = tt
rows_behind last (i ∷ is) h =
    let near = (and_parts _ _ (and_parts _ _ h.0).0).1 in
    (near, through is (rows_behind i is h.1)) where
      through : (js : List Row) → AllByRecursion (λ j. precedes i.key j.key ≡ true) js → AllByRecursion (λ j. precedes last.key j.key ≡ true) js
      through [] g = tt
      through (j ∷ js) g = (before_trans (user_part j.key) (trailer_part j.key) last.key i.key (and_parts _ _ (and_parts _ _ h.0).0).1 g.0, through js g.1)

rows_upto : (last : Row) (rows : List Row) → AllByRecursion (λ i. precedes last.key i.key ≡ true) rows → AllByRecursion (λ i. is_upto (user_part last.key) (user_part i.key) ≡ true) rows
rows_upto last [] h = tt
rows_upto last (i ∷ is) h = (upto_from_precedes last.key i.key h.0, rows_upto last is h.1)

-- ---- pairs

pairs_by : (r : Bounds) (s : ℕ) (R : Point → Point → Type 0) → ((last : Option Row) (i : Row) (is : List Row) → Follow kinds.Point last (i ∷ is) → AllByRecursion (R (renumbered s (point_of i))) (points_in r s is))
    → (last : Option Row) (rows : List Row) → Follow kinds.Point last rows → AllPairs R (points_in r s rows)
pairs_by r s R f last [] h = λ i j d less inside. absurd (omega arith)
pairs_by r s R f last (i ∷ is) h = by (holds r (user_part i.key)) (pairs_by r s R f (Some i) is h.1) where
  by : (b : Bool) → AllPairs R (points_in r s is) → AllPairs R (cons_option (cond b (Some (renumbered s (point_of i))) None) (points_in r s is))
  by true rest = AllPairs-cons R (renumbered s (point_of i)) (points_in r s is) (All-from_recursion (R (renumbered s (point_of i))) (points_in r s is) (f last i is h)) rest
  by false rest = rest

-- ---- without a synthetic number

small_kind : (n : ℕ) → n ≤ 1 → kind_code (kind_of n) ≡ n
small_kind zero h = refl
small_kind (suc zero) h = refl
small_kind (suc (suc n)) h = absurd (omega arith)

point_trailer : (i : Row) → suits kinds.Point i ≡ true → trailer (point_of i).seq (point_of i).kind ≡ trailer_part i.key
point_trailer i h =
    let t = trailer_part i.key in
    let code : t % 256 ≤ 1 = leb-true (t % 256) 1 (and_parts _ _ (and_parts _ _ h).0).1 in
    let kind = small_kind (t % 256) code in
    let whole : t / 256 * 256 + t % 256 ≡ t = omega arith in
    ap (λ n. t / 256 * 256 + n) kind ∙ whole

own_number : (s : ℕ) (p : Point) → s ≡ 0 → (renumbered s p).seq ≡ p.seq
own_number s p e = ap (λ b. cond b p.seq s) (eq-eqb s 0 e)

comes_from : (s : ℕ) (a b : Row) → s ≡ 0 → suits kinds.Point a ≡ true → suits kinds.Point b ≡ true → precedes a.key b.key ≡ true → comes_before (renumbered s (point_of a)) (renumbered s (point_of b))
comes_from s a b e ha hb h =
    let ta = ap (λ n. trailer n (point_of a).kind) (own_number s (point_of a) e) ∙ point_trailer a ha in
    let tb = ap (λ n. trailer n (point_of b).kind) (own_number s (point_of b) e) ∙ point_trailer b hb in
    (λ i. is_lt (internal_cmp (user_part a.key) (ta i) (user_part b.key) (tb i))) ∙ h

both : (P Q : Row → Type 0) (rows : List Row) → AllByRecursion P rows → AllByRecursion Q rows → AllByRecursion (λ i. P i × Q i) rows
both P Q [] h g = tt
both P Q (i ∷ is) h g = ((h.0, g.0), both P Q is h.1 g.1)

-- ---- together

pub are_seen : (r : Bounds) (s : ℕ) (rows : List Row) → Follow kinds.Point None rows → AreSeen r s (points_in r s rows)
are_seen r s rows h = record {
  within = All-from_recursion (λ p. IsTrue (holds r p.key)) (points_in r s rows) (shown_all r s (λ i. Unit {0}) (λ p. IsTrue (holds r p.key)) (λ i u e. e) rows (any_row rows));
  rise = pairs_by r s (λ a b. IsTrue (is_upto a.key b.key)) (λ last i is g. shown_all r s (λ j. is_upto (user_part i.key) (user_part j.key) ≡ true) (λ p. IsTrue (is_upto (user_part i.key) p.key)) (λ j u e. u) is (rows_upto i is (rows_behind i is g.1))) None rows h;
  strict = λ e. pairs_by r s comes_before (λ last i is g. shown_all r s (λ j. (precedes i.key j.key ≡ true) × (suits kinds.Point j ≡ true)) (comes_before (renumbered s (point_of i)))
      (λ j u k. comes_from s i j e (follows_suits kinds.Point last i g.0) u.1 u.0) is (both (λ j. precedes i.key j.key ≡ true) (λ j. suits kinds.Point j ≡ true) is (rows_behind i is g.1) (all_suit kinds.Point (Some i) is g.1))) None rows h;
  numbered = λ some. All-from_recursion (λ p. p.seq ≡ s) (points_in r s rows) (shown_all r s (λ i. Unit {0}) (λ p. p.seq ≡ s) (λ i u e. synthetic_number s (point_of i) some) rows (any_row rows));
} where
  synthetic_number : (n : ℕ) (p : Point) → 1 ≤ n → (renumbered n p).seq ≡ n
  synthetic_number n p some = elim (cases_Bool (eqb n 0)) [
    | inl e ↦ let is = eqb-true n 0 e in absurd (omega arith)
    | inr e ↦ ap (λ b. cond b p.seq n) e
  ]
