-- Spans that are apart from the ones just before them are apart from all before them.
use Rattle.std.proofs.Common.{◌≡◌, ℕ, zero, suc, ◌<◌, Bool, true, ◌&&◌, ◌||◌, List, [], ◌∷◌, length, get_or, Option, Some, None, IsTrue, sym, ap, ◌∙◌, arith, inl, inr}
use Rattle.std.proofs.lemmas.Bool.{and_parts, or_cases, or_right}
use Rattle.std.specs.Ordering.{is_eq}
use Rattle.std.specs.List.{AllPairs}
use Rattle.std.specs.Cmp.{Equal-is}
use Rattle.std.proofs.lemmas.List.Kept.{AllPairs-cons}
use Rattle.xdb_key.proofs.OrderLaws.{key_exact, upto_trans, upto_from_below}
use Rattle.xdb_key.specs.Order.{key_cmp, is_below, is_upto}
use Rattle.xdb_block.specs.declared.kind.BlockKind.TheVariants.{Spans}
use Rattle.xdb_block.specs.Rows.{Row, user_part, suits, is_apart, Follow}

same-tells : (a b : List ℕ) → is_eq (key_cmp a b) ≡ true → a ≡ b
same-tells a b h = key_exact a b ((Equal-is (key_cmp a b)).0 h)

abbrev same : List ℕ → List ℕ → List ℕ → List ℕ → Bool
same s e t f = is_eq (key_cmp s t) && is_eq (key_cmp e f)

abbrev apart : List ℕ → List ℕ → List ℕ → List ℕ → Bool
apart s e t f = same s e t f || is_upto e t

apart_trans : (a x b y c z : List ℕ) → is_below b y ≡ true → apart a x b y ≡ true → apart b y c z ≡ true → apart a x c z ≡ true
apart_trans a x b y c z some h g = elim (or_cases (same a x b y) (is_upto x b) h) [
  | inl e ↦
      let parts = and_parts (is_eq (key_cmp a b)) (is_eq (key_cmp x y)) e in
      (λ i. apart (same-tells a b parts.0 i) (same-tells x y parts.1 i) c z) ∙ g
  | inr e ↦ elim (or_cases (same b y c z) (is_upto y c) g) [
    | inl f ↦
        let parts = and_parts (is_eq (key_cmp b c)) (is_eq (key_cmp y z)) f in
        or_right (same a x c z) (is_upto x c) (sym (ap (is_upto x) (same-tells b c parts.0)) ∙ e)
    | inr f ↦ or_right (same a x c z) (is_upto x c) (upto_trans x b c e (upto_trans b y c (upto_from_below b y some) f))
  ]
]

-- a span's start is below its end
ordered : (r : Row) → suits Spans r ≡ true → is_below (user_part r.key) r.value ≡ true
ordered r h = (and_parts _ _ h).1

apart_all : (last : Row) (rows : List Row) → Follow Spans (Some last) rows → (j : ℕ) (d : Row) → j < length rows → is_apart last (get_or rows j d) ≡ true
apart_all last [] h j d less = absurd (omega arith)
apart_all last (r ∷ rows) h zero d less = (and_parts _ _ h.0).1
apart_all last (r ∷ rows) h (suc j) d less =
    let first = (and_parts (suits Spans r && _) (is_apart last r) h.0).1 in
    let some = ordered r (and_parts _ _ (and_parts _ _ h.0).0).0 in
    let x = get_or rows j d in
    apart_trans (user_part last.key) last.value (user_part r.key) r.value (user_part x.key) x.value some first (apart_all r rows h.1 j d (omega arith))

pairs_from : (last : Option Row) (rows : List Row) → Follow Spans last rows → AllPairs (λ a b. IsTrue (is_apart a b)) rows
pairs_from last [] h = λ i j d order less. absurd (omega arith)
pairs_from last (r ∷ rows) h = AllPairs-cons (λ a b. IsTrue (is_apart a b)) r rows (apart_all r rows h.1) (pairs_from (Some r) rows h.1)

pub all_apart : (rows : List Row) → Follow Spans None rows → AllPairs (λ a b. IsTrue (is_apart a b)) rows
all_apart rows h = pairs_from None rows h
