-- Numbers that rise, with more of them and with some left out.
use Rattle.std.proofs.Common.{◌≡◌, ℕ, ◌+◌, ◌<◌, ◌≤◌, Bool, true, false, cond, not, eqb, ltb, ◌||◌, ◌&&◌, List, [], ◌∷◌, filter, inl, inr, refl, sym, ap, ◌∙◌, arith}
use Rattle.std.proofs.lemmas.Bool.{false≢true, cases_lt, cases_eq, cases_Bool, eq-eqb, ne_eqb, eqb-true, ltb-true, lt-ltb, or_cases}
use Rattle.std.specs.List.{AllByRecursion}
use Rattle.xdb_lists.proofs.NumberLaws.{among_first, least, rest_rises, left_over}
use Rattle.xdb_lists.specs.Numbers.{is_among, NumbersRise}
use Rattle.xdb_model.specs.Reserved.{RiseWithin}
use Rattle.xdb_plain.specs.Counts.{with_number, with_numbers}

-- ---- which numbers there are

pub or_nothing : (b : Bool) → (b || false) ≡ b
or_nothing true = refl
or_nothing false = refl

or_behind : (a b c : Bool) → (a || (b || c)) ≡ (b || (a || c))
or_behind true true c = refl
or_behind true false c = refl
or_behind false b c = refl

or_twice : (a b : Bool) → (a || b) ≡ (a || (a || b))
or_twice true b = refl
or_twice false b = refl

among-put : (n m k : ℕ) (ks : List ℕ) (below same : Bool) → (same ≡ true → m ≡ k) → is_among n (with_number m ks) ≡ (eqb m n || is_among n ks) → is_among n (cond below (m ∷ k ∷ ks) (cond same (k ∷ ks) (k ∷ with_number m ks))) ≡ (eqb m n || (eqb k n || is_among n ks))
among-put n m k ks true same is e = refl
among-put n m k ks false true is e = or_twice (eqb k n) (is_among n ks) ∙ ap (λ x. eqb x n || (eqb k n || is_among n ks)) (sym (is refl))
among-put n m k ks false false is e = ap (λ b. eqb k n || b) e ∙ or_behind (eqb k n) (eqb m n) (is_among n ks)

pub among-with_number : (n m : ℕ) (ks : List ℕ) → is_among n (with_number m ks) ≡ (eqb m n || is_among n ks)
among-with_number n m [] = refl
among-with_number n m (k ∷ ks) = among-put n m k ks (ltb m k) (eqb m k) (λ e. eqb-true m k e) (among-with_number n m ks)

or_moved : (a b c : Bool) → (a || (b || c)) ≡ ((b || a) || c)
or_moved true true c = refl
or_moved true false c = refl
or_moved false true c = refl
or_moved false false c = refl

pub among-with : (n : ℕ) (ms ks : List ℕ) → is_among n (with_numbers ms ks) ≡ (is_among n ms || is_among n ks)
among-with n [] ks = refl
among-with n (m ∷ ms) ks =
    among-with n ms (with_number m ks) ∙ ap (λ b. is_among n ms || b) (among-with_number n m ks) ∙ or_moved (is_among n ms) (eqb m n) (is_among n ks)

-- ---- their order

pub rise-lower : (low lower high : ℕ) (ns : List ℕ) → lower ≤ low → RiseWithin low high ns → RiseWithin lower high ns
rise-lower low lower high [] le h = omega arith
rise-lower low lower high (n ∷ ns) le h = let first = h.0 in (omega arith, h.1)

pub rise-higher : (low high higher : ℕ) (ns : List ℕ) → high ≤ higher → RiseWithin low high ns → RiseWithin low higher ns
rise-higher low high higher [] le h = omega arith
rise-higher low high higher (n ∷ ns) le h = (h.0, rise-higher (n + 1) high higher ns le h.1)

rise-put : (low high m k : ℕ) (ks : List ℕ) (below same : Bool) → ltb m k ≡ below → (same ≡ false → m ≡ k → ⊥) → low ≤ m → m < high → low ≤ k → RiseWithin (k + 1) high ks → (k < m → RiseWithin (k + 1) high (with_number m ks)) → RiseWithin low high (cond below (m ∷ k ∷ ks) (cond same (k ∷ ks) (k ∷ with_number m ks)))
rise-put low high m k ks true same less off from under first h more = let l : m < k = ltb-true m k less in (from, (omega arith, h))
rise-put low high m k ks false true less off from under first h more = (first, h)
rise-put low high m k ks false false less off from under first h more = (
  first,
  more (elim (cases_lt m k) [
    | inl l ↦ absurd (false≢true (sym less ∙ lt-ltb m k l))
    | inr le ↦ elim (cases_eq m k) [ inl e ↦ absurd (off refl e) | inr ne ↦ omega arith ]
  ]),
)

pub rise-with_number : (low high m : ℕ) (ks : List ℕ) → low ≤ m → m < high → RiseWithin low high ks → RiseWithin low high (with_number m ks)
rise-with_number low high m [] from under h = (from, omega arith)
rise-with_number low high m (k ∷ ks) from under h =
    rise-put low high m k ks (ltb m k) (eqb m k) refl (λ e same. false≢true (sym e ∙ eq-eqb m k same)) from under h.0 h.1 (λ l. rise-with_number (k + 1) high m ks (omega arith) under h.1)

pub rise-with : (high : ℕ) (ms ks : List ℕ) → AllByRecursion (λ n. n < high) ms → RiseWithin 0 high ks → RiseWithin 0 high (with_numbers ms ks)
rise-with high [] ks under h = h
rise-with high (m ∷ ms) ks under h = rise-with high ms (with_number m ks) under.1 (rise-with_number 0 high m ks (omega arith) under.0 h)

rise-kept : (low high n : ℕ) (ns : List ℕ) (t : Bool) → low ≤ n → RiseWithin (n + 1) high ns → RiseWithin low high (cond t (n ∷ ns) ns)
rise-kept low high n ns true from h = (from, h)
rise-kept low high n ns false from h = rise-lower (n + 1) low high ns (omega arith) h

pub rise-filtered : (test : ℕ → Bool) (low high : ℕ) (ns : List ℕ) → RiseWithin low high ns → RiseWithin low high (filter test ns)
rise-filtered test low high [] h = h
rise-filtered test low high (n ∷ ns) h = rise-kept low high n (filter test ns) (test n) h.0 (rise-filtered test (n + 1) high ns h.1)

-- none is below the least, and all are below the end
pub rise-from : (low high n : ℕ) (ns : List ℕ) → RiseWithin low high ns → is_among n ns ≡ true → low ≤ n
rise-from low high n [] h e = absurd (false≢true e)
rise-from low high n (m ∷ ns) h e = elim (or_cases (eqb m n) (is_among n ns) e) [
  | inl here ↦ let same = eqb-true m n here in let first = h.0 in omega arith
  | inr behind ↦ let more = rise-from (m + 1) high n ns h.1 behind in let first = h.0 in omega arith
]

pub rise-under : (low high n : ℕ) (ns : List ℕ) → RiseWithin low high ns → is_among n ns ≡ true → n < high
rise-under low high n [] h e = absurd (false≢true e)
rise-under low high n (m ∷ ns) h e = elim (or_cases (eqb m n) (is_among n ns) e) [
  | inl here ↦ let same = eqb-true m n here in let rest = rise-ends (m + 1) high ns h.1 in omega arith
  | inr behind ↦ rise-under (m + 1) high n ns h.1 behind
]
  where
    rise-ends : (low high : ℕ) (ns : List ℕ) → RiseWithin low high ns → low ≤ high
    rise-ends low high [] h = h
    rise-ends low high (n ∷ ns) h = let rest = rise-ends (n + 1) high ns h.1 in let first = h.0 in omega arith

-- ---- numbers that rise are told by which there are

pub same-numbers : (low high : ℕ) (ms ns : List ℕ) → RiseWithin low high ms → NumbersRise ns → ((n : ℕ) → is_among n ms ≡ is_among n ns) → ms ≡ ns
same-numbers low high [] [] h rising same = refl
same-numbers low high [] (n ∷ ns) h rising same = absurd (false≢true (same n ∙ among_first n ns))
same-numbers low high (m ∷ ms) [] h rising same = absurd (false≢true (sym (same m) ∙ among_first m ms))
same-numbers low high (m ∷ ms) (n ∷ ns) h rising same =
    let up = least n ns m rising (sym (same m) ∙ among_first m ms) in
    let down : m ≤ n = rise-from m high n (m ∷ ms) (omega arith, h.1) (same n ∙ among_first n ns) in
    let first : m ≡ n = omega arith in
    let rest = same-numbers (m + 1) high ms ns h.1 (rest_rises n ns rising) (λ x.
    without-first (m + 1) high m x ms h.1 (omega arith) ∙ ap (λ b. not (eqb x m) && b) (same x) ∙ ap (λ k. not (eqb x k) && is_among x (n ∷ ns)) first ∙ sym (left_over n ns x rising)) in
    λ i. first i ∷ rest i
  where
    without-first : (low high m x : ℕ) (ms : List ℕ) → RiseWithin low high ms → m < low → is_among x ms ≡ (not (eqb x m) && is_among x (m ∷ ms))
    without-first low high m x ms h less = elim (cases_eq x m) [
      | inl e ↦ elim (cases_Bool (is_among x ms)) [
        | inl there ↦ let from = rise-from low high x ms h there in absurd (omega arith)
        | inr none ↦ none ∙ sym (ap (λ b. not b && is_among x (m ∷ ms)) (eq-eqb x m e))
      ]
      | inr ne ↦ sym (ap (λ b. not b && is_among x (m ∷ ms)) (ne_eqb x m ne) ∙ ap (λ b. b || is_among x ms) (ne_eqb m x (λ e. ne (sym e))))
    ]
