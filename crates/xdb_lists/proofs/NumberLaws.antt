-- Rising numbers, sought, put in and taken out.
use Rattle.std.proofs.Common.{◌≡◌, ℕ, suc, ◌+◌, ◌<◌, ◌≤◌, Bool, true, false, not, ◌&&◌, ◌||◌, eqb, List, ◌∷◌, ◌++◌, length, get_or, take, drop, Result, Ok, Err, refl, sym, ap, ap₂, ◌∙◌, inl, inr, add-one, arith}
use Rattle.std.specs.List.{insert, remove}
use Rattle.std.specs.Result.{is_ok}
use Rattle.std.proofs.lemmas.Bool.{cases_lt, cases_eq, cases_Bool, eq-eqb, ne_eqb, eqb-true, or_cases, or_left}
use Rattle.std.proofs.lemmas.List.{take-append-drop, drop_more}
use Rattle.std.proofs.lemmas.List.Edits.{length-remove, get_or-remove_below, get_or-remove_above}
use Rattle.std.proofs.lemmas.List.Folds.{list_any-append, list_any_at, list_any_none, Any-from_list_any}
use Rattle.xdb_lists.specs.Numbers.{is_among, NumbersRise, EndsRising}
use Rattle.xdb_lists.proofs.OrderLaws.{AllPairs-tail}

-- ---- membership

pub among-sought : (num : ℕ) (ns : List ℕ) (r : Result ℕ ℕ) → EndsRising (λ n. n) ns num r → is_ok r ≡ is_among num ns
among-sought num ns (Ok at) h = sym (list_any_at (λ m. eqb m num) ns at 0 h.0 (eq-eqb (get_or ns at 0) num (h.1 0)))
among-sought num ns (Err at) h = sym (list_any_none (λ m. eqb m num) ns (λ k d l. ne_eqb (get_or ns k d) num (λ e. elim (cases_lt k at) [
  | inl front ↦ let f = h.1.0 k d (omega arith) front in omega arith
  | inr back ↦ let f = h.1.1 k d back l in omega arith
])))

or_behind : (a b c : Bool) → (a || (b || c)) ≡ (b || (a || c))
or_behind true true c = refl
or_behind true false c = refl
or_behind false b c = refl

pub eqb_turned : (a b : ℕ) → eqb a b ≡ eqb b a
eqb_turned a b = elim (cases_eq a b) [
  | inl e ↦ eq-eqb a b e ∙ sym (eq-eqb b a (sym e))
  | inr ne ↦ ne_eqb a b ne ∙ sym (ne_eqb b a (λ e. ne (sym e)))
]

pub among_insert : (ns : List ℕ) (i num n : ℕ) → is_among n (insert ns i num) ≡ (eqb n num || is_among n ns)
among_insert ns i num n =
    list_any-append (λ m. eqb m n) (take i ns) (num ∷ drop i ns)
    ∙ or_behind (is_among n (take i ns)) (eqb num n) (is_among n (drop i ns))
    ∙ ap₂ ◌||◌ (eqb_turned num n) (sym (list_any-append (λ m. eqb m n) (take i ns) (drop i ns)) ∙ ap (is_among n) (take-append-drop i ns))

pub among_present : (num n : ℕ) (ns : List ℕ) → is_among num ns ≡ true → is_among n ns ≡ (eqb n num || is_among n ns)
among_present num n ns h = elim (cases_eq n num) [
  | inl e ↦ ap (λ k. is_among k ns) e ∙ h ∙ sym (ap (λ b. b || is_among n ns) (eq-eqb n num e))
  | inr ne ↦ sym (ap (λ b. b || is_among n ns) (ne_eqb n num ne))
]

among_without : (num : ℕ) (ns : List ℕ) (at : ℕ) → NumbersRise ns → at < length ns → ((d : ℕ) → get_or ns at d ≡ num) → is_among num (remove ns at) ≡ false
among_without num ns at rising l here = list_any_none (λ m. eqb m num) (remove ns at) (λ k d kl. ne_eqb (get_or (remove ns at) k d) num (λ e.
    let long = length-remove ns at l in
    let stands = here d in
    elim (cases_lt k at) [
      | inl front ↦ let f = rising k at d front l in let g = get_or-remove_below ns at d k front l in omega arith
      | inr back ↦ let f = rising at (k + 1) d (omega arith) (omega arith) in let g = get_or-remove_above ns at d k back l in omega arith
    ]))

among_others : (num n : ℕ) (ns : List ℕ) (at : ℕ) → at < length ns → ((d : ℕ) → get_or ns at d ≡ num) → (n ≡ num → ⊥) → is_among n (remove ns at) ≡ is_among n ns
among_others num n ns at l here ne =
    let off : eqb (get_or ns at 0) n ≡ false = ne_eqb (get_or ns at 0) n (λ e. ne (sym e ∙ here 0)) in
    let split : ns ≡ take at ns ++ get_or ns at 0 ∷ drop (suc at) ns = sym (take-append-drop at ns) ∙ ap (λ xs. take at ns ++ xs) (drop_more ns at 0 l ∙ ap (λ (k : ℕ). get_or ns at 0 ∷ drop k ns) (add-one at)) in
    list_any-append (λ m. eqb m n) (take at ns) (drop (suc at) ns)
    ∙ sym (
    ap (is_among n) split
    ∙ list_any-append (λ m. eqb m n) (take at ns) (get_or ns at 0 ∷ drop (suc at) ns)
    ∙ ap (λ b. is_among n (take at ns) || (b || is_among n (drop (suc at) ns))) off
    )

pub among_remove : (num : ℕ) (ns : List ℕ) (at : ℕ) → NumbersRise ns → at < length ns → ((d : ℕ) → get_or ns at d ≡ num) → (n : ℕ) → is_among n (remove ns at) ≡ (not (eqb n num) && is_among n ns)
among_remove num ns at rising l here n = elim (cases_eq n num) [
  | inl e ↦ ap (λ k. is_among k (remove ns at)) e ∙ among_without num ns at rising l here ∙ sym (ap (λ b. not b && is_among n ns) (eq-eqb n num e))
  | inr ne ↦ among_others num n ns at l here ne ∙ sym (ap (λ b. not b && is_among n ns) (ne_eqb n num ne))
]

pub among_absent : (num n : ℕ) (ns : List ℕ) → is_among num ns ≡ false → is_among n ns ≡ (not (eqb n num) && is_among n ns)
among_absent num n ns h = elim (cases_eq n num) [
  | inl e ↦ ap (λ k. is_among k ns) e ∙ h ∙ sym (ap (λ b. not b && is_among n ns) (eq-eqb n num e))
  | inr ne ↦ sym (ap (λ b. not b && is_among n ns) (ne_eqb n num ne))
]

-- ---- the least number

pub among_first : (num : ℕ) (rest : List ℕ) → is_among num (num ∷ rest) ≡ true
among_first num rest = or_left (eqb num num) (is_among num rest) (eq-eqb num num refl)

rest_above : (num : ℕ) (rest : List ℕ) (n : ℕ) → NumbersRise (num ∷ rest) → is_among n rest ≡ true → num < n
rest_above num rest n rising h =
    let found = Any-from_list_any (λ m. eqb m n) rest h in
    let k = found.0 in
    let x = found.1 in
    let low : num < get_or rest k x = rising 0 (suc k) x (omega arith) (omega (arith, found.2)) in
    let at : get_or rest k x ≡ x = found.3 in
    let same : x ≡ n = eqb-true x n found.4 in
    omega arith

pub least : (num : ℕ) (rest : List ℕ) (n : ℕ) → NumbersRise (num ∷ rest) → is_among n (num ∷ rest) ≡ true → num ≤ n
least num rest n rising h = elim (or_cases (eqb num n) (is_among n rest) h) [
  | inl here ↦ let e = eqb-true num n here in omega arith
  | inr behind ↦ let low = rest_above num rest n rising behind in omega arith
]

pub rest_rises : (num : ℕ) (rest : List ℕ) → NumbersRise (num ∷ rest) → NumbersRise rest
rest_rises num rest rising = AllPairs-tail (λ m n. m < n) num rest rising

not_above : (num : ℕ) (rest : List ℕ) → NumbersRise (num ∷ rest) → is_among num rest ≡ false
not_above num rest rising = elim (cases_Bool (is_among num rest)) [
  | inl h ↦ let low = rest_above num rest num rising h in absurd (omega arith)
  | inr h ↦ h
]

-- the others are those that are left
pub left_over : (num : ℕ) (rest : List ℕ) (n : ℕ) → NumbersRise (num ∷ rest) → is_among n rest ≡ (not (eqb n num) && is_among n (num ∷ rest))
left_over num rest n rising = elim (cases_eq n num) [
  | inl e ↦ ap (λ k. is_among k rest) e ∙ not_above num rest rising ∙ sym (ap (λ b. not b && is_among n (num ∷ rest)) (eq-eqb n num e))
  | inr ne ↦ sym (ap (λ b. not b && is_among n (num ∷ rest)) (ne_eqb n num ne) ∙ ap (λ b. b || is_among n rest) (ne_eqb num n (λ e. ne (sym e))))
]
