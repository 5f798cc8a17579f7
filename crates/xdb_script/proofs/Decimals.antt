-- Decimals as `parse` of std reads them.
use Rattle.std.proofs.Common.{◌≡◌, ◌≢◌, ℕ, ◌+◌, ◌%◌, ◌^◌, ◌<◌, ◌≤◌, Bool, true, false, ◌&&◌, eqb, leb, List, [], ◌∷◌, ◌++◌, length, get_or, Result, Ok, Err, MatchOption, sym, ap, subst, ◌∙◌, inl, inr, arith}
use Rattle.std.specs.Fmt.{decimal}
use Rattle.std.specs.Result.{OkIff, result_ok}
use Rattle.std.specs.Str.Parse.{AllDigits, IsNumeral, ParsesUnsigned, digits_value}
use Rattle.std.proofs.lemmas.Bool.{and_parts, and_from, or_left, or_cases, leb-true, le-leb, eqb-true, false≢true}
use Rattle.std.proofs.lemmas.Fmt.{decimal_by_steps, decimal_is_IsNumeral, decimal_injective, decimal-digits_value}
use Rattle.std.proofs.lemmas.Str.Parse.{IsNumeralModel, numerals_by_value, tells_digits, parse_plain}
use Rattle.xdb_script.proofs.Words.{number-again, number-none}
use Rattle.xdb_script.specs.Fields.{begins_decimal, number_read}
use Rattle.xdb_script.specs.declared.error.Why.TheVariants as why

-- the first letter is a digit, and no zero
abbrev begins_above : List ℕ → Bool
begins_above [] = false
begins_above (b ∷ bs) = leb 49 b && leb b 57

record Begins (n : ℕ) (ds : List ℕ) : Type 0 where
  decimal_so : begins_decimal ds ≡ true
  above : 0 < n → begins_above ds ≡ true

begins-digit : (n : ℕ) → n < 10 → Begins n ((48 + n) ∷ [])
begins-digit n h = record {
  decimal_so = grind arith;
  above = λ some. and_from (leb 49 (48 + n)) _ (le-leb 49 (48 + n) (omega arith)) (le-leb (48 + n) 57 (omega arith));
}

begins-more : (ds : List ℕ) (x : ℕ) → begins_above ds ≡ true → (begins_decimal (ds ++ x ∷ []) ≡ true) × (begins_above (ds ++ x ∷ []) ≡ true)
begins-more [] x h = absurd (false≢true h)
begins-more (d ∷ ds) x h = (or_left (leb 49 d && leb d 57) _ h, h)

pub decimal-begins : (word : List ℕ) (n : ℕ) → n < 2 ^ 64 → word ≡ decimal n → begins_decimal word ≡ true
decimal-begins word n small is =
    ap begins_decimal is
    ∙ (decimal_by_steps Begins begins-digit (λ m ds high before. let more = begins-more ds (48 + m % 10) (before.above (omega arith)) in record { decimal_so = more.0; above = λ some. more.1 }) n small).decimal_so

own : IsNumeralModel (AllDigits 10) (digits_value 10)
own = numerals_by_value (AllDigits 10) tells_digits

begins-plain : (word : List ℕ) → begins_decimal word ≡ true → (get_or word 0 0 ≢ 43) × (get_or word 0 0 ≡ 48 → length word ≡ 1)
begins-plain [] h = absurd (false≢true h)
begins-plain (b ∷ bs) h = elim (or_cases (leb 49 b && leb b 57) _ h) [
  | inl above ↦
      let low = leb-true 49 b (and_parts (leb 49 b) _ above).0 in
      (λ e. omega arith, λ e. absurd (omega arith))
  | inr zero ↦
      let parts = and_parts (eqb b 48) (eqb (length bs) 0) zero in
      let is = eqb-true b 48 parts.0 in
      let none = eqb-true (length bs) 0 parts.1 in
      (λ e. omega arith, λ e. omega arith)
]

parsed-by : {E : Type 0} (word : List ℕ) (r : Result ℕ E) → (get_or word 0 0 ≡ 48 → length word ≡ 1) → OkIff r (AllDigits 10 word × (0 < length word) × (digits_value 10 word < 2 ^ 64)) (digits_value 10 word) → MatchOption (result_ok r) ((n : ℕ) → n < 2 ^ 64 → word ≡ decimal n → ⊥) (λ n. (n < 2 ^ 64) × (word ≡ decimal n))
parsed-by word (Ok n) first h = (subst (λ k. k < 2 ^ 64) (sym h.1) h.0.2, sym (decimal-digits_value own word h.0.0 h.0.1 first h.0.2) ∙ ap decimal (sym h.1))
parsed-by word (Err e) first h = λ n small is.
    let numeral = decimal_is_IsNumeral n small in
    let numeral_word = subst (IsNumeral 10) (sym is) numeral.0 in
    h (numeral_word.1, numeral_word.0, subst (λ k. k < 2 ^ 64) (sym (ap (digits_value 10) is ∙ numeral.1)) small)

-- what `parse` says of a word that begins as a decimal does
pub parsed : {E : Type 0} (word : List ℕ) (r : Result ℕ E) → begins_decimal word ≡ true → ParsesUnsigned 64 10 word r → MatchOption (result_ok r) ((n : ℕ) → n < 2 ^ 64 → word ≡ decimal n → ⊥) (λ n. (n < 2 ^ 64) × (word ≡ decimal n))
parsed word r begins h =
    let plain = begins-plain word begins in
    parsed-by word r plain.1 (parse_plain own 64 word r h plain.0)

-- ---- numbers in a range

pub number-in : (least most n : ℕ) (word : List ℕ) → n < 2 ^ 64 → word ≡ decimal n → least ≤ n → n ≤ most → number_read least most word ≡ Ok n
number-in least most n word small is low high =
    ap (number_read least most) is ∙ number-again least most n (omega arith) (and_from (leb least n) (leb n most) (le-leb least n low) (le-leb n most high))

pub number-out : (least most n : ℕ) (word : List ℕ) → most < 2 ^ 64 → n < 2 ^ 64 → word ≡ decimal n → ((least ≤ n → n ≤ most → ⊥)) → number_read least most word ≡ Err why.Number
number-out least most n word top small is out = number-none least most word (λ m within same.
    let bounds = and_parts (leb least m) (leb m most) within in
    let low = leb-true least m bounds.0 in
    let high = leb-true m most bounds.1 in
    let one : m ≡ n = decimal_injective m n (omega arith) small (sym same ∙ is) in
    out (omega arith) (omega arith))

pub number-not : (least most : ℕ) (word : List ℕ) → most < 2 ^ 64 → ((n : ℕ) → n < 2 ^ 64 → word ≡ decimal n → ⊥) → number_read least most word ≡ Err why.Number
number-not least most word top none = number-none least most word (λ m within same.
    let high = leb-true m most (and_parts (leb least m) (leb m most) within).1 in
    none m (omega arith) same)
