-- Single words: what is read of one is spelled so, and what is spelled so is read.
use Rattle.std.proofs.Common.{◌≡◌, ℕ, ◌+◌, ◌*◌, ◌/◌, ◌%◌, ◌^◌, ◌<◌, ◌≤◌, Bool, true, false, cond, not, ◌&&◌, ◌||◌, eqb, leb, ltb, List, [], ◌∷◌, ◌++◌, length, map, Some, Result, Ok, Err, refl, sym, ap, subst, ◌∙◌, inl, inr, ◌⊎◌, arith, codes}
use Rattle.std.specs.List.{list_all, flat_map, find}
use Rattle.std.specs.Fmt.{decimal}
use Rattle.std.specs.Str.Parse.{digits_value}
use Rattle.std.specs.Ordering.{is_eq}
use Rattle.std.specs.Cmp.{tied_itself, Equal-is}
use Rattle.std.proofs.lemmas.Bool.{and_parts, and_from, ne_eqb, leb-true, le-leb, ltb-true, lt-ltb, le-ltb, false≢true, not-true, false_from_ne_true, or_parts, or_cases, cases_lt, agree_below_at, cond-true, cond-false}
use Rattle.std.proofs.lemmas.Fmt.{decimal_is_IsNumeral_wide, decimal_by_steps_wide}
use Rattle.std.proofs.lemmas.List.{length-append}
use Rattle.std.proofs.lemmas.List.Folds.{list_all-append}
use Rattle.xdb_key.proofs.OrderLaws.{key_exact, key_total}
use Rattle.xdb_key.proofs.ReadingLaws.{bind_ok}
use Rattle.xdb_key.specs.Name.{is_name, is_name_byte, is_lower, is_digit}
use Rattle.xdb_key.specs.Order.{key_cmp}
use Rattle.xdb_key.specs.Reading.{◌>>=◌}
use Rattle.xdb_plain.specs.Words.{is_plain, hex_digit, byte_word, string_word}
use Rattle.xdb_script.specs.Fields.{same_word, digit_of, escaped, letters, unspelled, is_spelling, string_read, name_read, number_read, all_read}
use Rattle.xdb_script.specs.Reading.{is_visible, is_clean, is_semicolon, is_excise}
use Rattle.xdb_script.specs.Rules.{are_bytes, has_length, is_string}
use Rattle.xdb_script.specs.declared.error.Why.{Why}
use Rattle.xdb_script.specs.declared.error.Why.TheVariants as why

-- ---- tests and answers

-- two values that were read are one
pub ok_is : {A E : Type 0} (x y : A) → ◌≡◌ {A = Result A E} (Ok x) (Ok y) → x ≡ y
ok_is x y e = cc

-- a test passed, so what was read is its answer
pub passed : {A E : Type 0} {x : A} (b : Bool) (r : Result A E) (d : E) → cond b r (Err d) ≡ Ok x → (b ≡ true) × (r ≡ Ok x)
passed true r d e = (refl, e)
passed false r d e = cc

pub found_tells : {X : Type 0} (test : X → Bool) (xs : List X) (x : X) → find test xs ≡ Some x → test x ≡ true
found_tells test [] x e = cc
found_tells test (y ∷ ys) x e = elim (test y) as (λ t. test y ≡ t → cond t (Some y) (find test ys) ≡ Some x → test x ≡ true) [
  | true ↦ λ is e. let same : y ≡ x = cc in ap test (sym same) ∙ is
  | false ↦ λ is e. found_tells test ys x e
] refl e

pub same-tells : (a b : List ℕ) → same_word a b ≡ true → a ≡ b
same-tells a b h = key_exact a b ((Equal-is (key_cmp a b)).0 h)

pub same-itself : (a : List ℕ) → same_word a a ≡ true
same-itself a = ap is_eq (tied_itself key_total a)

-- ---- strings

plain-no-percent : (b : ℕ) → is_plain b ≡ true → eqb b 37 ≡ false
plain-no-percent b plain = ne_eqb b 37 (λ e. false≢true (sym (ap is_plain e) ∙ plain))

hex-small : (d : ℕ) → d < 10 → hex_digit d ≡ 48 + d
hex-small d h = cond-true (ltb d 10) _ _ (lt-ltb d 10 h)

hex-large : (d : ℕ) → 10 ≤ d → hex_digit d ≡ 87 + d
hex-large d h = cond-false (ltb d 10) _ _ (le-ltb d 10 h)

-- a digit is from `0` to `9` or from `a` to `f`
record IsHex (d letter : ℕ) : Type 0 where
  low : 48 ≤ letter
  high : letter ≤ 102
  stands : digit_of letter ≡ d

hex-by : (d : ℕ) → d < 16 → (d < 10) ⊎ (10 ≤ d) → IsHex d (hex_digit d)
hex-by d h (inl small) = subst (λ x. IsHex d x) (sym (hex-small d small)) (record {
  low = omega arith;
  high = omega arith;
  stands = cond-true (ltb (48 + d) 97) _ _ (lt-ltb (48 + d) 97 (omega arith)) ∙ omega arith;
})
hex-by d h (inr large) = subst (λ x. IsHex d x) (sym (hex-large d large)) (record {
  low = omega arith;
  high = omega arith;
  stands = cond-false (ltb (87 + d) 97) _ _ (le-ltb (87 + d) 97 (omega arith)) ∙ omega arith;
})

is-hex : (d : ℕ) → d < 16 → IsHex d (hex_digit d)
is-hex d h = hex-by d h (cases_lt d 10)

no-percent : (d : ℕ) → d < 16 → eqb (hex_digit d) 37 ≡ false
no-percent d h = let low = (is-hex d h).low in ne_eqb (hex_digit d) 37 (λ e. omega arith)

-- a byte's letters stand for it
letters-plain : (b : ℕ) (word : List ℕ) → is_plain b ≡ true → letters (b ∷ word) ≡ b ∷ letters word
letters-plain b word plain = cond-false (eqb b 37) _ _ (plain-no-percent b plain)

letters-digit : (d : ℕ) (word : List ℕ) → d < 16 → letters (hex_digit d ∷ word) ≡ hex_digit d ∷ letters word
letters-digit d word h = cond-false (eqb (hex_digit d) 37) _ _ (no-percent d h)

letters-escaped : (b : ℕ) (word : List ℕ) → b < 256 → letters (37 ∷ hex_digit (b / 16) ∷ hex_digit (b % 16) ∷ word) ≡ b ∷ letters word
letters-escaped b word h =
    let high : b / 16 < 16 = omega arith in
    let low : b % 16 < 16 = omega arith in
    let front : letters (hex_digit (b / 16) ∷ hex_digit (b % 16) ∷ word) ≡ hex_digit (b / 16) ∷ hex_digit (b % 16) ∷ letters word =
    letters-digit (b / 16) (hex_digit (b % 16) ∷ word) high ∙ ap (λ bs. hex_digit (b / 16) ∷ bs) (letters-digit (b % 16) word low) in
    let up = (is-hex (b / 16) high).stands in
    let down = (is-hex (b % 16) low).stands in
    let value : 16 * digit_of (hex_digit (b / 16)) + digit_of (hex_digit (b % 16)) ≡ b = (λ i. 16 * up i + down i) ∙ omega arith in
    ap escaped front ∙ ap (λ n. n ∷ letters word) value

letters-byte-by : (b : ℕ) (word : List ℕ) → b < 256 → (t : Bool) → is_plain b ≡ t → letters (cond t (b ∷ []) (37 ∷ hex_digit (b / 16) ∷ hex_digit (b % 16) ∷ []) ++ word) ≡ b ∷ letters word
letters-byte-by b word h true e = letters-plain b word e
letters-byte-by b word h false e = letters-escaped b word h

pub letters-byte : (b : ℕ) (word : List ℕ) → b < 256 → letters (byte_word b ++ word) ≡ b ∷ letters word
letters-byte b word h = letters-byte-by b word h (is_plain b) refl

letters-bytes : (bytes : List ℕ) → are_bytes bytes ≡ true → letters (flat_map byte_word bytes) ≡ bytes
letters-bytes [] h = refl
letters-bytes (b ∷ bs) h =
    let parts = and_parts (ltb b 256) (are_bytes bs) h in
    letters-byte b (flat_map byte_word bs) (ltb-true b 256 parts.0) ∙ ap (λ xs. b ∷ xs) (letters-bytes bs parts.1)

-- no spelling of bytes is that of no bytes
no-quotes : (b : ℕ) (bs : List ℕ) → are_bytes (b ∷ bs) ≡ true → flat_map byte_word (b ∷ bs) ≡ codes "\"\"" → ⊥
no-quotes b bs h e =
    let stands : b ∷ bs ≡ 34 ∷ 34 ∷ [] = sym (letters-bytes (b ∷ bs) h) ∙ ap letters e in
    let spelled : codes "%22%22" ≡ codes "\"\"" = ap (flat_map byte_word) (sym stands) ∙ e in
    false≢true (ap (λ w. same_word w (codes "\"\"")) spelled)

pub unspelled-again : (bytes : List ℕ) → are_bytes bytes ≡ true → unspelled (string_word bytes) ≡ bytes
unspelled-again [] h = refl
unspelled-again (b ∷ bs) h =
    cond-false (same_word (flat_map byte_word (b ∷ bs)) (codes "\"\"")) _ _ (false_from_ne_true _ (λ e. no-quotes b bs h (same-tells _ _ e)))
    ∙ letters-bytes (b ∷ bs) h

pub is_spelling-again : (bytes : List ℕ) → are_bytes bytes ≡ true → is_spelling (string_word bytes) ≡ true
is_spelling-again bytes h =
    ap (λ xs. are_bytes xs && same_word (string_word xs) (string_word bytes)) (unspelled-again bytes h)
    ∙ and_from (are_bytes bytes) _ h (same-itself (string_word bytes))

pub string-again : (least most : ℕ) (bytes : List ℕ) → is_string least most bytes ≡ true → string_read least most (string_word bytes) ≡ Ok bytes
string-again least most bytes h =
    let parts = and_parts (are_bytes bytes) (has_length least most bytes) h in
    cond-true (is_spelling (string_word bytes)) _ _ (is_spelling-again bytes parts.0)
    ∙ ap (λ xs. cond (has_length least most xs) (Ok xs) (Err why.Length)) (unspelled-again bytes parts.0)
    ∙ cond-true (has_length least most bytes) _ _ parts.1

pub string-is : (least most : ℕ) (word bytes : List ℕ) → string_read least most word ≡ Ok bytes → (word ≡ string_word bytes) × (is_string least most bytes ≡ true)
string-is least most word bytes e =
    let a = passed (is_spelling word) _ why.Token e in
    let b = passed (has_length least most (unspelled word)) (Ok (unspelled word)) why.Length a.1 in
    let spelled = and_parts (are_bytes (unspelled word)) _ a.0 in
    let same : unspelled word ≡ bytes = ok_is (unspelled word) bytes b.1 in
    (sym (same-tells _ _ spelled.1) ∙ ap string_word same, ap (is_string least most) (sym same) ∙ and_from _ _ spelled.0 b.0)

-- a spelling of too few or too many bytes
pub string-length : (least most : ℕ) (bytes : List ℕ) → are_bytes bytes ≡ true → has_length least most bytes ≡ false → string_read least most (string_word bytes) ≡ Err why.Length
string-length least most bytes h wrong =
    cond-true (is_spelling (string_word bytes)) _ _ (is_spelling-again bytes h)
    ∙ ap (λ xs. cond (has_length least most xs) (Ok xs) (Err why.Length)) (unspelled-again bytes h)
    ∙ cond-false (has_length least most bytes) _ _ wrong

-- a word that spells nothing
pub string-token : (least most : ℕ) (word : List ℕ) → ((bytes : List ℕ) → are_bytes bytes ≡ true → word ≡ string_word bytes → ⊥) → string_read least most word ≡ Err why.Token
string-token least most word none = cond-false (is_spelling word) _ _ (false_from_ne_true _ (λ e.
    let spelled = and_parts (are_bytes (unspelled word)) _ e in
    none (unspelled word) spelled.0 (sym (same-tells _ _ spelled.1))))

-- no bytes are spelled by a semicolon
pub no-semicolon : (bytes : List ℕ) → are_bytes bytes ≡ true → is_semicolon (string_word bytes) ≡ false
no-semicolon bytes h = false_from_ne_true _ (λ e.
    let is : string_word bytes ≡ codes ";" = same-tells _ _ e in
    let stands : bytes ≡ codes ";" = sym (unspelled-again bytes h) ∙ ap unspelled is in
    let spelled : codes "%3b" ≡ codes ";" = ap string_word (sym stands) ∙ is in
    false≢true (ap (λ w. same_word w (codes ";")) spelled))

-- ---- numbers

pub number-is : (least most : ℕ) (word : List ℕ) (n : ℕ) → number_read least most word ≡ Ok n → (word ≡ decimal n) × ((leb least n && leb n most) ≡ true)
number-is least most word n e =
    let m = digits_value 10 word in
    let a = passed (same_word (decimal m) word && (leb least m && leb m most)) (Ok m) why.Number e in
    let parts = and_parts (same_word (decimal m) word) _ a.0 in
    let same : m ≡ n = ok_is m n a.1 in
    (sym (same-tells _ _ parts.0) ∙ ap decimal same, ap (λ k. leb least k && leb k most) (sym same) ∙ parts.1)

pub number-again : (least most n : ℕ) → n < 10 ^ 64 → (leb least n && leb n most) ≡ true → number_read least most (decimal n) ≡ Ok n
number-again least most n small h =
    let value : digits_value 10 (decimal n) ≡ n = (decimal_is_IsNumeral_wide n small).1 in
    ap (λ m. cond (same_word (decimal m) (decimal n) && (leb least m && leb m most)) (Ok m) (Err why.Number)) value
    ∙ cond-true _ _ _ (and_from _ _ (same-itself (decimal n)) h)

pub number-none : (least most : ℕ) (word : List ℕ) → ((n : ℕ) → (leb least n && leb n most) ≡ true → word ≡ decimal n → ⊥) → number_read least most word ≡ Err why.Number
number-none least most word none =
    let m = digits_value 10 word in
    cond-false (same_word (decimal m) word && (leb least m && leb m most)) _ _ (false_from_ne_true _ (λ e.
    let parts = and_parts (same_word (decimal m) word) _ e in
    none m parts.1 (sym (same-tells _ _ parts.0))))

-- ---- names

pub name-is : (word name : List ℕ) → name_read word ≡ Ok name → (word ≡ name) × (is_name name ≡ true)
name-is word name e =
    let a = passed (is_name word) (Ok word) why.Name e in
    let same : word ≡ name = ok_is word name a.1 in
    (same, ap is_name (sym same) ∙ a.0)

pub name-again : (name : List ℕ) → is_name name ≡ true → name_read name ≡ Ok name
name-again name h = cond-true (is_name name) _ _ h

pub no-excise : (name : List ℕ) → is_name name ≡ true → is_excise name ≡ false
no-excise name h = (or_parts _ _ (not-true _ (and_parts _ _ h).1)).1

-- ---- words are clean

clean-from : (word : List ℕ) → 0 < length word → list_all is_visible word ≡ true → is_clean word ≡ true
clean-from [] some h = absurd (omega arith)
clean-from (b ∷ bs) some h = h

visible-from : (b : ℕ) → 33 ≤ b → b ≤ 126 → is_visible b ≡ true
visible-from b low high = and_from (leb 33 b) (leb b 126) (le-leb 33 b low) (le-leb b 126 high)

visible-plain : (b : ℕ) → b < 256 → is_plain b ≡ true → is_visible b ≡ true
visible-plain b h plain =
    let shown : (not (is_plain b) || is_visible b) ≡ true = agree_below_at (λ x. not (is_plain x) || is_visible x) (λ x. true) 256 b refl h in
    ap (λ t. not t || is_visible b) (sym plain) ∙ shown

visible-hex : (d : ℕ) → d < 16 → is_visible (hex_digit d) ≡ true
visible-hex d h = let is = is-hex d h in let low = is.low in let high = is.high in visible-from (hex_digit d) (omega arith) (omega arith)

visible-byte-by : (b : ℕ) → b < 256 → (t : Bool) → is_plain b ≡ t → list_all is_visible (cond t (b ∷ []) (37 ∷ hex_digit (b / 16) ∷ hex_digit (b % 16) ∷ [])) ≡ true
visible-byte-by b h true e = and_from (is_visible b) true (visible-plain b h e) refl
visible-byte-by b h false e =
    and_from (is_visible (hex_digit (b / 16))) _ (visible-hex (b / 16) (omega arith)) (and_from (is_visible (hex_digit (b % 16))) true (visible-hex (b % 16) (omega arith)) refl)

visible-bytes : (bytes : List ℕ) → are_bytes bytes ≡ true → list_all is_visible (flat_map byte_word bytes) ≡ true
visible-bytes [] h = refl
visible-bytes (b ∷ bs) h =
    let parts = and_parts (ltb b 256) (are_bytes bs) h in
    list_all-append is_visible (byte_word b) (flat_map byte_word bs)
    ∙ and_from _ _ (visible-byte-by b (ltb-true b 256 parts.0) (is_plain b) refl) (visible-bytes bs parts.1)

some-byte : (b : ℕ) (word : List ℕ) (t : Bool) → 0 < length (cond t (b ∷ []) (37 ∷ hex_digit (b / 16) ∷ hex_digit (b % 16) ∷ []) ++ word)
some-byte b word true = omega arith
some-byte b word false = omega arith

pub clean-string : (bytes : List ℕ) → are_bytes bytes ≡ true → is_clean (string_word bytes) ≡ true
clean-string [] h = refl
clean-string (b ∷ bs) h = clean-from (flat_map byte_word (b ∷ bs)) (some-byte b (flat_map byte_word bs) (is_plain b)) (visible-bytes (b ∷ bs) h)

shown-digit : (n : ℕ) → n < 10 → (0 < length ((48 + n) ∷ [])) × (list_all is_visible ((48 + n) ∷ []) ≡ true)
shown-digit n h = (omega arith, and_from (is_visible (48 + n)) true (visible-from (48 + n) (omega arith) (omega arith)) refl)

shown-more : (n : ℕ) (ds : List ℕ) → (0 < length ds) × (list_all is_visible ds ≡ true) → (0 < length (ds ++ (48 + n % 10) ∷ [])) × (list_all is_visible (ds ++ (48 + n % 10) ∷ []) ≡ true)
shown-more n ds h =
    let last = shown-digit (n % 10) (omega arith) in
    (omega (arith, length-append ds ((48 + n % 10) ∷ [])), list_all-append is_visible ds ((48 + n % 10) ∷ []) ∙ and_from _ _ h.1 last.1)

pub clean-decimal : (n : ℕ) → n < 10 ^ 64 → is_clean (decimal n) ≡ true
clean-decimal n h =
    let shown = decimal_by_steps_wide (λ m ds. (0 < length ds) × (list_all is_visible ds ≡ true)) shown-digit (λ m ds l before. shown-more m ds before) n h in
    clean-from (decimal n) shown.0 shown.1

visible-name-byte : (b : ℕ) → is_name_byte b ≡ true → is_visible b ≡ true
visible-name-byte b h = elim (or_cases (is_lower b) (is_digit b) h) [
  | inl lower ↦ let parts = and_parts (leb 97 b) (leb b 122) lower in let low = leb-true 97 b parts.0 in let high = leb-true b 122 parts.1 in visible-from b (omega arith) (omega arith)
  | inr digit ↦ let parts = and_parts (leb 48 b) (leb b 57) digit in let low = leb-true 48 b parts.0 in let high = leb-true b 57 parts.1 in visible-from b (omega arith) (omega arith)
]

visible-name : (name : List ℕ) → list_all is_name_byte name ≡ true → list_all is_visible name ≡ true
visible-name [] h = refl
visible-name (b ∷ bs) h = let parts = and_parts (is_name_byte b) _ h in and_from _ _ (visible-name-byte b parts.0) (visible-name bs parts.1)

pub clean-name : (name : List ℕ) → is_name name ≡ true → is_clean name ≡ true
clean-name [] h = absurd (false≢true h)
clean-name (b ∷ bs) h = visible-name (b ∷ bs) (and_parts _ _ (and_parts _ _ (and_parts _ _ h).0).0).1

-- ---- lists of words

module _ {X A : Type 0} (read : X → Result A Why) (spell : A → X) (limit : A → Bool) where
  pub all-is : ((x : X) (a : A) → read x ≡ Ok a → (x ≡ spell a) × (limit a ≡ true)) → (xs : List X) (made : List A) → all_read read xs ≡ Ok made → (xs ≡ map spell made) × (list_all limit made ≡ true)
  all-is one [] made e = subst (λ ys. ([] ≡ map spell ys) × (list_all limit ys ≡ true)) (ok_is [] made e) (refl, refl)
  all-is one (x ∷ xs) made e =
      let a = bind_ok (read x) (λ y. all_read read xs >>= λ ys. Ok (y ∷ ys)) e in
      let b = bind_ok (all_read read xs) (λ ys. Ok (a.0 ∷ ys)) a.2 in
      let first = one x a.0 a.1 in
      let others = all-is one xs b.0 b.1 in
      subst (λ ys. (x ∷ xs ≡ map spell ys) × (list_all limit ys ≡ true)) (ok_is (a.0 ∷ b.0) made b.2) ((λ i. first.0 i ∷ others.0 i), and_from _ _ first.1 others.1)

  pub all-again : ((a : A) → limit a ≡ true → read (spell a) ≡ Ok a) → (made : List A) → list_all limit made ≡ true → all_read read (map spell made) ≡ Ok made
  all-again one [] h = refl
  all-again one (a ∷ made) h =
      let parts = and_parts (limit a) _ h in
      ap (λ r. r >>= λ y. all_read read (map spell made) >>= λ ys. Ok (y ∷ ys)) (one a parts.0)
      ∙ ap (λ r. r >>= λ ys. Ok (a ∷ ys)) (all-again one made parts.1)
