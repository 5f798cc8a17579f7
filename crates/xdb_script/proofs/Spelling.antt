-- Letters read one byte after the other: what was read so far goes on with what is left.
use Rattle.std.proofs.Common.{◌≡◌, ◌≢◌, ℕ, suc, ◌<◌, true, false, eqb, ltb, List, [], ◌∷◌, ◌++◌, length, append_assoc, append-nil, refl, sym, ap, ◌∙◌, codes}
use Rattle.std.specs.List.{flat_map, list_all}
use Rattle.std.proofs.lemmas.Bool.{and_parts, and_from, lt-ltb, ltb-true, false_from_ne_true, cond-false, eqb-true, false≢true}
use Rattle.std.proofs.lemmas.Grind.{flat_map-append}
use Rattle.std.proofs.lemmas.List.{append_cancel_left, nil_from_length}
use Rattle.std.proofs.lemmas.List.Folds.{list_all-append}
use Rattle.xdb_key.specs.Reading.{AreBytes}
use Rattle.xdb_plain.specs.Words.{is_plain, byte_word, string_word}
use Rattle.xdb_script.proofs.Words.{same-tells, letters-byte, unspelled-again, is_spelling-again}
use Rattle.xdb_script.specs.Fields.{same_word, letters, unspelled, is_spelling}
use Rattle.xdb_script.specs.Rules.{are_bytes}

-- the letters of these bytes stand before what is left
pub record IsSoFar (word bytes rest : List ℕ) : Type 0 where
  pub bytes_are : are_bytes bytes ≡ true
  pub parts : word ≡ flat_map byte_word bytes ++ rest

-- what is left begins with the letters of no byte
abbrev pub NoByte : List ℕ → Type 0
NoByte rest = (b : ℕ) (after : List ℕ) → b < 256 → rest ≡ byte_word b ++ after → ⊥

pub is_none_yet : (word : List ℕ) → IsSoFar word [] word
is_none_yet word = record { bytes_are = refl; parts = refl }

pub is_one_more : (word bytes rest : List ℕ) (b : ℕ) (after : List ℕ) → b < 256 → rest ≡ byte_word b ++ after → IsSoFar word bytes rest → IsSoFar word (bytes ++ b ∷ []) after
is_one_more word bytes rest b after small front h = record {
  bytes_are = list_all-append (λ x. ltb x 256) bytes (b ∷ []) ∙ and_from _ _ h.bytes_are (and_from _ true (lt-ltb b 256 small) refl);
  parts =
      h.parts ∙ ap (λ xs. flat_map byte_word bytes ++ xs) front ∙ sym (append_assoc (flat_map byte_word bytes) (byte_word b) after)
      ∙ ap (λ xs. (flat_map byte_word bytes ++ xs) ++ after) (sym (append-nil (byte_word b)))
      ∙ ap (λ xs. xs ++ after) (sym (flat_map-append byte_word bytes (b ∷ [])));
}

-- bytes that stand for themselves are their own letters
plain-word : (word : List ℕ) → list_all is_plain word ≡ true → flat_map byte_word word ≡ word
plain-word [] h = refl
plain-word (b ∷ bs) h =
    let both = and_parts (is_plain b) (list_all is_plain bs) h in
    rw both.0 (ap (λ xs. b ∷ xs) (plain-word bs both.1))

each-small : (bytes : List ℕ) → AreBytes bytes → are_bytes bytes ≡ true
each-small [] h = refl
each-small (b ∷ bs) h = and_from (ltb b 256) (are_bytes bs) (lt-ltb b 256 (h 0)) (each-small bs (λ i. h (suc i)))

pub plain_so_far : (word : List ℕ) → AreBytes word → list_all is_plain word ≡ true → IsSoFar word word []
plain_so_far word small h = record {
  bytes_are = each-small word small;
  parts = sym (append-nil (flat_map byte_word word) ∙ plain-word word h);
}

some-bytes : (word bytes : List ℕ) → word ≢ [] → word ≡ flat_map byte_word bytes → string_word bytes ≡ word
some-bytes word [] some parts = absurd (some parts)
some-bytes word (b ∷ bs) some parts = sym parts

-- nothing is left, so these are the bytes
pub is_all : (word bytes rest : List ℕ) → word ≢ [] → rest ≡ [] → IsSoFar word bytes rest → (is_spelling word ≡ true) × (bytes ≡ unspelled word)
is_all word bytes rest some none h =
    let parts : word ≡ flat_map byte_word bytes = h.parts ∙ ap (λ xs. flat_map byte_word bytes ++ xs) none ∙ append-nil (flat_map byte_word bytes) in
    let spelled = some-bytes word bytes some parts in
    (ap is_spelling (sym spelled) ∙ is_spelling-again bytes h.bytes_are, sym (unspelled-again bytes h.bytes_are) ∙ ap unspelled spelled)

letters-front : (bytes rest : List ℕ) → are_bytes bytes ≡ true → letters (flat_map byte_word bytes ++ rest) ≡ bytes ++ letters rest
letters-front [] rest h = refl
letters-front (b ∷ bs) rest h =
    let parts = and_parts (ltb b 256) (are_bytes bs) h in
    ap letters (append_assoc (byte_word b) (flat_map byte_word bs) rest)
    ∙ letters-byte b (flat_map byte_word bs ++ rest) (ltb-true b 256 parts.0)
    ∙ ap (λ xs. b ∷ xs) (letters-front bs rest parts.1)

-- the letters behind spell the bytes behind
behind : (bytes rest : List ℕ) → are_bytes bytes ≡ true → are_bytes (letters (flat_map byte_word bytes ++ rest)) ≡ true → flat_map byte_word (letters (flat_map byte_word bytes ++ rest)) ≡ flat_map byte_word bytes ++ rest → (are_bytes (letters rest) ≡ true) × (rest ≡ flat_map byte_word (letters rest))
behind bytes rest h all spelled =
    let front = letters-front bytes rest h in
    let both = sym (list_all-append (λ x. ltb x 256) bytes (letters rest)) ∙ ap are_bytes (sym front) ∙ all in (
      (and_parts (are_bytes bytes) (are_bytes (letters rest)) both).1,
      append_cancel_left (flat_map byte_word bytes) rest (flat_map byte_word (letters rest))
          (sym spelled ∙ ap (flat_map byte_word) front ∙ flat_map-append byte_word bytes (letters rest)),
    )

none-behind : (rest bytes : List ℕ) → rest ≢ [] → are_bytes bytes ≡ true → rest ≡ flat_map byte_word bytes → NoByte rest → ⊥
none-behind rest [] some h parts no-byte = some parts
none-behind rest (b ∷ bs) some h parts no-byte = no-byte b (flat_map byte_word bs) (ltb-true b 256 (and_parts (ltb b 256) (are_bytes bs) h).0) parts

letters-of : (word : List ℕ) → word ≢ codes "\"\"" → unspelled word ≡ letters word
letters-of word other = cond-false (same_word word (codes "\"\"")) _ _ (false_from_ne_true _ (λ e. other (same-tells word _ e)))

some-letters : (word bytes : List ℕ) → word ≢ codes "\"\"" → string_word bytes ≡ word → flat_map byte_word bytes ≡ word
some-letters word [] other e = absurd (other (sym e))
some-letters word (b ∷ bs) other e = e

-- what is left begins with no byte, so the word spells nothing
pub is_none : (word bytes rest : List ℕ) → word ≢ codes "\"\"" → rest ≢ [] → NoByte rest → IsSoFar word bytes rest → is_spelling word ≡ false
is_none word bytes rest other some no-byte h = false_from_ne_true _ (λ e.
    let spelled = and_parts (are_bytes (unspelled word)) _ e in
    let letters_are = letters-of word other in
    let text : flat_map byte_word (unspelled word) ≡ word = some-letters word (unspelled word) other (same-tells _ _ spelled.1) in
    let of : unspelled word ≡ letters (flat_map byte_word bytes ++ rest) = letters_are ∙ ap letters h.parts in
    let b = behind bytes rest h.bytes_are (ap are_bytes (sym of) ∙ spelled.0) (ap (flat_map byte_word) (sym of) ∙ text ∙ h.parts) in
    none-behind rest (letters rest) some b.0 b.1 no-byte)

pub some_left : (rest : List ℕ) → eqb (length rest) 0 ≡ false → rest ≢ []
some_left rest h e = false≢true (sym h ∙ ap (λ xs. eqb (length xs) 0) e)

pub none_left : (rest : List ℕ) → eqb (length rest) 0 ≡ true → rest ≡ []
none_left rest h = nil_from_length rest (eqb-true (length rest) 0 h)
