-- What is said of the spaces between words, and of the words.
use Rattle.std.proofs.Common.{◌≡◌, ℕ, Bool, true, false, cond, not, ◌&&◌, eqb, leb, List, [], ◌∷◌, refl, sym, ap, subst, ◌∙◌, arith}
use Rattle.std.specs.List.{list_all, onto_first}
use Rattle.std.proofs.lemmas.Bool.{eqb-true, eqb-false, leb-true, leb-false}
use Rattle.std.proofs.Math.Bool.{and-false, and_assoc}
use Rattle.xdb_script.specs.Defects.{is_printable, spaced_behind, is_well_spaced}
use Rattle.xdb_script.specs.Grammar.{is_space, words_in}
use Rattle.xdb_script.specs.Reading.{is_visible, is_clean}

clean-some : (b : ℕ) (bs : List ℕ) → is_clean (b ∷ bs) ≡ (is_visible b && list_all is_visible bs)
clean-some b bs = refl

low-by : (b : ℕ) (t u : Bool) → leb 33 b ≡ t → leb 32 b ≡ u → eqb b 32 ≡ false → u ≡ t
low-by b true true e f other = refl
low-by b false false e f other = refl
low-by b true false e f other = let h = leb-true 33 b e in let k = leb-false 32 b f in absurd (omega arith)
low-by b false true e f other =
    let h = leb-false 33 b e in
    let k = leb-true 32 b f in
    absurd (eqb-false b 32 other (omega arith))

-- besides a space, what is printable is visible
visible-is : (b : ℕ) → eqb b 32 ≡ false → is_printable b ≡ is_visible b
visible-is b other = ap (λ t. t && leb b 126) (low-by b (leb 33 b) (leb 32 b) refl refl other)

-- words from a place on: what the first one, which may go on, and the others are
record AreSpaced (bs : List ℕ) (parts : List (List ℕ)) : Type 0 where
  first : List ℕ
  others : List (List ℕ)
  are : parts ≡ first ∷ others
  behind_space : (list_all is_printable bs && spaced_behind true bs) ≡ (is_clean first && list_all is_clean others)
  behind_letter : (list_all is_printable bs && spaced_behind false bs) ≡ (list_all is_visible first && list_all is_clean others)

space-more : (b : ℕ) (bs : List ℕ) (parts : List (List ℕ)) → eqb b 32 ≡ true → AreSpaced bs parts → AreSpaced (b ∷ bs) ([] ∷ parts)
space-more b bs parts is h =
    let same : b ≡ 32 = eqb-true b 32 is in
    subst (λ x. AreSpaced (x ∷ bs) ([] ∷ parts)) (sym same) (record {
      first = [];
      others = parts;
      are = refl;
      behind_space = and-false (list_all is_printable bs);
      behind_letter = h.behind_space ∙ ap (list_all is_clean) (sym h.are);
    })

letter-more : (b : ℕ) (bs : List ℕ) (parts : List (List ℕ)) → eqb b 32 ≡ false → AreSpaced bs parts → AreSpaced (b ∷ bs) (onto_first b parts)
letter-more b bs parts other h =
    let behind : (s : Bool) → spaced_behind s (b ∷ bs) ≡ spaced_behind false bs = λ s. ap (λ t. cond t (not s && spaced_behind true bs) (spaced_behind false bs)) other in
    let all : (s : Bool) → (list_all is_printable (b ∷ bs) && spaced_behind s (b ∷ bs)) ≡ ((is_visible b && list_all is_visible h.first) && list_all is_clean h.others) =
    λ s. ap (λ t. (is_printable b && list_all is_printable bs) && t) (behind s)
    ∙ and_assoc (is_printable b) (list_all is_printable bs) (spaced_behind false bs)
    ∙ (λ i. visible-is b other i && h.behind_letter i)
    ∙ sym (and_assoc (is_visible b) (list_all is_visible h.first) (list_all is_clean h.others)) in
    record { first = b ∷ h.first; others = h.others; are = ap (onto_first b) h.are; behind_space = all true; behind_letter = all false }

more-by : (b : ℕ) (bs : List ℕ) (parts : List (List ℕ)) (t : Bool) → eqb b 32 ≡ t → AreSpaced bs parts → AreSpaced (b ∷ bs) (cond t ([] ∷ parts) (onto_first b parts))
more-by b bs parts true e h = space-more b bs parts e h
more-by b bs parts false e h = letter-more b bs parts e h

are-spaced : (bs : List ℕ) → AreSpaced bs (words_in bs)
are-spaced [] = record { first = []; others = []; are = refl; behind_space = refl; behind_letter = refl }
are-spaced (b ∷ bs) = more-by b bs (words_in bs) (is_space b) refl (are-spaced bs)

pub spaces-seen : (part : List ℕ) → list_all is_clean (words_in part) ≡ is_well_spaced part
spaces-seen part = let h = are-spaced part in ap (list_all is_clean) h.are ∙ sym h.behind_space
