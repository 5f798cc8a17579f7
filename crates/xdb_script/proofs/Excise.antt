-- The words of a load, before and behind the first `excise`.
use Rattle.std.proofs.Common.{◌≡◌, ℕ, suc, ◌+◌, ◌<◌, Bool, eqb, true, false, cond, not, List, [], ◌∷◌, length, get_or, take, drop, Result, Err, refl, ap, ◌∙◌, arith}
use Rattle.std.specs.Borrow.{Bor}
use Rattle.std.specs.List.{position_or_len}
use Rattle.std.proofs.lemmas.Bool.{true≢false}
use Rattle.xdb_script.proofs.Each.{GoesOn}
use Rattle.xdb_script.specs.Answers.{texts}
use Rattle.xdb_script.specs.declared.error.Why.{Why}
use Rattle.xdb_script.specs.declared.error.Why.TheVariants as why
use Rattle.xdb_script.specs.Reading.{is_excise, up_to_excise, pairs_shape}

abbrev first : List (Bor (List ℕ)) → ℕ
first words = position_or_len (λ word. is_excise word.now) words

up-by : (w : Bor (List ℕ)) (words : List (Bor (List ℕ))) (more : List (List ℕ) × List (List ℕ)) (n : ℕ) (t : Bool) → ◌≡◌ {A = List (List ℕ) × List (List ℕ)} more (texts (take n words), texts (drop n words)) → ◌≡◌ {A = List (List ℕ) × List (List ℕ)} (cond t ([], w.now ∷ texts words) (w.now ∷ more.0, more.1)) (texts (take (cond (not t) (1 + n) 0) (w ∷ words)), texts (drop (cond (not t) (1 + n) 0) (w ∷ words)))
up-by w words more n true e = refl
up-by w words more n false e =
    let one : suc n ≡ 1 + n = omega arith in
    (λ i. (w.now ∷ (e i).0, (e i).1)) ∙ (λ i. (texts (take (one i) (w ∷ words)), texts (drop (one i) (w ∷ words))))

-- the words before and behind are those up to the place, and from it on
pub up-at : (words : List (Bor (List ℕ))) → ◌≡◌ {A = List (List ℕ) × List (List ℕ)} (up_to_excise (texts words)) (texts (take (first words) words), texts (drop (first words) words))
up-at [] = refl
up-at (w ∷ words) = up-by w words (up_to_excise (texts words)) (first words) (is_excise w.now) (up-at words)

-- no word is the first one
pub none_first : {X : Type 0} (p : X → Bool) (xs : List X) → ((k : ℕ) (d : X) → k < length xs → p (get_or xs k d) ≡ false) → position_or_len p xs ≡ length xs
none_first p [] h = refl
none_first p (x ∷ xs) h = ap (λ t. cond (not t) (1 + position_or_len p xs) 0) (h 0 x (omega arith)) ∙ ap (λ n. 1 + n) (none_first p xs (λ k d below. h (suc k) d (omega arith))) ∙ omega arith

-- a word without a second one is no pair
pub one_left : (rest : List (Bor (List ℕ))) (done : List (List ℕ × List ℕ)) (whole : Result (List (List ℕ × List ℕ)) Why) → length rest < 2 → eqb (length rest) 0 ≡ false → GoesOn done (pairs_shape (texts rest)) whole → whole ≡ Err why.Shape
one_left [] done whole few some h = absurd (true≢false some)
one_left (w ∷ []) done whole few some h = h.is
one_left (v ∷ w ∷ rest) done whole few some h = absurd (omega arith)
