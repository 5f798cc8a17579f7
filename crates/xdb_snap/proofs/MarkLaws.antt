-- Marks in order, each once.
use Rattle.std.proofs.Common.{◌≡◌, ℕ, Bool, true, false, List, get_or, refl, sym, ap, ◌∙◌, eqb}
use Rattle.std.specs.List.{dedup, Contains}
use Rattle.std.specs.List.Sorted.{IsPermutation, IsSorted}
use Rattle.std.specs.Ordering.{nat_cmp}
use Rattle.std.proofs.lemmas.Bool.{eqb-true, eq-eqb}
use Rattle.std.proofs.lemmas.List.Folds.{Any-from_list_any, list_any_at}
use Rattle.std.proofs.lemmas.List.Kept.{AllPairs-from_increasing, Contains-dedup_nat, Contains-from_dedup}
use Rattle.std.proofs.lemmas.List.Sorted.{list_any-IsPermutation}
use Rattle.std.proofs.lemmas.Map.Keys.{IsStrictlyIncreasing-dedup}
use Rattle.xdb_lists.specs.Numbers.{is_among, NumbersRise}

among-from : (n : ℕ) (xs : List ℕ) → Contains xs n → is_among n xs ≡ true
among-from n xs c = list_any_at (λ m. eqb m n) xs c.0 n c.1 (eq-eqb (get_or xs c.0 n) n c.2)

among-tells : (n : ℕ) (xs : List ℕ) → is_among n xs ≡ true → Contains xs n
among-tells n xs h =
    let found = Any-from_list_any (λ m. eqb m n) xs h in
    let same : found.1 ≡ n = eqb-true found.1 n found.4 in
    (found.0, found.2, sym (ap (λ d. get_or xs found.0 d) same) ∙ found.3 ∙ same)

same_test : (a b : Bool) → (a ≡ true → b ≡ true) → (b ≡ true → a ≡ true) → a ≡ b
same_test true b to from = sym (to refl)
same_test false true to from = from refl
same_test false false to from = refl

pub among-dedup : (n : ℕ) (xs : List ℕ) → is_among n (dedup eqb xs) ≡ is_among n xs
among-dedup n xs = same_test (is_among n (dedup eqb xs)) (is_among n xs)
    (λ h. among-from n xs (Contains-from_dedup eqb xs n (among-tells n (dedup eqb xs) h)))
    (λ h. among-from n (dedup eqb xs) (Contains-dedup_nat xs n (among-tells n xs h)))

pub among-sorted : (n : ℕ) (xs ys : List ℕ) → IsPermutation xs ys → is_among n (dedup eqb ys) ≡ is_among n xs
among-sorted n xs ys same = among-dedup n ys ∙ sym (list_any-IsPermutation (λ m. eqb m n) xs ys same)

pub sorted-rise : (ys : List ℕ) → IsSorted nat_cmp ys → NumbersRise (dedup eqb ys)
sorted-rise ys sorted = AllPairs-from_increasing (dedup eqb ys) (IsStrictlyIncreasing-dedup ys sorted)
