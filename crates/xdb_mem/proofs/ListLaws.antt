-- Filters that keep all or nothing, parts of lists in order, and the two sides of a partition point.
use Rattle.std.proofs.Common.{◌≡◌, ℕ, ◌+◌, ◌<◌, Bool, true, false, List, [], ◌∷◌, ◌++◌, length, get_or, take, drop, inl, inr, refl, sym, ap, subst, arith}
use Rattle.std.proofs.lemmas.List.{get_or-take, get_or-drop, length-take, length-drop}
use Rattle.std.proofs.lemmas.List.Elements.{All-head, All-tail}
use Rattle.std.proofs.lemmas.List.Kept.{AllPairs-cons}
use Rattle.std.specs.List.{All, AllPairs, filter}
use Rattle.std.specs.List.Sorted.{IsPartitionPoint}
use Rattle.xdb_rangedel.specs.Members.{Has}
use Rattle.xdb_rangedel.proofs.MemberLaws.{Has-append_cases}
use Rattle.xdb_rangedel.proofs.FragmentLaws.{All-from_Has, All-at_Has, AllPairs-head, AllPairs-tail}

pub filter_all : {A : Type 0} (p : A → Bool) (xs : List A) → All (λ x. p x ≡ true) xs → filter p xs ≡ xs
filter_all p [] h = refl
filter_all p (x ∷ xs) h =
    let here : p x ≡ true = All-head (λ y. p y ≡ true) x xs h in
    rw here (ap (λ ys. x ∷ ys) (filter_all p xs (All-tail (λ y. p y ≡ true) x xs h)))

pub filter_none : {A : Type 0} (p : A → Bool) (xs : List A) → All (λ x. p x ≡ false) xs → filter p xs ≡ []
filter_none p [] h = refl
filter_none p (x ∷ xs) h =
    let here : p x ≡ false = All-head (λ y. p y ≡ false) x xs h in
    rw here (filter_none p xs (All-tail (λ y. p y ≡ false) x xs h))

pub front_all : {A : Type 0} (P Q : A → Type 0) (xs : List A) (n : ℕ) → IsPartitionPoint P Q xs n → All P (take n xs)
front_all P Q xs n split = λ k d h.
    let less : k < n = omega (arith, length-take n xs) in
    subst P (sym (get_or-take n xs k d less)) (split.0 k d (omega arith) less)

pub back_all : {A : Type 0} (P Q : A → Type 0) (xs : List A) (n : ℕ) → IsPartitionPoint P Q xs n → All Q (drop n xs)
back_all P Q xs n split = λ k d h.
    subst Q (sym (get_or-drop n xs k d)) (split.1 (n + k) d (omega arith) (omega (arith, length-drop n xs)))

pub AllPairs-take : {A : Type 0} (R : A → A → Type 0) (n : ℕ) (xs : List A) → AllPairs R xs → AllPairs R (take n xs)
AllPairs-take R n xs h = λ i j d less inside.
    let j_below : j < n = omega (arith, length-take n xs) in
    let i_below : i < n = omega arith in
    let within : j < length xs = omega (arith, length-take n xs) in
    subst (λ x. R x (get_or (take n xs) j d)) (sym (get_or-take n xs i d i_below)) (subst (R (get_or xs i d)) (sym (get_or-take n xs j d j_below)) (h i j d less within))

pub AllPairs-drop : {A : Type 0} (R : A → A → Type 0) (n : ℕ) (xs : List A) → AllPairs R xs → AllPairs R (drop n xs)
AllPairs-drop R n xs h = λ i j d less inside.
    let within : n + j < length xs = omega (arith, length-drop n xs) in
    subst (λ x. R x (get_or (drop n xs) j d)) (sym (get_or-drop n xs i d)) (subst (R (get_or xs (n + i) d)) (sym (get_or-drop n xs j d)) (h (n + i) (n + j) d (omega arith) within))

pub AllPairs-append : {A : Type 0} (R : A → A → Type 0) (xs ys : List A) → AllPairs R xs → AllPairs R ys → ((x y : A) → Has xs x → Has ys y → R x y) → AllPairs R (xs ++ ys)
AllPairs-append R [] ys p q h = q
AllPairs-append R (x ∷ xs) ys p q h =
    AllPairs-cons R x (xs ++ ys) (All-from_Has (R x) (xs ++ ys) (λ y g. elim (Has-append_cases xs ys y g) [
      | inl a ↦ All-at_Has (R x) xs y (AllPairs-head R x xs p) a
      | inr b ↦ h x y (inl refl) b
    ])) (AllPairs-append R xs ys (AllPairs-tail R x xs p) q (λ z y a b. h z y (inr a) b))
