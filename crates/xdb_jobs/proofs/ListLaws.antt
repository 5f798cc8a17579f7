-- Maps and filters of lists, one over the other.
use Rattle.std.proofs.Common.{◌≡◌, ℕ, suc, zero, Bool, true, false, cond, List, [], ◌∷◌, get_or, map, filter, Option, Some, None, refl, sym, ap, ◌∙◌, inl, inr, arith}
use Rattle.std.specs.List.{AllPairs, find, remove, filter_map, cons_option}
use Rattle.std.specs.Option.{option_map}
use Rattle.std.proofs.lemmas.Bool.{cases_Bool, cond-true, cond-false}
use Rattle.std.proofs.lemmas.List.{get_or-map, length-map}

pub all_pairs_map : {X Y : Type 0} (R : X → X → Type 0) (S : Y → Y → Type 0) (f : X → Y) → ((x y : X) → R x y → S (f x) (f y)) → (xs : List X) → AllPairs R xs → AllPairs S (map f xs)
all_pairs_map R S f from [] h = λ i j d less l. absurd (omega arith)
all_pairs_map R S f from (x ∷ xs) h = λ i j d less l.
    let long = length-map (x ∷ xs) f in
    rw (get_or-map f (x ∷ xs) i x d (omega arith), get_or-map f (x ∷ xs) j x d (omega arith)) (from (get_or (x ∷ xs) i x) (get_or (x ∷ xs) j x) (h i j x less (omega arith)))

pub map_remove : {X Y : Type 0} (f : X → Y) (xs : List X) (at : ℕ) → remove (map f xs) at ≡ map f (remove xs at)
map_remove f [] zero = refl
map_remove f [] (suc at) = refl
map_remove f (x ∷ xs) zero = refl
map_remove f (x ∷ xs) (suc at) = ap (λ ys. f x ∷ ys) (map_remove f xs at)

pub map_twice : {X Y Z : Type 0} (f : X → Y) (g : Y → Z) (xs : List X) → map g (map f xs) ≡ map (λ x. g (f x)) xs
map_twice f g [] = refl
map_twice f g (x ∷ xs) = ap (λ ys. g (f x) ∷ ys) (map_twice f g xs)

pub map_filter : {X Y : Type 0} (f : X → Y) (p : Y → Bool) (xs : List X) → map f (filter (λ x. p (f x)) xs) ≡ filter p (map f xs)
map_filter f p [] = refl
map_filter f p (x ∷ xs) = elim (cases_Bool (p (f x))) [
  | inl yes' ↦
      ap (map f) (cond-true (p (f x)) (x ∷ filter (λ x. p (f x)) xs) (filter (λ x. p (f x)) xs) yes')
      ∙ ap (λ ys. f x ∷ ys) (map_filter f p xs)
      ∙ sym (cond-true (p (f x)) (f x ∷ filter p (map f xs)) (filter p (map f xs)) yes')
  | inr no' ↦
      ap (map f) (cond-false (p (f x)) (x ∷ filter (λ x. p (f x)) xs) (filter (λ x. p (f x)) xs) no')
      ∙ map_filter f p xs
      ∙ sym (cond-false (p (f x)) (f x ∷ filter p (map f xs)) (filter p (map f xs)) no')
]

pub find_map : {X Y Z : Type 0} (f : X → Y) (n : Y → Z) (p : Y → Bool) (xs : List X) → option_map n (find p (map f xs)) ≡ option_map (λ x. n (f x)) (find (λ x. p (f x)) xs)
find_map f n p [] = refl
find_map f n p (x ∷ xs) = elim (cases_Bool (p (f x))) [
  | inl yes' ↦
      ap (option_map n) (cond-true (p (f x)) (Some (f x)) (find p (map f xs)) yes')
      ∙ sym (ap (option_map (λ x. n (f x))) (cond-true (p (f x)) (Some x) (find (λ x. p (f x)) xs) yes'))
  | inr no' ↦
      ap (option_map n) (cond-false (p (f x)) (Some (f x)) (find p (map f xs)) no')
      ∙ find_map f n p xs
      ∙ sym (ap (option_map (λ x. n (f x))) (cond-false (p (f x)) (Some x) (find (λ x. p (f x)) xs) no'))
]

-- two filters in either order
pub filter_swap : {X : Type 0} (p q : X → Bool) (xs : List X) → filter p (filter q xs) ≡ filter q (filter p xs)
filter_swap p q [] = refl
filter_swap p q (x ∷ xs) =
    let ps = filter p xs in
    let qs = filter q xs in
    elim (cases_Bool (p x)) [
      | inl p_yes ↦
          elim (cases_Bool (q x)) [
            | inl q_yes ↦
                ap (filter p) (cond-true (q x) (x ∷ qs) qs q_yes)
                ∙ cond-true (p x) (x ∷ filter p qs) (filter p qs) p_yes
                ∙ ap (λ ys. x ∷ ys) (filter_swap p q xs)
                ∙ sym (cond-true (q x) (x ∷ filter q ps) (filter q ps) q_yes)
                ∙ sym (ap (filter q) (cond-true (p x) (x ∷ ps) ps p_yes))
            | inr q_no ↦
                ap (filter p) (cond-false (q x) (x ∷ qs) qs q_no)
                ∙ filter_swap p q xs
                ∙ sym (cond-false (q x) (x ∷ filter q ps) (filter q ps) q_no)
                ∙ sym (ap (filter q) (cond-true (p x) (x ∷ ps) ps p_yes))
          ]
      | inr p_no ↦
          elim (cases_Bool (q x)) [
            | inl q_yes ↦
                ap (filter p) (cond-true (q x) (x ∷ qs) qs q_yes)
                ∙ cond-false (p x) (x ∷ filter p qs) (filter p qs) p_no
                ∙ filter_swap p q xs
                ∙ sym (ap (filter q) (cond-false (p x) (x ∷ ps) ps p_no))
            | inr q_no ↦
                ap (filter p) (cond-false (q x) (x ∷ qs) qs q_no)
                ∙ filter_swap p q xs
                ∙ sym (ap (filter q) (cond-false (p x) (x ∷ ps) ps p_no))
          ]
    ]

-- what is made of the options of the elements is the options of what is made of them
pub map_filter_map : {X Y Z : Type 0} (h : X → Option Y) (g : X → Option Z) (f : Y → Z) → ((x : X) → g x ≡ option_map f (h x)) → (xs : List X) → filter_map g xs ≡ map f (filter_map h xs)
map_filter_map {Y = Y} h g f same [] = refl
map_filter_map {Y = Y} h g f same (x ∷ xs) =
    ap (λ o. cons_option o (filter_map g xs)) (same x) ∙ ap (cons_option (option_map f (h x))) (map_filter_map h g f same xs) ∙ consed (h x) (filter_map h xs)
  where
    consed : (o : Option Y) (ys : List Y) → cons_option (option_map f o) (map f ys) ≡ map f (cons_option o ys)
    consed None ys = refl
    consed (Some y) ys = refl

-- the options of what stays are what stays of the options
pub filter_filter_map : {X Y : Type 0} (h : X → Option Y) (p : X → Bool) (q : Y → Bool) → ((x : X) (y : Y) → h x ≡ Some y → q y ≡ p x) → (xs : List X) → filter q (filter_map h xs) ≡ filter_map h (filter p xs)
filter_filter_map {Y = Y} h p q same [] = refl
filter_filter_map {Y = Y} h p q same (x ∷ xs) =
    let rest = filter_map h (filter p xs) in
    one (h x) refl ∙ ap (λ ys. cond (p x) (cons_option (h x) ys) ys) (filter_filter_map h p q same xs) ∙ elim (cases_Bool (p x)) [
      | inl yes' ↦ cond-true (p x) (cons_option (h x) rest) rest yes' ∙ sym (ap (filter_map h) (cond-true (p x) (x ∷ filter p xs) (filter p xs) yes'))
      | inr no' ↦ cond-false (p x) (cons_option (h x) rest) rest no' ∙ sym (ap (filter_map h) (cond-false (p x) (x ∷ filter p xs) (filter p xs) no'))
    ]
  where
    same_both : (b : Bool) (ys : List Y) → ys ≡ cond b ys ys
    same_both true ys = refl
    same_both false ys = refl

    one : (o : Option Y) → h x ≡ o → filter q (cons_option o (filter_map h xs)) ≡ cond (p x) (cons_option o (filter q (filter_map h xs))) (filter q (filter_map h xs))
    one None e = same_both (p x) (filter q (filter_map h xs))
    one (Some y) e = ap (λ b. cond b (y ∷ filter q (filter_map h xs)) (filter q (filter_map h xs))) (same x y e)
