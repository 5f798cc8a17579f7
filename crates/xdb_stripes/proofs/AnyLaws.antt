-- Tests of some element and filters, by what a list holds.
use Rattle.std.proofs.Common.{◌≡◌, ℕ, Bool, true, false, not, ◌||◌, cond, ◌+◌, ◌<◌, List, [], ◌∷◌, ◌++◌, length, get_or, take, map, inl, inr, refl, sym, ap, ◌∙◌}
use Rattle.std.proofs.lemmas.Bool.{cases_Bool, or_cases, or_left, or_right, false≢true}
use Rattle.std.proofs.lemmas.List.{append-nil}
use Rattle.std.proofs.lemmas.List.Elements.{filter_more}
use Rattle.std.specs.List.{list_any, filter}
use Rattle.xdb_rangedel.specs.Members.{Has, SameMembers}

-- two tests that imply each other are one
pub both_ways : (a b : Bool) → (a ≡ true → b ≡ true) → (b ≡ true → a ≡ true) → a ≡ b
both_ways true b h g = sym (h refl)
both_ways false true h g = g refl
both_ways false false h g = refl

pub any-has : {A : Type 0} (p : A → Bool) (xs : List A) → list_any p xs ≡ true → (x : A) × Has xs x × (p x ≡ true)
any-has p [] h = absurd (false≢true h)
any-has p (x ∷ xs) h = elim (or_cases (p x) (list_any p xs) h) [
  | inl e ↦ (x, inl refl, e)
  | inr g ↦ let more = any-has p xs g in (more.0, inr more.1, more.2)
]

pub any-from : {A : Type 0} (p : A → Bool) (xs : List A) (x : A) → Has xs x → p x ≡ true → list_any p xs ≡ true
any-from p [] x h e = absurd h
any-from p (y ∷ xs) x (inl same) e = or_left (p y) (list_any p xs) (ap p same ∙ e)
any-from p (y ∷ xs) x (inr h) e = or_right (p y) (list_any p xs) (any-from p xs x h e)

pub any-same : {A : Type 0} (p : A → Bool) (xs ys : List A) → SameMembers xs ys → list_any p xs ≡ list_any p ys
any-same p xs ys same = both_ways (list_any p xs) (list_any p ys)
    (λ h. let from = any-has p xs h in any-from p ys from.0 ((same from.0).0 from.1) from.2)
    (λ h. let from = any-has p ys h in any-from p xs from.0 ((same from.0).1 from.1) from.2)

-- tests that agree
pub any_along : {A : Type 0} (p q : A → Bool) (xs : List A) → ((x : A) → Has xs x → p x ≡ q x) → list_any p xs ≡ list_any q xs
any_along p q [] h = refl
any_along p q (x ∷ xs) h = λ i. h x (inl refl) i || any_along p q xs (λ y g. h y (inr g)) i

pub any-map : {A B : Type 0} (p : B → Bool) (f : A → B) (xs : List A) → list_any p (map f xs) ≡ list_any (λ x. p (f x)) xs
any-map p f [] = refl
any-map p f (x ∷ xs) = ap (λ b. p (f x) || b) (any-map p f xs)

pub any-never : {A : Type 0} (p : A → Bool) (xs : List A) → ((x : A) → p x ≡ false) → list_any p xs ≡ false
any-never p [] h = refl
any-never p (x ∷ xs) h = λ i. h x i || any-never p xs h i

pub Has-filter : {A : Type 0} (p : A → Bool) (xs : List A) (x : A) → Has xs x → p x ≡ true → Has (filter p xs) x
Has-filter p [] x h e = absurd h
Has-filter p (y ∷ xs) x (inl same) e =
    let here : p y ≡ true = ap p same ∙ e in
    rw here (inl same)
Has-filter p (y ∷ xs) x (inr h) e = elim (cases_Bool (p y)) [
  | inl k ↦ rw k (inr (Has-filter p xs x h e))
  | inr k ↦ rw k (Has-filter p xs x h e)
]

pub Has-from_filter : {A : Type 0} (p : A → Bool) (xs : List A) (x : A) → Has (filter p xs) x → Has xs x × (p x ≡ true)
Has-from_filter p [] x h = absurd h
Has-from_filter p (y ∷ xs) x h = elim (cases_Bool (p y)) [
  | inl k ↦ elim (rw k at h) [
    | inl same ↦ (inl same, ap p (sym same) ∙ k)
    | inr g ↦ let from = Has-from_filter p xs x g in (inr from.0, from.1)
  ]
  | inr k ↦ let from = Has-from_filter p xs x (rw k at h) in (inr from.0, from.1)
]

-- filters by tests that agree
pub filter_along : {A : Type 0} (p q : A → Bool) (xs : List A) → ((x : A) → Has xs x → p x ≡ q x) → filter p xs ≡ filter q xs
filter_along p q [] h = refl
filter_along p q (x ∷ xs) h = elim (cases_Bool (p x)) [
  | inl e ↦ let f : q x ≡ true = sym (h x (inl refl)) ∙ e in rw (e, f) (ap (λ ys. x ∷ ys) (filter_along p q xs (λ y g. h y (inr g))))
  | inr e ↦ let f : q x ≡ false = sym (h x (inl refl)) ∙ e in rw (e, f) (filter_along p q xs (λ y g. h y (inr g)))
]

pub filter-map : {A B : Type 0} (p : B → Bool) (f : A → B) (xs : List A) → filter p (map f xs) ≡ map f (filter (λ x. p (f x)) xs)
filter-map p f [] = refl
filter-map p f (x ∷ xs) = elim (cases_Bool (p (f x))) [
  | inl e ↦ rw e (ap (λ ys. f x ∷ ys) (filter-map p f xs))
  | inr e ↦ rw e (filter-map p f xs)
]

-- what two lists of the same members are filtered to
pub filter-same : {A : Type 0} (p q : A → Bool) (xs ys : List A) → ((x : A) → p x ≡ q x) → SameMembers xs ys → SameMembers (filter p xs) (filter q ys)
filter-same p q xs ys agree same = λ x. (
  (λ h. let from = Has-from_filter p xs x h in Has-filter q ys x ((same x).0 from.0) (sym (agree x) ∙ from.1)),
  (λ h. let from = Has-from_filter q ys x h in Has-filter p xs x ((same x).1 from.0) (agree x ∙ from.1)),
)

-- a loop that keeps what passes

pub filter_kept : {A : Type 0} (p : A → Bool) (xs : List A) (i : ℕ) (x y : A) (old new : List A) → i < length xs → x ≡ get_or xs i x → p x ≡ true → old ≡ filter p (take i xs) → y ≡ x → new ≡ old ++ y ∷ [] → new ≡ filter p (take (i + 1) xs)
filter_kept p xs i x y old new inside at pass was same added =
    added ∙ (λ j. was j ++ same j ∷ []) ∙ sym (filter_more p xs i x inside ∙ ap (λ z. filter p (take i xs) ++ cond (p z) (z ∷ []) []) (sym at) ∙ ap (λ b. filter p (take i xs) ++ cond b (x ∷ []) []) pass)

pub filter_left : {A : Type 0} (p : A → Bool) (xs : List A) (i : ℕ) (x : A) (old : List A) → i < length xs → x ≡ get_or xs i x → p x ≡ false → old ≡ filter p (take i xs) → old ≡ filter p (take (i + 1) xs)
filter_left p xs i x old inside at pass was =
    was ∙ sym (filter_more p xs i x inside ∙ ap (λ z. filter p (take i xs) ++ cond (p z) (z ∷ []) []) (sym at) ∙ ap (λ b. filter p (take i xs) ++ cond b (x ∷ []) []) pass ∙ append-nil (filter p (take i xs)))

-- an element stays where neither test holds

pub stays_if : (a b first rest : Bool) → first ≡ a → first ≡ false → rest ≡ not b → rest ≡ true → not (a || b) ≡ true
stays_if true b first rest e f g h = absurd (false≢true (sym f ∙ e))
stays_if false b first rest e f g h = sym g ∙ h

pub goes_by_first : (a b first : Bool) → first ≡ a → first ≡ true → not (a || b) ≡ false
goes_by_first true b first e f = refl
goes_by_first false b first e f = absurd (false≢true (sym e ∙ f))

pub goes_by_rest : (a b rest : Bool) → rest ≡ not b → rest ≡ false → not (a || b) ≡ false
goes_by_rest true b rest g h = refl
goes_by_rest false b rest g h = sym g ∙ h
