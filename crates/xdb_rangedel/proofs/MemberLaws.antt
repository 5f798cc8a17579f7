-- What joined, mapped and filtered lists hold.
use Rattle.std.proofs.Common.{◌≡◌, ℕ, ◌<◌, zero, suc, List, [], ◌∷◌, ◌++◌, length, get_or, map, Option, Some, None, inl, inr, ◌⊎◌, refl, ap, ◌∙◌, arith}
use Rattle.std.proofs.lemmas.Option.{none-some, same_Some}
use Rattle.std.specs.List.{filter_map, cons_option, Contains}
use Rattle.xdb_rangedel.specs.Members.{Has}

pub Has-append_left : {A : Type 0} (xs ys : List A) (x : A) → Has xs x → Has (xs ++ ys) x
Has-append_left [] ys x h = absurd h
Has-append_left (y ∷ xs) ys x (inl e) = inl e
Has-append_left (y ∷ xs) ys x (inr h) = inr (Has-append_left xs ys x h)

pub Has-append_right : {A : Type 0} (xs ys : List A) (x : A) → Has ys x → Has (xs ++ ys) x
Has-append_right [] ys x h = h
Has-append_right (y ∷ xs) ys x h = inr (Has-append_right xs ys x h)

pub Has-append_cases : {A : Type 0} (xs ys : List A) (x : A) → Has (xs ++ ys) x → Has xs x ⊎ Has ys x
Has-append_cases [] ys x h = inr h
Has-append_cases (y ∷ xs) ys x (inl e) = inl (inl e)
Has-append_cases (y ∷ xs) ys x (inr h) = elim (Has-append_cases xs ys x h) [ inl g ↦ inl (inr g) | inr g ↦ inr g ]

pub Has-map : {A B : Type 0} (f : A → B) (xs : List A) (x : A) → Has xs x → Has (map f xs) (f x)
Has-map f [] x h = h
Has-map f (y ∷ xs) x (inl e) = inl (ap f e)
Has-map f (y ∷ xs) x (inr h) = inr (Has-map f xs x h)

pub Has-from_map : {A B : Type 0} (f : A → B) (xs : List A) (z : B) → Has (map f xs) z → (x : A) × Has xs x × (f x ≡ z)
Has-from_map f [] z h = absurd h
Has-from_map f (y ∷ xs) z (inl e) = (y, inl refl, e)
Has-from_map f (y ∷ xs) z (inr h) = let from = Has-from_map f xs z h in (from.0, inr from.1, from.2)

pub Has-cons_option : {B : Type 0} (o : Option B) (zs : List B) (z : B) → Has (cons_option o zs) z → (o ≡ Some z) ⊎ Has zs z
Has-cons_option None zs z h = inr h
Has-cons_option (Some y) zs z (inl e) = inl (ap Some e)
Has-cons_option (Some y) zs z (inr h) = inr h

pub Has-from_filter_map : {A B : Type 0} (f : A → Option B) (xs : List A) (z : B) → Has (filter_map f xs) z → (x : A) × Has xs x × (f x ≡ Some z)
Has-from_filter_map f [] z h = absurd h
Has-from_filter_map f (y ∷ xs) z h = elim (Has-cons_option (f y) (filter_map f xs) z h) [
  | inl e ↦ (y, inl refl, e)
  | inr g ↦ let from = Has-from_filter_map f xs z g in (from.0, inr from.1, from.2)
]

Has-cons_here : {B : Type 0} (o : Option B) (zs : List B) (z : B) → o ≡ Some z → Has (cons_option o zs) z
Has-cons_here None zs z e = absurd (none-some z e)
Has-cons_here (Some y) zs z e = inl (same_Some y z e)

Has-cons_there : {B : Type 0} (o : Option B) (zs : List B) (z : B) → Has zs z → Has (cons_option o zs) z
Has-cons_there None zs z h = h
Has-cons_there (Some y) zs z h = inr h

pub Has-filter_map : {A B : Type 0} (f : A → Option B) (xs : List A) (x : A) (z : B) → Has xs x → f x ≡ Some z → Has (filter_map f xs) z
Has-filter_map f [] x z h e = absurd h
Has-filter_map f (y ∷ xs) x z (inl same) e = Has-cons_here (f y) (filter_map f xs) z (ap f same ∙ e)
Has-filter_map f (y ∷ xs) x z (inr h) e = Has-cons_there (f y) (filter_map f xs) z (Has-filter_map f xs x z h e)

-- a list that holds nothing is empty
pub none-held : {A : Type 0} (xs : List A) → ((x : A) → Has xs x → ⊥) → xs ≡ []
none-held [] h = refl
none-held (x ∷ xs) h = absurd (h x (inl refl))

-- between membership by recursion and by index

pub Has-from_Contains : {A : Type 0} (xs : List A) (x : A) → Contains xs x → Has xs x
Has-from_Contains [] x c = absurd (omega (arith, c.1))
Has-from_Contains (y ∷ xs) x (zero, k, e) = inl e
Has-from_Contains (y ∷ xs) x (suc n, k, e) = inr (Has-from_Contains xs x (n, omega arith, e))

pub Contains-from_Has : {A : Type 0} (xs : List A) (x : A) → Has xs x → Contains xs x
Contains-from_Has [] x h = absurd h
Contains-from_Has (y ∷ xs) x (inl e) = (0, omega arith, e)
Contains-from_Has (y ∷ xs) x (inr h) = let c = Contains-from_Has xs x h in (suc c.0, omega (arith, c.1), c.2)

pub Has-get_or : {A : Type 0} (xs : List A) (i : ℕ) (d : A) → i < length xs → Has xs (get_or xs i d)
Has-get_or [] i d h = absurd (omega arith)
Has-get_or (y ∷ xs) zero d h = inl refl
Has-get_or (y ∷ xs) (suc i) d h = inr (Has-get_or xs i d (omega arith))
