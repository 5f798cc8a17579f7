-- What holds of each element of a list, and of each two.
use Rattle.std.proofs.Common.{◌≡◌, Bool, true, false, cond, not, List, [], ◌∷◌, ◌++◌, map, filter, Option, Some, refl, sym, subst, ◌∙◌, inl, inr, ◌⊎◌}
use Rattle.std.specs.List.{AllByRecursion, find}
use Rattle.xdb_rangedel.specs.Members.{Has}
use Rattle.xdb_model.specs.Apart.{Pairwise}

-- ---- what holds of each

pub all-more : {A : Type 0} (P Q : A → Type 0) (xs : List A) → ((x : A) → P x → Q x) → AllByRecursion P xs → AllByRecursion Q xs
all-more P Q [] more all = tt
all-more P Q (x ∷ xs) more all = (more x all.0, all-more P Q xs more all.1)

pub all-append : {A : Type 0} (P : A → Type 0) (xs ys : List A) → AllByRecursion P xs → AllByRecursion P ys → AllByRecursion P (xs ++ ys)
all-append P [] ys all more = more
all-append P (x ∷ xs) ys all more = (all.0, all-append P xs ys all.1 more)

pub all-both : {A : Type 0} (P Q R : A → Type 0) (xs : List A) → ((x : A) → P x → Q x → R x) → AllByRecursion P xs → AllByRecursion Q xs → AllByRecursion R xs
all-both P Q R [] both p q = tt
all-both P Q R (x ∷ xs) both p q = (both x p.0 q.0, all-both P Q R xs both p.1 q.1)

one-kept : {A : Type 0} (P : A → Type 0) (x : A) (rest : List A) (t : Bool) → (t ≡ true → P x) → AllByRecursion P rest → AllByRecursion P (cond t (x ∷ rest) rest)
one-kept P x rest true is all = (is refl, all)
one-kept P x rest false is all = all

-- what the test lets through, among the elements of a list
pub all-filtered : {A : Type 0} (P : A → Type 0) (test : A → Bool) (xs : List A) → ((x : A) → Has xs x → test x ≡ true → P x) → AllByRecursion P (filter test xs)
all-filtered P test [] is = tt
all-filtered P test (x ∷ xs) is =
    one-kept P x (filter test xs) (test x) (λ passes. is x (inl refl) passes) (all-filtered P test xs (λ y has passes. is y (inr has) passes))

pub all-has : {A : Type 0} (P : A → Type 0) (xs : List A) (x : A) → Has xs x → AllByRecursion P xs → P x
all-has P [] x has all = absurd has
all-has P (y ∷ ys) x (inl same) all = subst P same all.0
all-has P (y ∷ ys) x (inr behind) all = all-has P ys x behind all.1

pub all-from_has : {A : Type 0} (P : A → Type 0) (xs : List A) → ((x : A) → Has xs x → P x) → AllByRecursion P xs
all-from_has P [] is = tt
all-from_has P (x ∷ xs) is = (is x (inl refl), all-from_has P xs (λ y has. is y (inr has)))

pub all-map : {A B : Type 0} (P : B → Type 0) (f : A → B) (xs : List A) → AllByRecursion (λ x. P (f x)) xs → AllByRecursion P (map f xs)
all-map P f [] all = tt
all-map P f (x ∷ xs) all = (all.0, all-map P f xs all.1)

pub all-unmap : {A B : Type 0} (P : B → Type 0) (f : A → B) (xs : List A) → AllByRecursion P (map f xs) → AllByRecursion (λ x. P (f x)) xs
all-unmap P f [] all = tt
all-unmap P f (x ∷ xs) all = (all.0, all-unmap P f xs all.1)

-- what holds of those that pass and of the others
all-back : {A : Type 0} (P : A → Type 0) (x : A) (passing failing xs : List A) (t : Bool) → (AllByRecursion P passing → AllByRecursion P failing → AllByRecursion P xs)
    → AllByRecursion P (cond t (x ∷ passing) passing) → AllByRecursion P (cond (not t) (x ∷ failing) failing) → AllByRecursion P (x ∷ xs)
all-back P x passing failing xs true more pass fail = (pass.0, more pass.1 fail)
all-back P x passing failing xs false more pass fail = (fail.0, more pass fail.1)

pub all-either : {A : Type 0} (P : A → Type 0) (test : A → Bool) (xs : List A) → AllByRecursion P (filter test xs) → AllByRecursion P (filter (λ x. not (test x)) xs) → AllByRecursion P xs
all-either P test [] pass fail = tt
all-either P test (x ∷ xs) pass fail =
    all-back P x (filter test xs) (filter (λ y. not (test y)) xs) xs (test x) (λ p f. all-either P test xs p f) pass fail

pub all-kept : {A : Type 0} (P : A → Type 0) (test : A → Bool) (xs : List A) → AllByRecursion P xs → AllByRecursion P (filter test xs)
all-kept P test xs all = all-filtered P test xs (λ x has passes. all-has P xs x has all)

-- what is found keeps what all keep
found-kept : {A : Type 0} (P : A → Type 0) (y x : A) (rest : Option A) (t : Bool) → cond t (Some y) rest ≡ Some x → P y → (rest ≡ Some x → P x) → P x
found-kept P y x rest true e is more = let same : y ≡ x = cc in subst P same is
found-kept P y x rest false e is more = more e

pub found-all : {A : Type 0} (P : A → Type 0) (test : A → Bool) (xs : List A) (x : A) → find test xs ≡ Some x → AllByRecursion P xs → P x
found-all P test [] x e h = absurd (cc)
found-all P test (y ∷ ys) x e h = found-kept P y x (find test ys) (test y) e h.0 (λ f. found-all P test ys x f h.1)

-- ---- what holds of each two

pub pairs-more : {A : Type 0} (R S : A → A → Type 0) (xs : List A) → ((x y : A) → R x y → S x y) → Pairwise R xs → Pairwise S xs
pairs-more R S [] more pairs = tt
pairs-more R S (x ∷ xs) more pairs = (all-more (R x) (S x) xs (more x) pairs.0, pairs-more R S xs more pairs.1)

pub pairs-append : {A : Type 0} (R : A → A → Type 0) (xs ys : List A) → Pairwise R xs → Pairwise R ys → AllByRecursion (λ x. AllByRecursion (R x) ys) xs → Pairwise R (xs ++ ys)
pairs-append R [] ys pairs more across = more
pairs-append R (x ∷ xs) ys pairs more across = (all-append (R x) xs ys pairs.0 across.0, pairs-append R xs ys pairs.1 more across.1)

pairs-kept : {A : Type 0} (R : A → A → Type 0) (x : A) (rest : List A) (t : Bool) → AllByRecursion (R x) rest → Pairwise R rest → Pairwise R (cond t (x ∷ rest) rest)
pairs-kept R x rest true one pairs = (one, pairs)
pairs-kept R x rest false one pairs = pairs

pub pairs-filtered : {A : Type 0} (R : A → A → Type 0) (test : A → Bool) (xs : List A) → Pairwise R xs → Pairwise R (filter test xs)
pairs-filtered R test [] pairs = tt
pairs-filtered R test (x ∷ xs) pairs = pairs-kept R x (filter test xs) (test x) (all-kept (R x) test xs pairs.0) (pairs-filtered R test xs pairs.1)

pub pairs-map : {A B : Type 0} (R : B → B → Type 0) (f : A → B) (xs : List A) → Pairwise (λ x y. R (f x) (f y)) xs → Pairwise R (map f xs)
pairs-map R f [] pairs = tt
pairs-map R f (x ∷ xs) pairs = (all-map (R (f x)) f xs pairs.0, pairs-map R f xs pairs.1)

pub pairs-unmap : {A B : Type 0} (R : B → B → Type 0) (f : A → B) (xs : List A) → Pairwise R (map f xs) → Pairwise (λ x y. R (f x) (f y)) xs
pairs-unmap R f [] pairs = tt
pairs-unmap R f (x ∷ xs) pairs = (all-unmap (R (f x)) f xs pairs.0, pairs-unmap R f xs pairs.1)

-- one more, wherever it comes
module _ {A : Type 0} (R : A → A → Type 0) (turned : (x y : A) → R x y → R y x) where
  all-turned : (x : A) (xs : List A) → AllByRecursion (R x) xs → AllByRecursion (λ y. R y x) xs
  all-turned x xs all = all-more (R x) (λ y. R y x) xs (turned x) all

  insert-all : (x : A) (front back : List A) (one : A) → R x one → AllByRecursion (R x) (front ++ back) → AllByRecursion (R x) (front ++ one ∷ back)
  insert-all x [] back one is all = (is, all)
  insert-all x (y ∷ front) back one is all = (all.0, insert-all x front back one is all.1)

  pub pairs-insert : (front : List A) (one : A) (back : List A) → AllByRecursion (R one) (front ++ back) → Pairwise R (front ++ back) → Pairwise R (front ++ one ∷ back)
  pairs-insert [] one back all pairs = (all, pairs)
  pairs-insert (x ∷ front) one back all pairs = (insert-all x front back one (turned one x all.0) pairs.0, pairs-insert front one back all.1 pairs.1)

  pub same-or : (xs : List A) (x y : A) → Pairwise R xs → Has xs x → Has xs y → (x ≡ y) ⊎ R x y
  same-or [] x y pairs hx hy = absurd hx
  same-or (z ∷ xs) x y pairs (inl ex) (inl ey) = inl (sym ex ∙ ey)
  same-or (z ∷ xs) x y pairs (inl ex) (inr hy) = inr (subst (λ w. R w y) ex (all-has (R z) xs y hy pairs.0))
  same-or (z ∷ xs) x y pairs (inr hx) (inl ey) = inr (turned y x (subst (λ w. R w x) ey (all-has (R z) xs x hx pairs.0)))
  same-or (z ∷ xs) x y pairs (inr hx) (inr hy) = same-or xs x y pairs.1 hx hy

-- of those that pass, of the others, and of one of each
split-one : {A : Type 0} (R : A → A → Type 0) (x : A) (passing failing xs : List A) (t : Bool)
    → (AllByRecursion (R x) passing → AllByRecursion (R x) failing → AllByRecursion (R x) xs) → (Pairwise R passing → Pairwise R failing → AllByRecursion (λ y. AllByRecursion (R y) failing) passing → Pairwise R xs)
    → ((y : A) → R y x → R x y)
    → Pairwise R (cond t (x ∷ passing) passing) → Pairwise R (cond (not t) (x ∷ failing) failing) → AllByRecursion (λ y. AllByRecursion (R y) (cond (not t) (x ∷ failing) failing)) (cond t (x ∷ passing) passing)
    → Pairwise R (x ∷ xs)
split-one R x passing failing xs true one more turned pass fail across = (one pass.0 across.0, more pass.1 fail across.1)
split-one R x passing failing xs false one more turned pass fail across =
    (one (all-more _ (R x) passing (λ y all. turned y all.0) across) fail.0, more pass fail.1 (all-more _ (λ y. AllByRecursion (R y) failing) passing (λ y all. all.1) across))

pub pairs-either : {A : Type 0} (R : A → A → Type 0) (test : A → Bool) (xs : List A) → ((x y : A) → R x y → R y x) → Pairwise R (filter test xs) → Pairwise R (filter (λ x. not (test x)) xs)
    → AllByRecursion (λ y. AllByRecursion (R y) (filter (λ x. not (test x)) xs)) (filter test xs) → Pairwise R xs
pairs-either R test [] turned pass fail across = tt
pairs-either R test (x ∷ xs) turned pass fail across =
    split-one R x (filter test xs) (filter (λ y. not (test y)) xs) xs (test x) (λ p f. all-either (R x) test xs p f) (λ p f a. pairs-either R test xs turned p f a) (λ y r. turned y x r) pass fail across
