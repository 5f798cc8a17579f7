-- Versions in use, and counts.
use Rattle.std.proofs.Common.{◌≡◌, ℕ, Bool, true, false, cond, not, eqb, ltb, List, [], ◌∷◌, ◌++◌, map, filter, refl, sym, ap, subst, ◌∙◌, inl, inr, ◌⊎◌}
use Rattle.std.proofs.lemmas.Bool.{eqb-true}
use Rattle.std.specs.List.{flat_map}
use Rattle.xdb_rangedel.specs.Members.{Has}
use Rattle.xdb_plain.specs.Counts.{distinct, backings, used, count, counts, with_number, with_numbers}
use Rattle.xdb_plain.specs.State.{Plain, Version, Hold}
use Rattle.xdb_model.specs.Counted.{IsReferenced, IsCounted}

-- a version of the number is in the list
record HasNum (vs : List Version) (num : ℕ) : Type 0 where
  version : Version
  among : Has vs version
  same_num : version.num ≡ num

num-behind : (v : Version) (vs : List Version) (num : ℕ) → HasNum vs num → HasNum (v ∷ vs) num
num-behind v vs num h = record { version = h.version; among = inr h.among; same_num = h.same_num }

num-more : (w : Version) (ws : List Version) (num : ℕ) (t : Bool) → HasNum ws num → HasNum (cond t (w ∷ ws) ws) num
num-more w ws num true h = num-behind w ws num h
num-more w ws num false h = h

num-kept : (v w : Version) (ws : List Version) (num : ℕ) (t : Bool) → eqb w.num v.num ≡ t → w.num ≡ num → (v.num ≡ num) ⊎ HasNum (cond (not t) (w ∷ ws) ws) num
num-kept v w ws num true same is = inl (sym (eqb-true w.num v.num same) ∙ is)
num-kept v w ws num false same is = inr (record { version = w; among = inl refl; same_num = is })

num-either : (v w : Version) (ws : List Version) (num : ℕ) (t : Bool) → (v.num ≡ num) ⊎ HasNum ws num → (v.num ≡ num) ⊎ HasNum (cond t (w ∷ ws) ws) num
num-either v w ws num t (inl is) = inl is
num-either v w ws num t (inr h) = inr (num-more w ws num t h)

-- what is left without the versions of a number, and a version of that number
num-filtered : (v : Version) (ws : List Version) (num : ℕ) (x : Version) → Has ws x → x.num ≡ num → (v.num ≡ num) ⊎ HasNum (filter (λ w. not (eqb w.num v.num)) ws) num
num-filtered v [] num x has is = absurd has
num-filtered v (w ∷ ws) num x (inl same) is =
    num-kept v w (filter (λ u. not (eqb u.num v.num)) ws) num (eqb w.num v.num) refl (ap (λ u. u.num) same ∙ is)
num-filtered v (w ∷ ws) num x (inr behind) is =
    num-either v w (filter (λ u. not (eqb u.num v.num)) ws) num (not (eqb w.num v.num)) (num-filtered v ws num x behind is)

num-first : (v : Version) (ws : List Version) (num : ℕ) → (v.num ≡ num) ⊎ HasNum ws num → HasNum (v ∷ ws) num
num-first v ws num (inl is) = record { version = v; among = inl refl; same_num = is }
num-first v ws num (inr h) = num-behind v ws num h

num-distinct : (vs : List Version) (num : ℕ) (x : Version) → Has vs x → x.num ≡ num → HasNum (distinct vs) num
num-distinct [] num x has is = absurd has
num-distinct (v ∷ vs) num x (inl same) is = record { version = v; among = inl refl; same_num = ap (λ u. u.num) same ∙ is }
num-distinct (v ∷ vs) num x (inr behind) is =
    let h = num-distinct vs num x behind is in
    num-first v (filter (λ w. not (eqb w.num v.num)) (distinct vs)) num (num-filtered v (distinct vs) num h.version h.among h.same_num)

pub has-map : {A B : Type 0} (f : A → B) (xs : List A) (x : A) → Has xs x → Has (map f xs) (f x)
has-map f [] x has = absurd has
has-map f (y ∷ ys) x (inl same) = inl (ap f same)
has-map f (y ∷ ys) x (inr behind) = inr (has-map f ys x behind)

pub held-referenced : (p : Plain) (h : Hold) → Has p.holds h → IsReferenced p h.version.num
held-referenced p h has =
    let found = num-distinct (p.current ∷ map (λ x. x.version) p.holds) h.version.num h.version (inr (has-map (λ x. x.version) p.holds h has)) refl in
    record { version = found.version; among = found.among; same_num = found.same_num }

-- ---- counts

has-front : (xs ys : List ℕ) (n : ℕ) → Has xs n → Has (xs ++ ys) n
has-front [] ys n has = absurd has
has-front (x ∷ xs) ys n (inl same) = inl same
has-front (x ∷ xs) ys n (inr behind) = inr (has-front xs ys n behind)

put-itself : (n m : ℕ) (ms : List ℕ) (below same : Bool) → eqb n m ≡ same → Has (with_number n ms) n → Has (cond below (n ∷ m ∷ ms) (cond same (m ∷ ms) (m ∷ with_number n ms))) n
put-itself n m ms true same is h = inl refl
put-itself n m ms false true is h = inl (sym (eqb-true n m is))
put-itself n m ms false false is h = inr h

has-put : (n : ℕ) (ms : List ℕ) → Has (with_number n ms) n
has-put n [] = inl refl
has-put n (m ∷ ms) = put-itself n m ms (ltb n m) (eqb n m) refl (has-put n ms)

put-other : (n m x : ℕ) (ms : List ℕ) (below same : Bool) → (m ≡ x) ⊎ Has ms x → ((Has ms x) → Has (with_number n ms) x) → Has (cond below (n ∷ m ∷ ms) (cond same (m ∷ ms) (m ∷ with_number n ms))) x
put-other n m x ms true same has h = inr has
put-other n m x ms false true has h = has
put-other n m x ms false false (inl is) h = inl is
put-other n m x ms false false (inr behind) h = inr (h behind)

has-kept : (n x : ℕ) (ms : List ℕ) → Has ms x → Has (with_number n ms) x
has-kept n x [] has = absurd has
has-kept n x (m ∷ ms) has = put-other n m x ms (ltb n m) (eqb n m) has (λ h. has-kept n x ms h)

all-kept : (ns ms : List ℕ) (x : ℕ) → Has ms x → Has (with_numbers ns ms) x
all-kept [] ms x has = has
all-kept (n ∷ ns) ms x has = all-kept ns (with_number n ms) x (has-kept n x ms has)

has-all : (ns ms : List ℕ) (x : ℕ) → Has ns x → Has (with_numbers ns ms) x
has-all [] ms x has = absurd has
has-all (n ∷ ns) ms x (inl same) = all-kept ns (with_number n ms) x (subst (Has (with_number n ms)) same (has-put n ms))
has-all (n ∷ ns) ms x (inr behind) = has-all ns (with_number n ms) x behind

pub current-counted : (p : Plain) (backing : ℕ) → Has (backings p.current) backing → IsCounted p backing
current-counted p backing has =
    let others = flat_map backings (filter (λ w. not (eqb w.num p.current.num)) (distinct (map (λ h. h.version) p.holds))) in
    let is_used : Has (used p) backing = has-front (backings p.current) others backing has in
    has-map (λ c. c.0) (counts p) (backing, count p backing) (has-map (λ b. (b, count p b)) (with_numbers (used p) []) backing (has-all (used p) [] backing is_used))
