-- Keys in order, and how many of them stand before another.
use Rattle.std.proofs.Common.{◌≡◌, ℕ, zero, suc, ◌+◌, ◌<◌, ◌≤◌, Bool, true, false, cond, List, [], ◌∷◌, length, map, get_or, Option, Some, None, All, refl, sym, ap, ◌∙◌, arith, inl, inr}
use Rattle.std.proofs.lemmas.Bool.{and_parts, false≢true, cases_lt}
use Rattle.std.specs.declared.cmp.Ordering.{Ordering}
use Rattle.std.specs.declared.cmp.Ordering.TheVariants.{Less, Equal, Greater}
use Rattle.std.specs.Ordering.{nat_cmp, is_lt, ordering_then}
use Rattle.std.specs.Cmp.{alike_right, nat_cmp_total}
use Rattle.std.specs.List.{prefix_len}
use Rattle.std.specs.Option.{option_map}
use Rattle.std.proofs.lemmas.List.{length-map, get_or-map}
use Rattle.std.proofs.lemmas.List.Sums.{prefix_len_passes}
use Rattle.xdb_key.proofs.OrderLaws.{key_total}
use Rattle.xdb_key.specs.Kinds.{internal_cmp}
use Rattle.xdb_key.specs.Order.{key_cmp}
use Rattle.xdb_block.specs.declared.kind.BlockKind.{BlockKind}
use Rattle.xdb_block.specs.declared.place.Place.{Place}
use Rattle.xdb_block.specs.Kept.{rows_of, key_in, keys_of, Lies, HasKey}
use Rattle.xdb_block.specs.Rows.{Row, user_part, trailer_part, is_before, precedes, Follow, Rise, place_from}

-- ---- internal order

pub lt-tells : (r : Ordering) → is_lt r ≡ true → r ≡ Less
lt-tells Less h = refl
lt-tells Equal h = absurd (false≢true h)
lt-tells Greater h = absurd (false≢true h)

trailers : (x y z : ℕ) → is_lt (nat_cmp y x) ≡ true → is_lt (nat_cmp z y) ≡ true → is_lt (nat_cmp z x) ≡ true
trailers x y z h g = ap is_lt (nat_cmp_total.trans z y x (lt-tells _ g) (lt-tells _ h))

before_by : (a b c : List ℕ) (x y z : ℕ) (r s : Ordering) → key_cmp a b ≡ r → key_cmp b c ≡ s → is_lt (ordering_then r (nat_cmp y x)) ≡ true → is_lt (ordering_then s (nat_cmp z y)) ≡ true → is_lt (internal_cmp a x c z) ≡ true
before_by a b c x y z Less Less e f h g = ap (λ o. is_lt (ordering_then o (nat_cmp z x))) (key_total.trans a b c e f)
before_by a b c x y z Less Equal e f h g = ap (λ o. is_lt (ordering_then o (nat_cmp z x))) (sym (alike_right key_total b c a f) ∙ e)
before_by a b c x y z Equal Less e f h g = ap (λ o. is_lt (ordering_then o (nat_cmp z x))) (key_total.congr a b c e ∙ f)
before_by a b c x y z Equal Equal e f h g = ap (λ o. is_lt (ordering_then o (nat_cmp z x))) (key_total.congr a b c e ∙ f) ∙ trailers x y z h g
before_by a b c x y z Greater s e f h g = absurd (false≢true h)
before_by a b c x y z r Greater e f h g = absurd (false≢true g)

pub before_trans : (user : List ℕ) (trailer : ℕ) (a b : List ℕ) → precedes a b ≡ true → is_before user trailer b ≡ true → is_before user trailer a ≡ true
before_trans user trailer a b h g = before_by (user_part a) (user_part b) user (trailer_part a) (trailer_part b) trailer (key_cmp (user_part a) (user_part b)) (key_cmp (user_part b) user) refl refl h g

-- ---- how many stand before

one_more : (f : List ℕ → Bool) (k : List ℕ) (ks : List (List ℕ)) (n : ℕ) → f k ≡ true → n < prefix_len f ks → suc n < prefix_len f (k ∷ ks)
one_more f k ks n e less =
    let is : prefix_len f (k ∷ ks) ≡ 1 + prefix_len f ks = ap (λ b. cond b (1 + prefix_len f ks) 0) e in
    omega arith

head_rises : (user : List ℕ) (trailer : ℕ) (k : List ℕ) (ks : List (List ℕ)) → Rise (Some k) ks → 0 < prefix_len (is_before user trailer) ks → is_before user trailer k ≡ true
head_rises user trailer k [] rise some = absurd (omega arith)
head_rises user trailer k (l ∷ ks) rise some = before_trans user trailer k l rise.0 (prefix_len_passes (is_before user trailer) (l ∷ ks) 0 l some)

tail_rises : (last : Option (List ℕ)) (k : List ℕ) (ks : List (List ℕ)) → Rise last (k ∷ ks) → Rise (Some k) ks
tail_rises None k ks rise = rise
tail_rises (Some last) k ks rise = rise.1

-- a key before the one that is looked for has all keys before it counted
pub counted : (user : List ℕ) (trailer : ℕ) (last : Option (List ℕ)) (ks : List (List ℕ)) (i : ℕ) → Rise last ks → i < length ks → is_before user trailer (get_or ks i []) ≡ true → i < prefix_len (is_before user trailer) ks
counted user trailer last [] i rise less e = absurd (omega arith)
counted user trailer last (k ∷ ks) zero rise less e =
    let is : prefix_len (is_before user trailer) (k ∷ ks) ≡ 1 + prefix_len (is_before user trailer) ks = ap (λ b. cond b (1 + prefix_len (is_before user trailer) ks) 0) e in
    omega arith
counted user trailer last (k ∷ ks) (suc i) rise less e =
    let behind = tail_rises last k ks rise in
    let others = counted user trailer (Some k) ks i behind (omega arith) e in
    one_more (is_before user trailer) k ks i (head_rises user trailer k ks behind (omega arith)) others

-- one that isn't before it ends the count
pub stops : (f : List ℕ → Bool) (ks : List (List ℕ)) (i : ℕ) → i < length ks → f (get_or ks i []) ≡ false → prefix_len f ks ≤ i
stops f ks i less e = elim (cases_lt i (prefix_len f ks)) [
  | inl more ↦ absurd (false≢true (sym e ∙ prefix_len_passes f ks i [] more))
  | inr upto ↦ upto
]

-- ---- keys of rows

pub key_at : (keys : List ℕ) (places : List Place) (i : ℕ) (d : Place) → i < length places → get_or (keys_of keys places) i [] ≡ key_in keys (get_or places i d)
key_at keys places i d less = get_or-map (key_in keys) places i d [] less

pub length-keys_of : (keys : List ℕ) (places : List Place) → length (keys_of keys places) ≡ length places
length-keys_of keys places = length-map places (key_in keys)

pub keys_of_rows : (keys bytes : List ℕ) (places : List Place) → map (λ (r : Row). r.key) (rows_of keys bytes places) ≡ keys_of keys places
keys_of_rows keys bytes [] = refl
keys_of_rows keys bytes (p ∷ places) = ap (λ ks. key_in keys p ∷ ks) (keys_of_rows keys bytes places)

pub place_of_rows : (user : List ℕ) (trailer : ℕ) (keys bytes : List ℕ) (places : List Place) → place_from user trailer (rows_of keys bytes places) ≡ prefix_len (is_before user trailer) (keys_of keys places)
place_of_rows user trailer keys bytes [] = refl
place_of_rows user trailer keys bytes (p ∷ places) = ap (λ n. cond (is_before user trailer (key_in keys p)) (1 + n) 0) (place_of_rows user trailer keys bytes places)

abbrev key : Row → List ℕ
key r = r.key

follow_rises : (kind : BlockKind) (last : Option Row) (rows : List Row) → Follow kind last rows → Rise (option_map key last) (map key rows)
follow_rises kind None [] h = tt
follow_rises kind (Some last) [] h = tt
follow_rises kind None (r ∷ rs) h = follow_rises kind (Some r) rs h.1
follow_rises kind (Some last) (r ∷ rs) h = ((and_parts _ _ (and_parts _ _ h.0).0).1, follow_rises kind (Some r) rs h.1)

pub follow_rise : (kind : BlockKind) (rows : List Row) → Follow kind None rows → Rise None (map (λ (r : Row). r.key) rows)
follow_rise kind rows h = follow_rises kind None rows h

pub have_keys : (keys bytes : ℕ) (places : List Place) → All (Lies keys bytes) places → All (HasKey keys) places
have_keys keys bytes places lie = λ k d less. let l = lie k d less in (l.key_order, l.in_keys)
