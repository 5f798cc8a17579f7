-- Bounds that rise, the places of spans among them, and the numbers of strips over a gap.
use Rattle.std.proofs.Common.{◌≡◌, ℕ, zero, suc, ◌+◌, max, ◌<◌, ◌≤◌, ◌^◌, true, false, not, ◌&&◌, cond, ltb, leb, eqb, List, [], ◌∷◌, ◌++◌, length, get_or, take, map, inl, inr, ◌⊎◌, IsTrue, refl, sym, ap, ◌∙◌, subst, arith}
use Rattle.std.proofs.lemmas.Bool.{cases_Bool, cases_order, cases_lt, and_parts, and_from, and_left, and_right, or_cases, or_left, or_right, false≢true, ltb-true, leb-true, eqb-true, eq-eqb, lt-ltb, le-ltb, le-leb, lt-leb}
use Rattle.std.proofs.lemmas.List.{take_more}
use Rattle.std.proofs.Math.Numerals.{add-one}
use Rattle.std.proofs.lemmas.List.Elements.{All-push, All-cons, All-weaker, All-from_recursion}
use Rattle.std.proofs.lemmas.List.Sorted.{Contains-permutation, IsPermutation-sym}
use Rattle.std.proofs.lemmas.List.Kept.{AllPairs-cons, Contains-dedup, Contains-from_dedup}
use Rattle.std.specs.List.{All, AllPairs, dedup, prefix_len}
use Rattle.std.specs.List.Sorted.{IsPartitionPoint, IsPartitionedBy, IsPermutation, IsStrictlySortedBy}
use Rattle.std.specs.Ordering.{is_lt, nat_cmp, ordering_then}
use Rattle.std.specs.Cmp.Lexicographic.{pointwise, nat_list_eq_equiv, same_text}
use Rattle.std.specs.Prelude.{nat_eq}
use Rattle.std.specs.declared.cmp.Ordering.TheVariants.{Less, Equal}
use Rattle.std.specs.Cmp.{nat_cmp_is}
use Rattle.std.proofs.lemmas.List.Sums.{prefix_len_is, prefix_len-le-length}
use Rattle.xdb_key.specs.Order.{key_cmp, is_below, is_upto}
use Rattle.xdb_key.specs.Bounds.{holds}
use Rattle.xdb_key.specs.Entries.{Tombstone}
use Rattle.xdb_key.proofs.OrderLaws.{upto-not_below, below_trans}
use Rattle.xdb_rangedel.specs.Members.{Has, SameMembers}
use Rattle.xdb_rangedel.specs.Pieces.{ends}
use Rattle.xdb_rangedel.specs.Sweep.{IsRising, place_of, is_between, strip_of, FitsGaps, comes_first, lies_over}
use Rattle.xdb_rangedel.specs.declared.sweep.Strip.{Strip}
use Rattle.xdb_rangedel.proofs.MemberLaws.{Has-from_Contains, Contains-from_Has}
use Rattle.xdb_rangedel.proofs.FragmentLaws.{AllPairs-head, AllPairs-tail}

-- the ends of a longer list

ends-push : (ts : List Tombstone) (t : Tombstone) → ends (ts ++ t ∷ []) ≡ ends ts ++ t.range.lo ∷ [] ++ t.range.hi ∷ []
ends-push [] t = refl
ends-push (u ∷ ts) t = ap (λ bs. u.range.lo ∷ u.range.hi ∷ bs) (ends-push ts t)

pub ends_more : (ts : List Tombstone) (i : ℕ) (t : Tombstone) → i < length ts → t ≡ get_or ts i t → ends (take (i + 1) ts) ≡ ends (take i ts) ++ t.range.lo ∷ [] ++ t.range.hi ∷ []
ends_more ts i t inside e =
    ap ends (take_more ts i t inside) ∙ ap (λ x. ends (take i ts ++ x ∷ [])) (sym e) ∙ ends-push (take i ts) t

-- bounds that rise

rising_by : (bs : List (List ℕ)) → IsStrictlySortedBy key_cmp bs → IsRising bs
unfolding IsStrictlySortedBy
rising_by [] h = λ i j d less inside. absurd (omega arith)
rising_by (b ∷ bs) h =
    AllPairs-cons (λ x y. IsTrue (is_below x y)) b bs (λ k d l. ap is_lt (All-from_recursion (λ y. key_cmp b y ≡ Less) bs h.0 k d l)) (rising_by bs h.1)

pub rising_from_sorted : (bs : List (List ℕ)) → IsStrictlySortedBy key_cmp bs → IsRising bs
rising_from_sorted bs h = rising_by bs h

pub rising-partitioned : (at : List ℕ) (bs : List (List ℕ)) → IsRising bs → IsPartitionedBy (λ b. is_below b at) bs
rising-partitioned at bs rising = λ i j d le inside h. elim (cases_order i j) [
  | inl e ↦ ap (λ n. is_below (get_or bs n d) at) e ∙ h
  | inr (inl less) ↦ below_trans (get_or bs i d) (get_or bs j d) at (rising i j d less inside) h
  | inr (inr more) ↦ absurd (omega arith)
]

-- the place of a bound

place_of-is : (bs : List (List ℕ)) (at : List ℕ) → place_of bs at ≡ prefix_len (λ b. is_below b at) bs
place_of-is [] at = refl
place_of-is (b ∷ bs) at =
    let one : suc (place_of bs at) ≡ 1 + prefix_len (λ x. is_below x at) bs = omega (arith, place_of-is bs at) in
    ap (λ n. cond (is_below b at) n 0) one

pub place_of-split : (at : List ℕ) (bs : List (List ℕ)) (n : ℕ) → n ≤ length bs → IsPartitionPoint (λ b. is_below b at ≡ true) (λ b. is_below b at ≡ false) bs n → n ≡ place_of bs at
place_of-split at bs n inside split =
    sym (place_of-is bs at ∙ prefix_len_is (λ b. is_below b at) bs n [] inside (λ k a. split.0 k [] (omega arith) a) (λ l. split.1 n [] (omega arith) l))

pub place_of-inside : (bs : List (List ℕ)) (at : List ℕ) → place_of bs at ≤ length bs
place_of-inside bs at = omega (arith, place_of-is bs at, prefix_len-le-length (λ b. is_below b at) bs)

-- what stands before its place is below, and what doesn't is not
place_of-tells : (bs : List (List ℕ)) (at : List ℕ) (j : ℕ) (d : List ℕ) → IsRising bs → j < length bs → ltb j (place_of bs at) ≡ is_below (get_or bs j d) at
place_of-tells [] at j d rising inside = absurd (omega arith)
place_of-tells (b ∷ bs) at zero d rising inside = elim (cases_Bool (is_below b at)) [
  | inl h ↦ ap (λ x. ltb 0 (cond x (suc (place_of bs at)) 0)) h ∙ lt-ltb 0 (suc (place_of bs at)) (omega arith) ∙ sym h
  | inr h ↦ ap (λ x. ltb 0 (cond x (suc (place_of bs at)) 0)) h ∙ sym h
]
place_of-tells (b ∷ bs) at (suc j) d rising inside = elim (cases_Bool (is_below b at)) [
  | inl h ↦ ap (λ x. ltb (suc j) (cond x (suc (place_of bs at)) 0)) h ∙ suc_test j (place_of bs at) ∙ place_of-tells bs at j d (AllPairs-tail (λ x y. IsTrue (is_below x y)) b bs rising) (omega arith)
  | inr h ↦ ap (λ x. ltb (suc j) (cond x (suc (place_of bs at)) 0)) h ∙ le-ltb (suc j) 0 (omega arith) ∙ sym (above b (get_or bs j d) h (rising 0 (suc j) d (omega arith) inside))
] where
  suc_test : (m n : ℕ) → ltb (suc m) (suc n) ≡ ltb m n
  suc_test m n = elim (cases_lt m n) [
    | inl h ↦ lt-ltb (suc m) (suc n) (omega arith) ∙ sym (lt-ltb m n h)
    | inr h ↦ le-ltb (suc m) (suc n) (omega arith) ∙ sym (le-ltb m n h)
  ]

  above : (x y : List ℕ) → is_below x at ≡ false → is_below x y ≡ true → is_below y at ≡ false
  above x y h g = elim (cases_Bool (is_below y at)) [ inl e ↦ absurd (false≢true (sym h ∙ below_trans x y at g e)) | inr e ↦ e ]

pub leb-not : (m n : ℕ) → leb m n ≡ not (ltb n m)
leb-not m n = elim (cases_lt n m) [
  | inl h ↦ lt-leb m n h ∙ sym (ap not (lt-ltb n m h))
  | inr h ↦ le-leb m n h ∙ sym (ap not (le-ltb n m h))
]

-- a span's strip lies over the gaps whose first key the span holds
pub lies_over-strip_of : (bs : List (List ℕ)) (t : Tombstone) (j : ℕ) (d : List ℕ) → IsRising bs → j < length bs → lies_over j (strip_of bs t) ≡ holds t.range (get_or bs j d)
lies_over-strip_of bs t j d rising inside =
    ap (λ x. x && ltb j (place_of bs t.range.hi)) (leb-not (place_of bs t.range.lo) j ∙ ap not (place_of-tells bs t.range.lo j d rising inside) ∙ sym (upto-not_below t.range.lo (get_or bs j d)))
    ∙ ap (λ x. is_upto t.range.lo (get_or bs j d) && x) (place_of-tells bs t.range.hi j d rising inside)

-- a strip more

pub strip_pushed : (bs : List (List ℕ)) (spans : List Tombstone) (old new : List Strip) (i : ℕ) (t : Tombstone) (strip : Strip) → i < length spans → t ≡ get_or spans i t → old ≡ map (strip_of bs) (take i spans) → new ≡ old ++ strip ∷ [] → strip ≡ strip_of bs t → new ≡ map (strip_of bs) (take (i + 1) spans)
strip_pushed bs spans old new i t strip inside at_t olds news same =
    news ∙ (λ x. olds x ++ same x ∷ []) ∙ sym (ap (map (strip_of bs)) (take_more spans i t inside ∙ ap (λ x. take i spans ++ x ∷ []) (sym at_t)) ∙ map_pushed (take i spans))
  where
    map_pushed : (ts : List Tombstone) → map (strip_of bs) (ts ++ t ∷ []) ≡ map (strip_of bs) ts ++ strip_of bs t ∷ []
    map_pushed [] = refl
    map_pushed (u ∷ ts) = ap (λ ss. strip_of bs u ∷ ss) (map_pushed ts)

pub fits_pushed : (bs : List (List ℕ)) (old new : List Strip) (t : Tombstone) (strip : Strip) → All (FitsGaps (length bs)) old → new ≡ old ++ strip ∷ [] → strip ≡ strip_of bs t → t.seq < 2 ^ 56 → All (FitsGaps (length bs)) new
fits_pushed bs old new t strip fits news same small =
    subst (All (FitsGaps (length bs))) (sym news) (All-push (FitsGaps (length bs)) old strip fits (subst (FitsGaps (length bs)) (sym same) (place_of-inside bs t.range.hi, small)))

pub same_strip : (bs : List (List ℕ)) (t : Tombstone) (n from to : ℕ) → n ≡ t.seq → from ≡ place_of bs t.range.lo → to ≡ place_of bs t.range.hi → ◌≡◌ {A = Strip} (record { number = record { 0 = n }; from = from; to = to }) (strip_of bs t)
same_strip bs t n from to e f g = λ i. record { number = record { 0 = e i }; from = f i; to = g i }

-- writing a column

-- nothing lies between a place and itself, or one before it
pub none_between : (from to j : ℕ) → to ≤ from → is_between from to j ≡ false
none_between from to j h = elim (cases_lt j from) [
  | inl less ↦ and_left (leb from j) (ltb j to) (lt-leb from j less)
  | inr more ↦ and_right (leb from j) (ltb j to) (le-ltb j to (omega arith))
]

-- the last place that the loop comes to

pub write_all : (old now : List ℕ) (from to at j seq : ℕ) → to ≤ at → from ≤ at → at ≤ max from to → now ≡ old ++ cond (is_between from at j) (seq ∷ []) [] → now ≡ old ++ cond (is_between from to j) (seq ∷ []) []
write_all old now from to at j seq past started within known = elim (cases_lt to from) [
  | inl less ↦ known ∙ ap (λ b. old ++ cond b (seq ∷ []) []) (none_between from at j (omega arith) ∙ sym (none_between from to j (omega arith)))
  | inr more ↦ let same : at ≡ to = omega arith in known ∙ ap (λ n. old ++ cond (is_between from n j) (seq ∷ []) []) same
]

-- two bounds more

pub ends_pushed : (ts : List Tombstone) (i : ℕ) (t : Tombstone) (b0 b1 b2 : List (List ℕ)) (lo hi : List ℕ) → i < length ts → t ≡ get_or ts i t → b0 ≡ ends (take i ts) → b1 ≡ b0 ++ lo ∷ [] → b2 ≡ b1 ++ hi ∷ [] → lo ≡ t.range.lo → hi ≡ t.range.hi → b2 ≡ ends (take (i + 1) ts)
ends_pushed ts i t b0 b1 b2 lo hi inside at_t e0 e1 e2 los his =
    e2 ∙ (λ x. (e1 ∙ (λ y. e0 y ++ los y ∷ [])) x ++ his x ∷ []) ∙ sym (ends_more ts i t inside at_t)

-- sorting keeps the members, and leaving out repetitions too

pub same_after_sort : {A : Type 0} (xs ys : List A) → IsPermutation xs ys → SameMembers ys xs
same_after_sort xs ys p = λ x. (
  (λ h. Has-from_Contains xs x (Contains-permutation ys xs x (IsPermutation-sym xs ys p) (Contains-from_Has ys x h))),
  (λ h. Has-from_Contains ys x (Contains-permutation xs ys x p (Contains-from_Has xs x h))),
)

pub same_after_dedup : (xs ys zs : List (List ℕ)) → IsPermutation xs ys → zs ≡ dedup (pointwise nat_eq) ys → SameMembers zs xs
same_after_dedup xs ys zs p e = λ x. (
  (λ h. (same_after_sort xs ys p x).0 (Has-from_Contains ys x (Contains-from_dedup (pointwise nat_eq) ys x (Contains-from_Has (dedup (pointwise nat_eq) ys) x (subst (λ l. Has l x) e h))))),
  (λ h. subst (λ l. Has l x) (sym e) (Has-from_Contains (dedup (pointwise nat_eq) ys) x (Contains-dedup nat_list_eq_equiv (λ a b g. same_text a b (sym g)) ys x (Contains-from_Has ys x ((same_after_sort xs ys p x).1 h))))),
)

-- strips in order

first_below : (a b : Strip) → b.number.0 < a.number.0 → comes_first a b ≡ true
first_below a b less = or_left (ltb b.number.0 a.number.0) (eqb b.number.0 a.number.0 && leb a.from b.from) (lt-ltb b.number.0 a.number.0 less)

first_level : (a b : Strip) → b.number.0 ≡ a.number.0 → a.from ≤ b.from → comes_first a b ≡ true
first_level a b e le =
    or_right (ltb b.number.0 a.number.0) (eqb b.number.0 a.number.0 && leb a.from b.from) (and_from (eqb b.number.0 a.number.0) (leb a.from b.from) (eq-eqb b.number.0 a.number.0 e) (le-leb a.from b.from le))

pub first_tells : (s t : Strip) → comes_first s t ≡ true → (t.number.0 < s.number.0) ⊎ ((t.number.0 ≡ s.number.0) × (s.from ≤ t.from))
first_tells s t h = elim (or_cases (ltb t.number.0 s.number.0) (eqb t.number.0 s.number.0 && leb s.from t.from) h) [
  | inl less ↦ inl (ltb-true t.number.0 s.number.0 less)
  | inr both ↦
      let (e, f) = and_parts (eqb t.number.0 s.number.0) (leb s.from t.from) both in
      inr (eqb-true t.number.0 s.number.0 e, leb-true s.from t.from f)
]

first_trans : (a b c : Strip) → comes_first a b ≡ true → comes_first b c ≡ true → comes_first a c ≡ true
first_trans a b c p q = elim (first_tells a b p) [
  | inl down ↦ elim (first_tells b c q) [
    | inl more ↦ first_below a c (omega arith)
    | inr (e, le) ↦ first_below a c (omega arith)
  ]
  | inr (e, le) ↦ elim (first_tells b c q) [
    | inl more ↦ first_below a c (omega arith)
    | inr (f, le2) ↦ first_level a c (f ∙ e) (omega arith)
  ]
]

not_less_first : (a b : Strip) → is_lt (ordering_then (nat_cmp a.number.0 b.number.0) (ordering_then (nat_cmp b.from a.from) (nat_cmp b.to a.to))) ≡ false → comes_first a b ≡ true
not_less_first a b h = elim (cases_order a.number.0 b.number.0) [
  | inl e ↦ elim (cases_lt b.from a.from) [
    | inl less ↦ absurd (false≢true (sym h ∙ ap (λ r. is_lt (ordering_then r (ordering_then (nat_cmp b.from a.from) (nat_cmp b.to a.to)))) (sym (nat_cmp_is a.number.0 b.number.0 Equal e)) ∙ ap (λ r. is_lt (ordering_then r (nat_cmp b.to a.to))) (sym (nat_cmp_is b.from a.from Less less))))
    | inr le ↦ first_level a b (sym e) le
  ]
  | inr (inl less) ↦ absurd (false≢true (sym h ∙ ap (λ r. is_lt (ordering_then r (ordering_then (nat_cmp b.from a.from) (nat_cmp b.to a.to)))) (sym (nat_cmp_is a.number.0 b.number.0 Less less))))
  | inr (inr more) ↦ first_below a b more
]

in_order_by : (ss : List Strip) → ((k : ℕ) (d : Strip) → suc k < length ss → comes_first (get_or ss k d) (get_or ss (suc k) d) ≡ true) → AllPairs (λ s t. IsTrue (comes_first s t)) ss
in_order_by [] h = λ i j d less inside. absurd (omega arith)
in_order_by (s ∷ []) h = λ i j d less inside. absurd (omega arith)
in_order_by (s ∷ t ∷ ss) h =
    let rest = in_order_by (t ∷ ss) (λ k d l. h (suc k) d (omega arith)) in
    let first : comes_first s t ≡ true = h 0 s (omega arith) in
    AllPairs-cons (λ x y. IsTrue (comes_first x y)) s (t ∷ ss)
    (All-cons (λ y. IsTrue (comes_first s y)) t ss first (All-weaker (λ y. IsTrue (comes_first t y)) (λ y. IsTrue (comes_first s y)) (λ y g. first_trans s t y first g) ss (AllPairs-head (λ x y. IsTrue (comes_first x y)) t ss rest)))
    rest

pub in_order_sorted : (ss : List Strip) → ((k : ℕ) (d : Strip) → 0 ≤ k → k + 1 < length ss → is_lt (ordering_then (nat_cmp (get_or ss k d).number.0 (get_or ss (k + 1) d).number.0) (ordering_then (nat_cmp (get_or ss (k + 1) d).from (get_or ss k d).from) (nat_cmp (get_or ss (k + 1) d).to (get_or ss k d).to))) ≡ false) → AllPairs (λ s t. IsTrue (comes_first s t)) ss
in_order_sorted ss h = in_order_by ss (λ k d l.
    subst (λ n. comes_first (get_or ss k d) (get_or ss n d) ≡ true) (add-one k) (not_less_first (get_or ss k d) (get_or ss (k + 1) d) (h k d (omega arith) (omega arith))))
