-- Stripes: they rise with the numbers, and two numbers with a stripe between them lie in different ones.
use Rattle.std.proofs.Common.{◌≡◌, ℕ, ◌+◌, ◌<◌, ◌≤◌, ◌^◌, true, false, ◌&&◌, ◌==◌, cond, ltb, leb, List, [], ◌∷◌, length, get_or, inl, inr, ◌⊎◌, refl, sym, ap, ◌∙◌, subst, arith}
use Rattle.std.proofs.lemmas.Bool.{cases_lt, le-leb, lt-leb, lt-ltb, le-ltb, leb-true, leb-false, ltb-true, eqb-true, eq-eqb, ne_eqb, and_parts, and_from, true≢false}
use Rattle.std.proofs.lemmas.List.{get_or_default}
use Rattle.std.specs.List.Sorted.{IsNonDecreasing, IsPartitionPoint}
use Rattle.xdb_rangedel.specs.Members.{Has}
use Rattle.xdb_rangedel.proofs.MemberLaws.{Contains-from_Has, Has-get_or}
use Rattle.xdb_stripes.specs.Stripes.{stripe, outranks}
use Rattle.xdb_stripes.specs.Steps.{IsEnd}
use Rattle.xdb_stripes.proofs.AnyLaws.{both_ways}

-- a stripe counts for all numbers from it on
counted : (s m n : ℕ) → m ≤ n → cond (leb s m) 1 0 ≤ cond (leb s n) 1 0
counted s m n h = elim (cases_lt m s) [
  | inl below ↦ rw (lt-leb s m below) (omega arith)
  | inr above ↦ rw (le-leb s m above, le-leb s n (omega arith)) (omega arith)
]

pub stripe_rises : (ss : List ℕ) (m n : ℕ) → m ≤ n → stripe ss m ≤ stripe ss n
stripe_rises [] m n h = omega arith
stripe_rises (s ∷ ss) m n h = omega (arith, counted s m n h, stripe_rises ss m n h)

between : (s m n : ℕ) → m < s → s ≤ n → cond (leb s m) 1 0 + 1 ≡ cond (leb s n) 1 0
between s m n h g = rw (lt-leb s m h, le-leb s n g) refl

pub stripe_between : (ss : List ℕ) (s m n : ℕ) → Has ss s → m < s → s ≤ n → stripe ss m < stripe ss n
stripe_between [] s m n h low high = absurd h
stripe_between (x ∷ ss) s m n (inl e) low high =
    let low_x : m < x = omega (arith, e) in
    let high_x : x ≤ n = omega (arith, e) in
    let more = stripe_rises ss m n (omega arith) in
    omega (arith, between x m n low_x high_x, more)
stripe_between (x ∷ ss) s m n (inr h) low high =
    omega (arith, counted x m n (omega arith), stripe_between ss s m n h low high)

-- two numbers with no stripe between them
pub stripe_same : (ss : List ℕ) (m n : ℕ) → ((s : ℕ) → Has ss s → leb s m ≡ leb s n) → stripe ss m ≡ stripe ss n
stripe_same [] m n h = refl
stripe_same (s ∷ ss) m n h = λ i. cond (h s (inl refl) i) 1 0 + stripe_same ss m n (λ x g. h x (inr g)) i

pub outranks-tells : (ss : List ℕ) (m n : ℕ) → outranks ss m n ≡ true → (n < m) × (stripe ss m ≡ stripe ss n)
outranks-tells ss m n h =
    let (less, same) = and_parts (ltb n m) (stripe ss m == stripe ss n) h in
    (ltb-true n m less, eqb-true (stripe ss m) (stripe ss n) same)

-- below a stripe, what outranks a number stands below it too
pub outranks_below : (ss : List ℕ) (s m n : ℕ) → Has ss s → n < s → outranks ss m n ≡ true → m < s
outranks_below ss s m n h low e =
    let tells = outranks-tells ss m n e in
    elim (cases_lt m s) [
      | inl below ↦ below
      | inr above ↦ absurd (let less = stripe_between ss s n m h low above in omega (arith, tells.1, less))
    ]

-- the end of a stripe, found by a search

is_in : (ss : List ℕ) (n limit m : ℕ) → ((s : ℕ) → Has ss s → leb s n ≡ true ⊎ (limit ≤ s)) → n < m → m < limit → outranks ss m n ≡ true
is_in ss n limit m apart more less =
    and_from (ltb n m) (stripe ss m == stripe ss n) (lt-ltb n m more) (eq-eqb (stripe ss m) (stripe ss n) (stripe_same ss m n (λ s h. elim (apart s h) [
      | inl low ↦ let up : s ≤ n = leb-true s n low in le-leb s m (omega arith) ∙ sym low
      | inr high ↦ lt-leb s m (omega arith) ∙ sym (lt-leb s n (omega arith))
    ])))

-- where the limit is the least stripe above the number
end_at : (ss : List ℕ) (n at limit m : ℕ) → IsNonDecreasing ss → IsPartitionPoint (λ s. leb s n ≡ true) (λ s. leb s n ≡ false) ss at → at < length ss → limit ≡ get_or ss at limit → outranks ss m n ≡ (ltb n m && ltb m limit)
end_at ss n at limit m rising split inside there =
    let above : n < limit = leb-false limit n (ap (λ x. leb x n) there ∙ split.1 at limit (omega arith) inside) in
    let has : Has ss limit = subst (λ x. Has ss x) (sym there) (Has-get_or ss at limit inside) in
    both_ways (outranks ss m n) (ltb n m && ltb m limit)
    (λ h. and_from (ltb n m) (ltb m limit) (lt-ltb n m (outranks-tells ss m n h).0) (lt-ltb m limit (outranks_below ss limit m n has above h)))
    (λ h.
    let (more, less) = and_parts (ltb n m) (ltb m limit) h in
    is_in ss n limit m (λ s g.
    let (j, at_j, e) = Contains-from_Has ss s g in
    elim (cases_lt j at) [
      | inl low ↦ inl (ap (λ x. leb x n) (sym e) ∙ split.0 j s (omega arith) low)
      | inr high ↦ inr (let up = rising at j s high at_j in
          let first : get_or ss at s ≡ limit = get_or_default ss at s limit inside ∙ sym there in
          omega arith)
    ]) (ltb-true n m more) (ltb-true m limit less))

-- where no stripe is above the number, and all numbers are below the limit
end_above : (ss : List ℕ) (n at limit m : ℕ) → IsPartitionPoint (λ s. leb s n ≡ true) (λ s. leb s n ≡ false) ss at → length ss ≤ at → m < limit → outranks ss m n ≡ (ltb n m && ltb m limit)
end_above ss n at limit m split inside less =
    both_ways (outranks ss m n) (ltb n m && ltb m limit)
    (λ h. and_from (ltb n m) (ltb m limit) (lt-ltb n m (outranks-tells ss m n h).0) (lt-ltb m limit less))
    (λ h. is_in ss n limit m (λ s g.
    let (j, at_j, e) = Contains-from_Has ss s g in
    inl (ap (λ x. leb x n) (sym e) ∙ split.0 j s (omega arith) (omega arith))) (ltb-true n m (and_parts (ltb n m) (ltb m limit) h).0) less)

pub is_end_at : (ss : List ℕ) (n at limit : ℕ) → IsNonDecreasing ss → IsPartitionPoint (λ s. leb s n ≡ true) (λ s. leb s n ≡ false) ss at → at < length ss → limit ≡ get_or ss at limit → IsEnd ss n limit
is_end_at ss n at limit rising split inside there = record {
  above = leb-false limit n (ap (λ x. leb x n) there ∙ split.1 at limit (omega arith) inside);
  same = λ m small. end_at ss n at limit m rising split inside there;
}

pub is_end_above : (ss : List ℕ) (n at limit : ℕ) → n < 2 ^ 56 → 2 ^ 56 ≤ limit → IsPartitionPoint (λ s. leb s n ≡ true) (λ s. leb s n ≡ false) ss at → length ss ≤ at → IsEnd ss n limit
is_end_above ss n at limit small great split past = record {
  above = omega arith;
  same = λ m low. end_above ss n at limit m split past (omega arith);
}

-- below all stripes

uncounted : (s n : ℕ) → n < s → ◌≡◌ {A = ℕ} (cond (leb s n) 1 0) 0
uncounted s n h = ap (λ b. cond b 1 0) (lt-leb s n h)

counts : (s n : ℕ) → s ≤ n → ◌≡◌ {A = ℕ} (cond (leb s n) 1 0) 1
counts s n h = ap (λ b. cond b 1 0) (le-leb s n h)

stripe_none : (ss : List ℕ) (n : ℕ) → ((s : ℕ) → Has ss s → n < s) → stripe ss n ≡ 0
stripe_none [] n h = refl
stripe_none (s ∷ ss) n h =
    let rest = stripe_none ss n (λ x g. h x (inr g)) in
    omega (arith, uncounted s n (h s (inl refl)))

pub lowest : (ss : List ℕ) (n : ℕ) → IsNonDecreasing ss → (length ss == 0) ≡ false → ltb n (get_or ss 0 0) ≡ (stripe ss n == 0)
lowest [] n rising h = absurd (true≢false h)
lowest (s ∷ ss) n rising h = elim (cases_lt n s) [
  | inl below ↦
      let none : stripe (s ∷ ss) n ≡ 0 = stripe_none (s ∷ ss) n (λ x g.
      let (j, at_j, e) = Contains-from_Has (s ∷ ss) x g in
      let up = rising 0 j x (omega arith) at_j in
      omega arith) in
      lt-ltb n s below ∙ sym (eq-eqb (stripe (s ∷ ss) n) 0 none)
  | inr above ↦ le-ltb n s above ∙ sym (ne_eqb (stripe (s ∷ ss) n) 0 (λ e. absurd (omega (arith, counts s n above))))
]

-- ends of stripes, used

pub outranks-from : (ss : List ℕ) (m n : ℕ) → n < m → stripe ss m ≡ stripe ss n → outranks ss m n ≡ true
outranks-from ss m n less same = and_from (ltb n m) (stripe ss m == stripe ss n) (lt-ltb n m less) (eq-eqb (stripe ss m) (stripe ss n) same)

-- what outranks a number lies before the end of its stripe, and what lies between the two outranks it
pub ended : (ss : List ℕ) (m n limit : ℕ) → IsEnd ss n limit → m < 2 ^ 56 → outranks ss m n ≡ true → ltb m limit ≡ true
ended ss m n limit end small h = (and_parts (ltb n m) (ltb m limit) (sym (end.same m small) ∙ h)).1

pub within : (ss : List ℕ) (m n limit : ℕ) → IsEnd ss n limit → m < 2 ^ 56 → n < m → ltb m limit ≡ true → outranks ss m n ≡ true
within ss m n limit end small more less = end.same m small ∙ and_from (ltb n m) (ltb m limit) (lt-ltb n m more) less
