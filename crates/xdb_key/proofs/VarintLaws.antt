-- What is spelled is read again, and what is read is spelled so.
use Rattle.std.proofs.Common.{◌≡◌, ℕ, zero, suc, ◌+◌, ◌-◌, ◌*◌, ◌/◌, ◌%◌, ◌^◌, ◌<◌, ◌≤◌, true, false, cond, eqb, ltb, List, [], ◌∷◌, ◌++◌, length, take, drop, set, append_assoc, subst, Result, Ok, Err, sym, ap, ◌∙◌, arith, inl, inr}
use Rattle.std.proofs.lemmas.Bool.{lt-ltb, le-ltb, ltb-true, ltb-false, eqb-false, ne_eqb, cases_lt}
use Rattle.std.proofs.Math.Nat.{pow-succ', pow-le-pow_right}
use Rattle.std.proofs.Math.ListN.{length-set}
use Rattle.std.proofs.lemmas.List.{take_more_set, length-append, drop_at, take-append-drop}
use Rattle.xdb_key.proofs.ReadingLaws.{bind_ok, chosen, guard_ok, ok_parts, AreBytes-tail}
use Rattle.xdb_key.specs.Reading.{◌>>=◌, AreBytes}
use Rattle.xdb_key.specs.Varint.{groups_of, varint, with_low, more_at, varint_at}
use Rattle.xdb_key.specs.declared.error.VarintNo.{VarintNo}
use Rattle.xdb_key.specs.declared.error.VarintNo.TheVariants.{Overlong}

pub groups_of-last : (most n : ℕ) → n < 128 → groups_of (suc most) n ≡ n ∷ []
groups_of-last most n h = ap (λ b. cond b (n ∷ []) ((128 + n % 128) ∷ groups_of most (n / 128))) (lt-ltb n 128 h)

pub groups_of-more : (most n : ℕ) → 128 ≤ n → groups_of (suc most) n ≡ (128 + n % 128) ∷ groups_of most (n / 128)
groups_of-more most n h = ap (λ b. cond b (n ∷ []) ((128 + n % 128) ∷ groups_of most (n / 128))) (le-ltb n 128 h)

-- the last group
more_at-last : (most b : ℕ) (bs : List ℕ) → 0 < b → b < 128 → more_at (suc most) (b ∷ bs) ≡ Ok (b, bs)
more_at-last most b bs some small =
    ap (λ t. cond t (cond (eqb b 0) (Err Overlong) (Ok (b, bs))) (more_at most bs >>= λ x. Ok (with_low b x))) (lt-ltb b 128 small) ∙ ap (λ t. cond t (Err Overlong) (Ok (b, bs))) (ne_eqb b 0 (λ e. omega arith))

-- a group with others behind it
more_at-more : (most b : ℕ) (bs : List ℕ) → 128 ≤ b → more_at (suc most) (b ∷ bs) ≡ (more_at most bs >>= λ x. Ok (with_low b x))
more_at-more most b bs h =
    ap (λ t. cond t (cond (eqb b 0) (Err Overlong) (Ok (b, bs))) (more_at most bs >>= λ x. Ok (with_low b x))) (le-ltb b 128 h)

with_low-again : (n : ℕ) (rest : List ℕ) → 128 ≤ n → with_low (128 + n % 128) (n / 128, rest) ≡ (n, rest)
with_low-again n rest h = ap (λ m. (m, rest)) (omega arith)

pub more-again : (most n : ℕ) (rest : List ℕ) → 0 < n → n < 128 ^ most → more_at most (groups_of most n ++ rest) ≡ Ok (n, rest)
more-again zero n rest some small = absurd (omega arith)
more-again (suc most) n rest some small = elim (cases_lt n 128) [
  | inl low ↦ ap (λ bs. more_at (suc most) (bs ++ rest)) (groups_of-last most n low) ∙ more_at-last most n rest some low
  | inr high ↦
      let step : 128 ^ suc most ≡ 128 * 128 ^ most = pow-succ' 128 most in
      let less : n / 128 < 128 ^ most = omega arith in
      ap (λ bs. more_at (suc most) (bs ++ rest)) (groups_of-more most n high) ∙ more_at-more most _ _ (omega arith)
      ∙ ap (λ r. r >>= λ x. Ok (with_low (128 + n % 128) x)) (more-again most (n / 128) rest (omega arith) less) ∙ ap Ok (with_low-again n rest high)
]

varint_at-last : (b : ℕ) (bs : List ℕ) → b < 128 → varint_at (b ∷ bs) ≡ Ok (b, bs)
unfolding varint_at
varint_at-last b bs h = ap (λ t. cond t (Ok (b, bs)) (more_at 8 bs >>= λ x. Ok (with_low b x))) (lt-ltb b 128 h)

varint_at-more : (b : ℕ) (bs : List ℕ) → 128 ≤ b → varint_at (b ∷ bs) ≡ (more_at 8 bs >>= λ x. Ok (with_low b x))
unfolding varint_at
varint_at-more b bs h = ap (λ t. cond t (Ok (b, bs)) (more_at 8 bs >>= λ x. Ok (with_low b x))) (le-ltb b 128 h)

pub varint-last : (n : ℕ) → n < 128 → varint n ≡ n ∷ []
unfolding varint
varint-last n h = groups_of-last 8 n h

pub varint-more : (n : ℕ) → 128 ≤ n → varint n ≡ (128 + n % 128) ∷ groups_of 8 (n / 128)
unfolding varint
varint-more n h = groups_of-more 8 n h

-- what is spelled is read again
pub varint_at-again : (n : ℕ) (rest : List ℕ) → n < 2 ^ 63 → varint_at (varint n ++ rest) ≡ Ok (n, rest)
varint_at-again n rest small = elim (cases_lt n 128) [
  | inl low ↦ ap (λ bs. varint_at (bs ++ rest)) (varint-last n low) ∙ varint_at-last n rest low
  | inr high ↦
      let less : n / 128 < 128 ^ 8 = omega arith in
      let some : 0 < n / 128 = omega arith in
      ap (λ bs. varint_at (bs ++ rest)) (varint-more n high) ∙ varint_at-more (128 + n % 128) _ (omega arith)
      ∙ ap (λ r. r >>= λ x. Ok (with_low (128 + n % 128) x)) (more-again 8 (n / 128) rest some less) ∙ ap Ok (with_low-again n rest high)
]

-- a number was read from its spelling
record Found (bytes spelled rest : List ℕ) (n most : ℕ) : Type 0 where
  some : 0 < n
  small : n < most
  is : bytes ≡ spelled ++ rest

low-and-rest : (b m : ℕ) → 128 ≤ b → b < 256 → (128 + (b - 128 + 128 * m) % 128 ≡ b) × ((b - 128 + 128 * m) / 128 ≡ m)
low-and-rest b m high byte = (omega arith, omega arith)

pow-positive : (k : ℕ) → 0 < 128 ^ k
pow-positive zero = omega arith
pow-positive (suc k) =
    let before = pow-positive k in
    let step = pow-succ' 128 k in
    omega arith

found-last : (most b n : ℕ) (bs rest : List ℕ) → ltb b 128 ≡ true → eqb b 0 ≡ false → ◌≡◌ {A = Result (ℕ × List ℕ) VarintNo} (Ok (b, bs)) (Ok (n, rest)) → Found (b ∷ bs) (groups_of (suc most) n) rest n (128 ^ suc most)
found-last most b n bs rest low some e =
    let parts = ok_parts e in
    let number : b ≡ n = parts.0 in
    let after : bs ≡ rest = parts.1 in
    let below : b < 128 = ltb-true b 128 low in
    let nonzero : b ≡ 0 → ⊥ = eqb-false b 0 some in
    let step = pow-succ' 128 most in
    let positive : 0 < 128 ^ most = pow-positive most in
    record {
      some = omega arith;
      small = omega arith;
      is = sym (ap (λ x. x ++ rest) (groups_of-last most n (omega arith)) ∙ (λ i. sym number i ∷ sym after i));
    }

found-more : (most b n m : ℕ) (bs rest after : List ℕ) → ltb b 128 ≡ false → b < 256 → Found bs (groups_of most m) after m (128 ^ most) → ◌≡◌ {A = Result (ℕ × List ℕ) VarintNo} (Ok (with_low b (m, after))) (Ok (n, rest)) → Found (b ∷ bs) (groups_of (suc most) n) rest n (128 ^ suc most)
found-more most b n m bs rest after high byte f e =
    let pairs = ok_parts e in
    let number : b - 128 + 128 * m ≡ n = pairs.0 in
    let left : after ≡ rest = pairs.1 in
    let above : 128 ≤ b = ltb-false b 128 high in
    let step = pow-succ' 128 most in
    let some = f.some in
    let small = f.small in
    let parts = low-and-rest b m above byte in
    let low : 128 + n % 128 ≡ b = ap (λ k. 128 + k % 128) (sym number) ∙ parts.0 in
    let rest_of : n / 128 ≡ m = ap (λ k. k / 128) (sym number) ∙ parts.1 in
    let spelled : groups_of (suc most) n ≡ b ∷ groups_of most m = groups_of-more most n (omega arith) ∙ (λ i. low i ∷ groups_of most (rest_of i)) in
    record {
      some = omega arith;
      small = omega arith;
      is = ap (λ xs. b ∷ xs) f.is ∙ ap (λ xs. b ∷ groups_of most m ++ xs) left ∙ ap (λ xs. xs ++ rest) (sym spelled);
    }

more-takes : (most : ℕ) (bytes : List ℕ) (n : ℕ) (rest : List ℕ) → AreBytes bytes → more_at most bytes ≡ Ok (n, rest) → Found bytes (groups_of most n) rest n (128 ^ most)
more-takes zero bytes n rest fits e = cc
more-takes (suc most) [] n rest fits e = cc
more-takes (suc most) (b ∷ bs) n rest fits e = elim (chosen (ltb b 128) _ _ e) [
  | inl p ↦
      let g = guard_ok (eqb b 0) Overlong (Ok (b, bs)) p.1 in
      found-last most b n bs rest p.0 g.0 g.1
  | inr p ↦
      let x = bind_ok (more_at most bs) (λ x. Ok (with_low b x)) p.1 in
      found-more most b n x.0.0 bs rest x.0.1 p.0 (fits 0) (more-takes most bs x.0.0 x.0.1 (AreBytes-tail b bs fits) x.1) x.2
]

varint-takes_by : (b n : ℕ) (bs rest : List ℕ) → AreBytes (b ∷ bs) → varint_at (b ∷ bs) ≡ Ok (n, rest) → (n < 2 ^ 63) × (b ∷ bs ≡ groups_of 9 n ++ rest)
unfolding varint_at
varint-takes_by b n bs rest fits e = elim (chosen (ltb b 128) _ _ e) [
  | inl p ↦
      let parts = ok_parts p.1 in
      let number : b ≡ n = parts.0 in
      let after : bs ≡ rest = parts.1 in
      let below : b < 128 = ltb-true b 128 p.0 in
      (omega arith, sym (ap (λ x. x ++ rest) (groups_of-last 8 n (omega arith)) ∙ (λ i. sym number i ∷ sym after i)))
  | inr p ↦
      let x = bind_ok (more_at 8 bs) (λ x. Ok (with_low b x)) p.1 in
      let f = found-more 8 b n x.0.0 bs rest x.0.1 p.0 (fits 0) (more-takes 8 bs x.0.0 x.0.1 (AreBytes-tail b bs fits) x.1) x.2 in
      let small = f.small in
      (omega arith, f.is)
]

-- what is read is spelled so
pub varint_at-takes : (bytes rest : List ℕ) (n : ℕ) → AreBytes bytes → varint_at bytes ≡ Ok (n, rest) → (n < 2 ^ 63) × (bytes ≡ varint n ++ rest)
unfolding varint varint_at
varint_at-takes [] rest n fits e = cc
varint_at-takes (b ∷ bs) rest n fits e = varint-takes_by b n bs rest fits e

-- A writer's state: the groups so far go on with those of what is left.
pub record Spells (all groups : List ℕ) (len rest : ℕ) : Type 0 where
  pub full : length groups ≡ 9
  pub within : len ≤ 8
  pub small : rest < 128 ^ (9 - len)
  pub spelled : take len groups ++ groups_of (9 - len) rest ≡ all

few-left : (m rest : ℕ) → rest < 128 ^ suc m → 128 ≤ rest → (0 < m) × (rest / 128 < 128 ^ m)
few-left zero rest small high = absurd (omega arith)
few-left (suc m) rest small high =
    let step = pow-succ' 128 (suc m) in
    (omega arith, omega arith)

pub Spells-more : (all groups : List ℕ) (len rest : ℕ) → 128 ≤ rest → Spells all groups len rest → Spells all (set groups len (128 + rest % 128)) (len + 1) (rest / 128)
Spells-more all groups len rest high s =
    let full = s.full in
    let within = s.within in
    let left : 9 - len ≡ suc (8 - len) = omega arith in
    let next : 9 - (len + 1) ≡ 8 - len = omega arith in
    let few = few-left (8 - len) rest (subst (λ k. rest < 128 ^ k) left s.small) high in
    let some = few.0 in
    let front : take (len + 1) (set groups len (128 + rest % 128)) ≡ take len groups ++ (128 + rest % 128) ∷ [] = take_more_set groups len _ (omega arith) in
    let back : groups_of (9 - len) rest ≡ (128 + rest % 128) ∷ groups_of (8 - len) (rest / 128) = ap (λ k. groups_of k rest) left ∙ groups_of-more (8 - len) rest high in
    record {
      full = length-set groups len (128 + rest % 128) ∙ full;
      within = omega arith;
      small = subst (λ k. rest / 128 < 128 ^ k) (sym next) few.1;
      spelled = ap (λ x. x ++ groups_of (9 - (len + 1)) (rest / 128)) front ∙ append_assoc (take len groups) _ _
          ∙ ap (λ k. take len groups ++ (128 + rest % 128) ∷ groups_of k (rest / 128)) next ∙ ap (λ x. take len groups ++ x) (sym back) ∙ s.spelled;
    }

pub Spells-last : (all groups : List ℕ) (len rest : ℕ) → rest < 128 → Spells all groups len rest → take (len + 1) (set groups len rest) ≡ all
Spells-last all groups len rest low s =
    let full = s.full in
    let within = s.within in
    let left : 9 - len ≡ suc (8 - len) = omega arith in
    let front : take (len + 1) (set groups len rest) ≡ take len groups ++ rest ∷ [] = take_more_set groups len rest (omega arith) in
    front ∙ ap (λ x. take len groups ++ x) (sym (ap (λ k. groups_of k rest) left ∙ groups_of-last (8 - len) rest low)) ∙ s.spelled

-- a reader's number stays small
pub pow-small : (k : ℕ) → k ≤ 8 → 128 ^ k ≤ 2 ^ 56
pow-small k h = pow-le-pow_right {n = 128} (omega arith) {i = k} {j = 8} h

pub low-and-more : (most low high : ℕ) → 0 < most → low < 128 → high < 128 ^ (most - 1) → low + 128 * high < 128 ^ most
low-and-more most low high some small less =
    let is : most ≡ suc (most - 1) = omega arith in
    let step : 128 ^ most ≡ 128 * 128 ^ (most - 1) = ap (λ k. 128 ^ k) is ∙ pow-succ' 128 (most - 1) in
    omega arith

-- the place after what was read
pub place-after : (bytes front rest : List ℕ) (at : ℕ) → at ≤ length bytes → drop at bytes ≡ front ++ rest → drop (length bytes - length rest) bytes ≡ rest
place-after bytes front rest at within is =
    let whole : bytes ≡ (take at bytes ++ front) ++ rest = sym (take-append-drop at bytes) ∙ ap (λ x. take at bytes ++ x) is ∙ sym (append_assoc (take at bytes) front rest) in
    let sums : length bytes ≡ length (take at bytes ++ front) + length rest = ap length whole ∙ length-append (take at bytes ++ front) rest in
    ap (drop (length bytes - length rest)) whole ∙ drop_at (take at bytes ++ front) rest (length bytes - length rest) (omega arith)
